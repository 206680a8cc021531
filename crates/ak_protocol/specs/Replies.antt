-- The replies of a server, by their form.
use Rattle.std.specs.FinMap.{entries}
use Rattle.std.specs.Prelude.{ℕ, ℤ, pos, map, true, int_div, []}
use Rattle.ak_base.specs.declared.heads.Head.{Head}
use Rattle.ak_keep.specs.Collections.{Collection}
use Rattle.ak_messages.specs.declared.replies.Give.{Give}
use Rattle.ak_messages.specs.declared.replies.Give.TheVariants as gives
use Rattle.ak_messages.specs.declared.replies.MetaReply.{MetaReply}
use Rattle.ak_messages.specs.declared.replies.Reply.{Reply}
use Rattle.ak_messages.specs.declared.replies.Word.{Word}
use Rattle.ak_messages.specs.declared.replies.Word.TheVariants as words
use Rattle.ak_messages.specs.declared.requests.Whole.{Whole}
use Rattle.ak_session.specs.Objections.{Objection, MayNotCome, WrongUsn, NoNumber, TooManyRows, WrongRow, WrongNewer}

-- 200: what was asked is done, and this is given
abbrev pub granted : Give → Reply
granted give = record { status = 200; word = words.Ok; seen = pos 0; give = give }

-- what is not done gives nothing
abbrev pub declined : ℕ → Word → ℤ → Reply
declined status word seen = record { status = status; word = word; seen = seen; give = gives.Nothing }

-- why an account refuses a request
pub data Refusal : Type 0 where
  -- its base is not the moment of the committed collection, which is this
  PastBase : (moment : ℤ) → Refusal
  -- no session of its key is live
  NoSession : Refusal
  -- its step is not the one after the last, which is this
  WrongStep : (last : ℕ) → Refusal
  -- its session, whose last step is this, refuses it, over a committed collection with this usn
  Objected : (why : Objection) → (last : ℕ) → (usn : ℤ) → Refusal

-- the reply to a request that its session refuses, after this last step and over this usn of the server's
abbrev pub objected : Objection → ℕ → ℤ → Reply
objected MayNotCome last usn = declined 409 words.Step (pos last)
objected WrongUsn last usn = declined 409 words.Usn usn
objected NoNumber last usn = declined 409 words.Sequence usn
objected TooManyRows last usn = declined 400 words.Rows (pos 0)
objected WrongRow last usn = declined 400 words.Row (pos 0)
objected WrongNewer last usn = declined 400 words.Newer (pos 0)

-- the reply to a request that an account refuses
abbrev pub refused : Refusal → Reply
refused (PastBase moment) = declined 409 words.Base moment
refused NoSession = declined 409 words.NoSession (pos 0)
refused (WrongStep last) = declined 409 words.Step (pos last)
refused (Objected why last usn) = objected why last usn

-- the reply to a request whose host key is no account's
abbrev pub unknown_key : Reply
unknown_key = declined 403 words.Key (pos 0)

-- the reply if the account's keeper failed
abbrev pub keeper_failed : Reply
keeper_failed = declined 503 words.Keeper (pos 0)

-- the reply if memory ran out
abbrev pub out_of_memory : Reply
out_of_memory = declined 500 words.Memory (pos 0)

-- the reply to a meta, by the head of the committed collection and the moment of the serving: both moments, the second, the usn
-- that the next sync gives, no media, no text for the user, and the sync may go on
abbrev pub meta_reply : Head → ℤ → MetaReply
meta_reply head now = record {
  scm = head.schema;
  ts = int_div now (pos 1000);
  moment = head.moment;
  usn = head.usn;
  musn = pos 0;
  msg = [];
  cont = true;
}

-- a collection as it is sent: all of its rows by table and id, graves too, with their usns, and its head but for the moment of
-- its last sync
abbrev pub whole_of : Collection → Whole
whole_of c = record {
  rows = map (λ entry. entry.1) (entries c.rows);
  crt = c.head.crt;
  moment = c.head.moment;
  schema = c.head.schema;
  usn = c.head.usn;
  conf = c.head.conf;
  tags = c.head.tags;
}

-- the reply to a download of a collection
abbrev pub download_reply : Collection → Reply
download_reply c = granted (gives.Whole (whole_of c))
