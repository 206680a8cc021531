-- How an account serves a request: the first case that fits, in the order of `served`, `by_repeat`, `by_session` and `by_refusal`.
use Rattle.std.specs.Ordering.{int_eq}
use Rattle.std.specs.Prelude.{List, ℤ, ◌+◌, ◌==◌, ◌&&◌, nat_le, if◌then◌else◌, Bool, true, false, [], ◌∷◌, ◌++◌, Option, Some, None}
use Rattle.ak_base.specs.declared.heads.Head.{Head}
use Rattle.ak_keep.specs.Collections.{Collection}
use Rattle.ak_messages.specs.declared.replies.Give.TheVariants as gives
use Rattle.ak_messages.specs.declared.replies.Reply.{Reply}
use Rattle.ak_messages.specs.declared.requests.Ask.{Ask}
use Rattle.ak_messages.specs.declared.requests.Ask.TheVariants as asks
use Rattle.ak_messages.specs.declared.requests.Request.{Request}
use Rattle.ak_protocol.specs.Accounts.{SessionState, KeptReply, AccountState, last_step, repeated, given_again, session_of}
use Rattle.ak_session.specs.Contents.{refusal, answer, ends, closed}
use Rattle.ak_protocol.specs.Replies.{Refusal, PastBase, NoSession, WrongStep, Objected, refused, granted, keeper_failed, out_of_memory, meta_reply, download_reply}
use Rattle.ak_session.specs.Objections.{Objection}
use Rattle.ak_session.specs.Requests.{asked_method, is_meta, is_download, asks_commit}

-- what came in between while a request was served: nothing, a fault of the account's keeper, or memory ran out
pub data Setback : Type 0 where
  Undisturbed : Setback
  KeeperFault : Setback
  OutOfMemory : Setback

-- what a serving is: the reply, the account after it, and whether another collection was committed
pub record Served : Type 0 where
  pub reply : Reply
  pub next : AccountState
  pub is_commit : Bool

-- a reply that changes nothing
abbrev pub unchanged : AccountState → Reply → Served
unchanged s reply = record { reply = reply; next = s; is_commit = false }

-- a refusal, which changes nothing and is not kept
abbrev pub refuses : AccountState → Refusal → Served
refuses s why = unchanged s (refused why)

-- a setback: the session is over, and after a meta no reply is kept
abbrev pub struck : AccountState → Request → Reply → Served
struck s request reply = record {
  reply = reply;
  next = record s { live = None; kept = if is_meta request.ask then None else s.kept };
  is_commit = false;
}

-- a meta: the session before it and the kept reply are forgotten, and a session of its key begins at step 0
abbrev pub begun : AccountState → Request → ℤ → Served
begun s request now = record {
  reply = granted (gives.Meta (meta_reply s.committed.head now));
  next = record s { live = Some (record { key = request.session.0; accepted = [] }); kept = None };
  is_commit = false;
}

-- the reply to a request that is accepted after these, and does not commit
abbrev pub reply_to : Collection → List Request → Request → Reply
reply_to committed accepted request =
    if is_download request.ask then download_reply committed else granted (answer committed accepted request)

-- the reply to a request as it is kept
abbrev pub kept_of : Request → Reply → KeptReply
kept_of request reply = record {
  key = request.session.0;
  step = request.step;
  method = asked_method request.ask;
  reply = if is_download request.ask then None else Some reply;
}

-- an accepted request: it is added to the session, its step is the last, and its reply is kept
abbrev pub went_on : AccountState → SessionState → Request → Served
went_on s session request =
    let reply = reply_to s.committed session.accepted request in
    record {
      reply = reply;
      next = record s {
        live = Some (record session { accepted = session.accepted ++ request ∷ [] });
        kept = Some (kept_of request reply);
      };
      is_commit = false;
    }

-- an accepted request that ends its session without a commit: its reply is kept
abbrev pub ended : AccountState → SessionState → Request → Served
ended s session request =
    let reply = reply_to s.committed session.accepted request in
    record { reply = reply; next = record s { live = None; kept = Some (kept_of request reply) }; is_commit = false }

-- the reply to a request that committed a collection with this head: the moment, and of an upload the schema moment too
abbrev pub commit_reply : Ask → Head → Reply
commit_reply (asks.Upload whole) head = granted (gives.Uploaded head.moment head.schema)
commit_reply ask head = granted (gives.Moment head.moment)

-- an accepted finish or upload: another collection is committed, the session is over, and the reply is kept
abbrev pub finished : AccountState → SessionState → Request → ℤ → Served
finished s session request now =
    let after = closed s.committed session.accepted request now in
    let reply = commit_reply request.ask after.head in
    record {
      reply = reply;
      next = record { committed = after; live = None; kept = Some (kept_of request reply) };
      is_commit = true;
    }

-- a request that has its session's next step
abbrev pub by_refusal : Option Objection → AccountState → SessionState → Request → ℤ → Served
by_refusal (Some why) s session request now = refuses s (Objected why (last_step session) s.committed.head.usn)
by_refusal None s session request now =
    if asks_commit request.ask then finished s session request now
    else if ends s.committed session.accepted request then ended s session request
    else went_on s session request

-- whether a request has its session's next step, which is at most 9,223,372,036,854,775,807
abbrev pub has_next_step : SessionState → Request → Bool
has_next_step session request =
    (request.step == last_step session + 1) && nat_le request.step 9_223_372_036_854_775_807

-- a request over the committed moment, by the live session of its key
abbrev pub by_session : Option SessionState → AccountState → Request → ℤ → Served
by_session None s request now = refuses s NoSession
by_session (Some session) s request now =
    if has_next_step session request then by_refusal (refusal s.committed session.accepted request) s session request now
    else refuses s (WrongStep (last_step session))

-- a request that is no meta, by the kept reply that it repeats
abbrev pub by_repeat : Option KeptReply → AccountState → Request → ℤ → Served
by_repeat (Some kept) s request now = unchanged s (given_again s.committed kept)
by_repeat None s request now =
    if int_eq request.base s.committed.head.moment then by_session (session_of s.live request.session.0) s request now
    else refuses s (PastBase s.committed.head.moment)

-- what an account does with a request at a moment, in milliseconds, and with a setback
abbrev pub served : AccountState → Request → ℤ → Setback → Served
served s request now KeeperFault = struck s request keeper_failed
served s request now OutOfMemory = struck s request out_of_memory
served s request now Undisturbed =
    if is_meta request.ask then begun s request now else by_repeat (repeated s.kept request) s request now
