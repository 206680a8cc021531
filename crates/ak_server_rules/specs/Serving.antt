-- How an account serves a request, by what is remembered of it: the first case that fits, in the order of the tests.
use Rattle.std.specs.List.{list_any}
use Rattle.std.specs.Ordering.{int_eq}
use Rattle.std.specs.Prelude.{ℕ, ℤ, pos, ◌+◌, ◌+ℤ◌, ◌==◌, ◌&&◌, nat_le, int_lt, not, if◌then◌else◌, Bool, true, false, List, [], ◌∷◌, Option, Some, None}
use Rattle.ak_keep.specs.Collections.{Collection}
use Rattle.ak_keep.specs.declared.keepers.Wanted.TheVariants.{From}
use Rattle.ak_merge.specs.Commits.{settings_of}
use Rattle.ak_merge.specs.Exchanges.{wanted_tags}
use Rattle.ak_messages.specs.declared.methods.Method.TheVariants as methods
use Rattle.ak_messages.specs.declared.replies.Give.{Give}
use Rattle.ak_messages.specs.declared.replies.Give.TheVariants as gives
use Rattle.ak_messages.specs.declared.replies.Reply.{Reply}
use Rattle.ak_messages.specs.declared.requests.Ask.{Ask}
use Rattle.ak_messages.specs.declared.requests.Ask.TheVariants as asks
use Rattle.ak_messages.specs.declared.requests.Request.{Request}
use Rattle.ak_protocol.specs.Accounts.{KeptReply, repeated, given_again}
use Rattle.ak_protocol.specs.Replies.{PastBase, NoSession, WrongStep, Objected, refused, granted, keeper_failed, out_of_memory, meta_reply, download_reply}
use Rattle.ak_protocol.specs.Serving.{Setback, Undisturbed, KeeperFault, OutOfMemory, kept_of, commit_reply}
use Rattle.ak_server_rules.specs.Summaries.{SessionSummary, AccountSummary, with_request}
use Rattle.ak_session.specs.Answers.{sanity_reply, is_good}
use Rattle.ak_session.specs.Closings.{moment_past, of_upload}
use Rattle.ak_session.specs.Messages.{grave_ids, changes_of, chunk_of}
use Rattle.ak_session.specs.NextMethods.{methods_after}
use Rattle.ak_session.specs.Objections.{Objection, MayNotCome}
use Rattle.ak_session.specs.Refusals.{Test, test, start_tests, grave_tests, change_tests, chunk_tests, upload_tests, first_objection}
use Rattle.ak_session.specs.Requests.{asked_method, same_method, is_meta, is_download, asks_commit}
use Rattle.ak_session.specs.Slices.{wanted_graves, wanted_changes, wanted_in_chunks, slice}

-- ---- why a session refuses
-- whether the device was changed after the committed collection
abbrev pub is_device_newer : Collection → SessionSummary → Bool
is_device_newer committed live = int_lt committed.head.moment live.moment

-- the tests of what a request holds
abbrev pub tests_of : Collection → SessionSummary → Ask → List Test
tests_of committed live (asks.Start min_usn lmod) = start_tests committed min_usn lmod
tests_of committed live (asks.ApplyGraves ids) = grave_tests ids
tests_of committed live (asks.ApplyChanges changes) = change_tests (is_device_newer committed live) changes
tests_of committed live (asks.ApplyChunk chunk) = chunk_tests chunk
tests_of committed live (asks.Upload whole) = upload_tests committed whole
tests_of committed live ask = []

-- whether the method of a request may come after the last one
abbrev pub may_come : SessionSummary → Ask → Bool
may_come live ask = list_any (same_method (asked_method ask)) (methods_after live.method live.done)

-- why a request with the next step is refused, if it is
abbrev pub objection_to : Collection → SessionSummary → Ask → Option Objection
objection_to committed live ask = first_objection (test (not (may_come live ask)) MayNotCome ∷ tests_of committed live ask)

-- ---- what is given
-- what an accepted request is given, if it neither commits nor is a download
abbrev pub answer_to : Collection → SessionSummary → Ask → Give
answer_to committed live (asks.Start min_usn lmod) = gives.Graves (grave_ids (wanted_graves (From min_usn) live.tables.rows))
answer_to committed live (asks.ApplyChanges changes) = gives.Changes (changes_of (record {
  rows = wanted_changes (From live.least_usn) live.tables.rows;
  tags = wanted_tags (From live.least_usn) live.tables.head.tags;
  settings = if is_device_newer committed live then None else Some (settings_of live.tables.head);
}))
answer_to committed live asks.Chunk = gives.Chunk (chunk_of (slice live.chunks (wanted_in_chunks (From live.least_usn) live.tables.rows)))
answer_to committed live (asks.SanityCheck2 counts) = gives.Sanity (sanity_reply live.tables.rows counts)
answer_to committed live ask = gives.Nothing

-- whether a request ends the session without a commit: a sanity check that is not good
abbrev pub is_bad_check : SessionSummary → Ask → Bool
is_bad_check live (asks.SanityCheck2 counts) = not (is_good live.tables.rows counts)
is_bad_check live ask = false

-- the reply to an accepted request that does not commit
abbrev pub reply_to : Collection → SessionSummary → Ask → Reply
reply_to committed live ask = if is_download ask then download_reply committed else granted (answer_to committed live ask)

-- what a finish commits: the session's tables with the next usn, at the greatest of now and the moments after the committed one
-- and the device's
abbrev pub finished_tables : Collection → SessionSummary → ℤ → Collection
finished_tables committed live now = record {
  rows = live.tables.rows;
  head = record live.tables.head {
    moment = moment_past now committed.head.moment live.moment;
    usn = committed.head.usn +ℤ pos 1;
  };
}

-- what is committed: an upload replaces the collection, a finish commits the session's tables
abbrev pub closed_by : Collection → SessionSummary → Ask → ℤ → Collection
closed_by committed live (asks.Upload whole) now = of_upload committed whole now
closed_by committed live ask now = finished_tables committed live now

-- ---- the cases
-- what an account does with a request: its reply, what is remembered after it, and whether another collection was committed
pub record Did : Type 0 where
  pub reply : Reply
  pub next : AccountSummary
  pub is_commit : Bool

-- a reply that changes nothing
abbrev pub unchanged : AccountSummary → Reply → Did
unchanged s reply = record { reply = reply; next = s; is_commit = false }

-- a setback: the session is over, and after a meta no reply is kept
abbrev pub struck : AccountSummary → Request → Reply → Did
struck s request reply = record {
  reply = reply;
  next = record s { live = None; kept = if is_meta request.ask then None else s.kept };
  is_commit = false;
}

-- a session of this key that begins: it accepted nothing but its meta
abbrev pub opened : Collection → ℕ → SessionSummary
opened committed key = record {
  key = key;
  last = 0;
  method = methods.Meta;
  done = false;
  chunks = 0;
  least_usn = pos 0;
  moment = pos 0;
  tables = committed;
}

-- a meta: the session before it and the kept reply are forgotten, and a session of its key begins
abbrev pub begun : AccountSummary → Request → ℤ → Did
begun s request now = record {
  reply = granted (gives.Meta (meta_reply s.committed.head now));
  next = record s { live = Some (opened s.committed request.session.0); kept = None };
  is_commit = false;
}

-- an accepted request after which the session goes on: its reply is kept
abbrev pub went_on : AccountSummary → SessionSummary → Request → Did
went_on s live request =
    let reply = reply_to s.committed live request.ask in
    record {
      reply = reply;
      next = record s { live = Some (with_request live request.ask); kept = Some (kept_of request reply) };
      is_commit = false;
    }

-- an accepted request that ends its session without a commit: its reply is kept
abbrev pub ended : AccountSummary → SessionSummary → Request → Did
ended s live request =
    let reply = reply_to s.committed live request.ask in
    record { reply = reply; next = record s { live = None; kept = Some (kept_of request reply) }; is_commit = false }

-- an accepted finish or upload: another collection is committed, the session is over, and the reply is kept
abbrev pub finished : AccountSummary → SessionSummary → Request → ℤ → Did
finished s live request now =
    let after = closed_by s.committed live request.ask now in
    let reply = commit_reply request.ask after.head in
    record { reply = reply; next = record { committed = after; live = None; kept = Some (kept_of request reply) }; is_commit = true }

-- an accepted request
abbrev pub accepted : AccountSummary → SessionSummary → Request → ℤ → Did
accepted s live request now =
    if asks_commit request.ask then finished s live request now
    else if is_bad_check live request.ask then ended s live request
    else went_on s live request

-- a request that has its session's next step
abbrev pub by_objection : Option Objection → AccountSummary → SessionSummary → Request → ℤ → Did
by_objection (Some why) s live request now = unchanged s (refused (Objected why live.last s.committed.head.usn))
by_objection None s live request now = accepted s live request now

-- whether a request has its session's next step, which is at most 9,223,372,036,854,775,807
abbrev pub has_next_step : SessionSummary → Request → Bool
has_next_step live request = (request.step == live.last + 1) && nat_le request.step 9_223_372_036_854_775_807

-- the live session, if it has the key of a request
abbrev pub session_of : Option SessionSummary → Request → Option SessionSummary
session_of None request = None
session_of (Some live) request = if live.key == request.session.0 then Some live else None

-- a request over the committed moment, by the live session of its key
abbrev pub by_session : Option SessionSummary → AccountSummary → Request → ℤ → Did
by_session None s request now = unchanged s (refused NoSession)
by_session (Some live) s request now =
    if has_next_step live request then by_objection (objection_to s.committed live request.ask) s live request now
    else unchanged s (refused (WrongStep live.last))

-- a request that is no meta, by the kept reply that it repeats
abbrev pub by_repeat : Option KeptReply → AccountSummary → Request → ℤ → Did
by_repeat (Some kept) s request now = unchanged s (given_again s.committed kept)
by_repeat None s request now =
    if int_eq request.base s.committed.head.moment then by_session (session_of s.live request) s request now
    else unchanged s (refused (PastBase s.committed.head.moment))

-- what an account does with a request at a moment, in milliseconds, and with a setback
abbrev pub does : AccountSummary → Request → ℤ → Setback → Did
does s request now KeeperFault = struck s request keeper_failed
does s request now OutOfMemory = struck s request out_of_memory
does s request now Undisturbed = if is_meta request.ask then begun s request now else by_repeat (repeated s.kept request) s request now
