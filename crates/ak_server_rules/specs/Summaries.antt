-- What a server remembers of an account in place of the list of its session's requests.
use Rattle.std.specs.Option.{option_map}
use Rattle.std.specs.Prelude.{ℕ, ℤ, pos, ◌+◌, ◌==◌, if◌then◌else◌, Bool, false, length, Option}
use Rattle.ak_keep.specs.Collections.{Collection}
use Rattle.ak_keep.specs.declared.keepers.Wanted.TheVariants.{From}
use Rattle.ak_merge.specs.Commits.{with_received}
use Rattle.ak_messages.specs.declared.methods.Method.{Method}
use Rattle.ak_messages.specs.declared.methods.Method.TheVariants as methods
use Rattle.ak_messages.specs.declared.requests.Ask.{Ask}
use Rattle.ak_messages.specs.declared.requests.Ask.TheVariants as asks
use Rattle.ak_protocol.specs.Accounts.{SessionState, KeptReply, AccountState}
use Rattle.ak_session.specs.Answers.{chunk_count}
use Rattle.ak_session.specs.Asks.{asks_of, least_usn, device_moment, brought, fold_of}
use Rattle.ak_session.specs.Messages.{chunk_of}
use Rattle.ak_session.specs.NextMethods.{last_asked, was_done}
use Rattle.ak_session.specs.Requests.{asked_method, same_method}
use Rattle.ak_session.specs.Slices.{wanted_in_chunks, slice}

-- what is remembered of a session
pub record SessionSummary : Type 0 where
  -- the session key of its meta
  pub key : ℕ
  -- the step of the request that it accepted last; that of its meta is 0
  pub last : ℕ
  -- the method of that request
  pub method : Method
  -- whether that request was a chunk after which no more come in its direction
  pub done : Bool
  -- how many chunks it gave
  pub chunks : ℕ
  -- the usn from which on it is given rows, and the moment of the device's last change, which its start told
  pub least_usn : ℤ
  pub moment : ℤ
  -- what its requests made of the committed collection so far
  pub tables : Collection

-- what is remembered of an account
pub record AccountSummary : Type 0 where
  pub committed : Collection
  pub live : Option SessionSummary
  pub kept : Option KeptReply

-- ---- from the list
-- what is remembered of a session over this collection
abbrev pub session_summary : Collection → SessionState → SessionSummary
session_summary committed session =
    let asked = asks_of session.accepted in
    record {
      key = session.key;
      last = length session.accepted;
      method = asked_method (last_asked asked);
      done = was_done committed asked (last_asked asked);
      chunks = chunk_count asked;
      least_usn = least_usn asked;
      moment = device_moment asked;
      tables = fold_of committed asked;
    }

-- what is remembered of an account
abbrev pub account_summary : AccountState → AccountSummary
account_summary s = record { committed = s.committed; live = option_map (session_summary s.committed) s.live; kept = s.kept }

-- ---- one request more
-- the usn from which on a session is given rows, if this is the first request that it accepts
abbrev pub told_usn : Ask → ℤ
told_usn (asks.Start min_usn lmod) = min_usn
told_usn ask = pos 0

-- the moment of the device's last change, if this is the first request that a session accepts
abbrev pub told_moment : Ask → ℤ
told_moment (asks.Start min_usn lmod) = lmod
told_moment ask = pos 0

-- whether no more chunks come after this request, in its direction. One that is given is done if it has fewer than 250 rows
abbrev pub is_last_chunk : SessionSummary → Ask → Bool
is_last_chunk live asks.Chunk = (chunk_of (slice live.chunks (wanted_in_chunks (From live.least_usn) live.tables.rows))).done
is_last_chunk live (asks.ApplyChunk chunk) = chunk.done
is_last_chunk live ask = false

-- what is remembered of a session once it accepted one request more
abbrev pub with_request : SessionSummary → Ask → SessionSummary
with_request live ask = record {
  key = live.key;
  last = live.last + 1;
  method = asked_method ask;
  done = is_last_chunk live ask;
  chunks = if same_method (asked_method ask) methods.Chunk then live.chunks + 1 else live.chunks;
  least_usn = if live.last == 0 then told_usn ask else live.least_usn;
  moment = if live.last == 0 then told_moment ask else live.moment;
  tables = with_received (brought ask) live.tables;
}
