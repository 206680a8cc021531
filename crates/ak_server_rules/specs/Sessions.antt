-- What is remembered of a session and of a reply, as the program holds it.
use Rattle.std.specs.Prelude.{◌≡◌, pos, ◌≤◌, ◌↔◌, Bool, true, false}
use Rattle.ak_base.specs.declared.names.Name.{Name}
use Rattle.ak_base.specs.declared.names.Table.TheVariants as tables
use Rattle.ak_keep.specs.Collections.{Collection}
use Rattle.ak_messages.specs.declared.methods.Method.{Method}
use Rattle.ak_messages.specs.declared.methods.Method.TheVariants as methods
use Rattle.ak_protocol.specs.Accounts.{KeptReply}
use Rattle.ak_server_rules.specs.Summaries.{SessionSummary}
use Rattle.ak_server_rules.specs.declared.sessions.Kept.{Kept}
use Rattle.ak_server_rules.specs.declared.sessions.Session.{Session}
use Rattle.ak_session.specs.Refusals.{has_no_next}

-- what is remembered of a session that made these tables
abbrev pub session_seen : Collection → Session → SessionSummary
session_seen tables live = record {
  key = live.key;
  last = live.last;
  method = live.method;
  done = live.done;
  chunks = live.chunks;
  least_usn = live.least_usn;
  moment = live.moment;
  tables = tables;
}

-- the kept reply
abbrev pub kept_seen : Kept → KeptReply
kept_seen kept = record { key = kept.key; step = kept.step; method = kept.method; reply = kept.reply }

-- whether a session whose last method this is has a mark to go back to. After a finish and an upload there is no session
abbrev pub has_mark : Method → Bool
has_mark methods.Meta = false
has_mark methods.Start = true
has_mark methods.ApplyGraves = true
has_mark methods.ApplyChanges = true
has_mark methods.Chunk = true
has_mark methods.ApplyChunk = true
has_mark methods.SanityCheck2 = true
has_mark methods.Finish = true
has_mark methods.Upload = true
has_mark methods.Download = false

-- whether no chunk came yet in a session whose last method this is
abbrev pub is_before_chunks : Method → Bool
is_before_chunks methods.Meta = true
is_before_chunks methods.Start = true
is_before_chunks methods.ApplyGraves = true
is_before_chunks methods.ApplyChanges = true
is_before_chunks methods.Chunk = false
is_before_chunks methods.ApplyChunk = false
is_before_chunks methods.SanityCheck2 = false
is_before_chunks methods.Finish = false
is_before_chunks methods.Upload = false
is_before_chunks methods.Download = true

-- where the first chunk begins: before all reviews
abbrev pub first_place : Name
first_place = record { table = tables.Review; id = pos 0 }

-- the numbers of a session: its step is 0 exactly after its meta, its chunks are among its steps, its last step is at most
-- 9,223,372,036,854,775,807, before its first chunk none was given, and once it has started there is a moment after the device's
pub record IsCounted (live : Session) : Type 0 where
  pub first : (live.last ≡ 0) ↔ (live.method ≡ methods.Meta)
  pub chunks : live.chunks ≤ live.last
  pub last : live.last ≤ 9_223_372_036_854_775_807
  pub none : is_before_chunks live.method ≡ true → (live.chunks ≡ 0) × (live.given ≡ first_place)
  pub room : has_mark live.method ≡ true → has_no_next live.moment ≡ false
