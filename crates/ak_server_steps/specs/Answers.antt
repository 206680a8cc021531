-- What an accepted request does to a session's tables, and what it is given.
use Rattle.std.specs.Option.{option_map, option_map_or}
use Rattle.std.specs.Prelude.{◌≡◌, ℤ, true, false, Bool, int_lt, if◌then◌else◌, List, Option, Some, None}
use Rattle.ak_base.specs.declared.heads.Head.{Head}
use Rattle.ak_base.specs.declared.rows.Row.{Row}
use Rattle.ak_keep.specs.Collections.{Rows, Collection, Holding}
use Rattle.ak_keep.specs.HeadNumbers.{AreNumbersInRange, numbers_of}
use Rattle.ak_keep.specs.Keepers.{Keeping, WhereTold, changed, marked_here}
use Rattle.ak_keep.specs.declared.head_numbers.Numbers.{Numbers}
use Rattle.ak_keep.specs.declared.keepers.Wanted.TheVariants.{From}
use Rattle.ak_server_rules.specs.Serving.{reply_to}
use Rattle.ak_server_rules.specs.Sessions.{session_seen}
use Rattle.ak_server_rules.specs.Summaries.{is_last_chunk}
use Rattle.ak_server_rules.specs.declared.sessions.Session.{Session}
use Rattle.ak_merge.specs.Commits.{Received, Settings, settings_of, with_received}
use Rattle.ak_merge.specs.Exchanges.{wanted_tags}
use Rattle.ak_messages.specs.declared.methods.Method.TheVariants as methods
use Rattle.ak_messages.specs.declared.replies.Give.TheVariants as gives
use Rattle.ak_messages.specs.declared.requests.Ask.{Ask}
use Rattle.ak_messages.specs.declared.requests.Ask.TheVariants as asks
use Rattle.ak_messages.specs.declared.requests.Changes.{Changes}
use Rattle.ak_protocol.specs.Replies.{granted}
use Rattle.ak_sync_rows.specs.Chunks.{IsSlice, ahead_of}
use Rattle.ak_server_steps.specs.declared.answers.Answered.{Answered}
use Rattle.ak_session.specs.Asks.{brought}
use Rattle.ak_session.specs.Messages.{changes_of, chunk_of}
use Rattle.ak_session.specs.Requests.{asked_method, same_method}
use Rattle.ak_session.specs.Slices.{wanted_changes}

-- a keeper that holds a head with these numbers, which are in their ranges
pub record HasNumbers (k : Keeping) (numbers : Numbers) : Type 0 where
  pub held : k.headed.current ≡ true
  pub told : WhereTold k (λ h. option_map numbers_of h.head ≡ Some numbers)
  pub range : AreNumbersInRange numbers

-- what is held once this came, if a collection is held
abbrev pub held_with : Received → Holding → Holding
held_with came h =
    option_map_or (λ (head : Head).
    let c = with_received came (record { rows = h.rows; head = head }) in
    record { rows = c.rows; head = Some c.head }) h.head h

-- whether the keeper is marked when a request comes: a start marks it, and an upload and a download come before any mark
abbrev pub expects_mark : Ask → Bool
expects_mark asks.Meta = false
expects_mark (asks.Start min_usn lmod) = false
expects_mark (asks.ApplyGraves ids) = true
expects_mark (asks.ApplyChanges changes) = true
expects_mark asks.Chunk = true
expects_mark (asks.ApplyChunk chunk) = true
expects_mark (asks.SanityCheck2 counts) = true
expects_mark asks.Finish = true
expects_mark (asks.Upload whole) = false
expects_mark asks.Download = false

-- whether a chunk is asked for
abbrev pub is_chunk : Ask → Bool
is_chunk ask = same_method (asked_method ask) methods.Chunk

-- a keeper once a request was answered: a start marks it, and what a request brings is taken
abbrev pub answered : Ask → Keeping → Keeping
answered (asks.Start min_usn lmod) k = marked_here k
answered (asks.ApplyGraves ids) k = changed (held_with (brought (asks.ApplyGraves ids))) k
answered (asks.ApplyChanges changes) k = changed (held_with (brought (asks.ApplyChanges changes))) k
answered (asks.ApplyChunk chunk) k = changed (held_with (brought (asks.ApplyChunk chunk))) k
answered ask k = k

-- the settings of this head, unless the device was changed after it
abbrev pub settings_unless_newer : Head → ℤ → Option Settings
settings_unless_newer head moment = if int_lt head.moment moment then None else Some (settings_of head)

-- the changes that a session over these tables is given
abbrev pub changes_given : Collection → Session → Changes
changes_given tables live = changes_of (record {
  rows = wanted_changes (From live.least_usn) tables.rows;
  tags = wanted_tags (From live.least_usn) tables.head.tags;
  settings = settings_unless_newer tables.head live.moment;
})

-- the next chunk of a session over these rows: a slice of those after the place where the last one ended
pub record IsNextChunk (rows : Rows) (live : Session) (it : Answered) : Type 0 where
  pub part : List Row
  pub slice : IsSlice (ahead_of (From live.least_usn) live.given rows) part (ahead_of (From live.least_usn) it.given rows)
  pub give : it.give ≡ gives.Chunk (chunk_of part)
  pub done : it.done ≡ (chunk_of part).done

-- what a session over these tables answers to any other request
pub record IsAnswer (tables : Collection) (live : Session) (ask : Ask) (it : Answered) : Type 0 where
  pub give : granted it.give ≡ reply_to tables (session_seen tables live) ask
  pub done : it.done ≡ is_last_chunk (session_seen tables live) ask
  pub given : it.given ≡ live.given

-- what is answered over these tables
abbrev pub Answers : Collection → Session → Ask → Answered → Type 0
Answers tables live asks.Chunk it = IsNextChunk tables.rows live it
Answers tables live ask it = IsAnswer tables live ask it

-- the tables of a holding with this head
abbrev pub tables_of : Head → Holding → Collection
tables_of head h = record { rows = h.rows; head = head }
