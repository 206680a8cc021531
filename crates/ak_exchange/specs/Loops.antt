-- Places within the parts of a plan that ask more than once: graves, and chunks each way.
use Rattle.std.specs.Prelude.{◌≡◌, ℕ, ◌+◌, ◌*◌, ◌≤◌, Bool, true, false, if◌then◌else◌, List, [], ◌∷◌, ◌++◌, map, length, drop, count_by, Option, Some, None, IfSome, Result, Ok, Err, IfOk, OnOk}
use Rattle.ak_base.specs.declared.names.Name.{Name}
use Rattle.ak_base.specs.declared.rows.Row.{Row}
use Rattle.ak_client_wire.specs.Wires.{WireKind}
use Rattle.ak_device.specs.Settlings.{names_of, settled_under}
use Rattle.ak_exchange.specs.Asked.{Talk, asks_in, sends_unfinished}
use Rattle.ak_exchange.specs.Grants.{came_unfinished}
use Rattle.ak_exchange.specs.Phases.{Advances, Place, at_end_of}
use Rattle.ak_exchange.specs.declared.envelopes.Met.{Met}
use Rattle.ak_exchange.specs.declared.stops.Stop.{Stop}
use Rattle.ak_keep.specs.Collections.{Collection, Rows}
use Rattle.ak_keep.specs.Keepers.{Keeping}
use Rattle.ak_keep.specs.declared.keepers.Wanted.TheVariants.{Unsent}
use Rattle.ak_messages.specs.declared.requests.Ask.{Ask}
use Rattle.ak_messages.specs.declared.requests.Ask.TheVariants as asks
use Rattle.ak_messages.specs.declared.requests.Chunk.{Chunk}
use Rattle.ak_session.specs.Answers.{server_rows}
use Rattle.ak_session.specs.Asks.{all_brought}
use Rattle.ak_session.specs.Messages.{chunk_of, grave_ids}
use Rattle.ak_session.specs.Plans.{device_rows, planned_changes, planned_chunks, planned_pushes, planned_start}
use Rattle.ak_session.specs.Slices.{slices, wanted_graves, wanted_in_chunks}
use Rattle.ak_sync_rows.specs.Chunks.{ahead_of}

-- this many slices of the device's graves were sent, after its start
pub record HaveSentGraves (count : ℕ) (list : List Row) (c s : Collection) (asked : List Ask) : Type 0 where
  pub list_is : list ≡ wanted_graves Unsent (device_rows c s (planned_start c))
  pub asked_is : asked ≡ planned_start c ++ map (λ (part : List Row). asks.ApplyGraves (grave_ids part)) (slices count list)

-- this many chunks were asked for after the changes, and each was full
pub record HavePulled (count : ℕ) (c s : Collection) (asked : List Ask) : Type 0 where
  pub asked_is : asked ≡ planned_changes c s
      ++ map (λ (part : List Row). asks.Chunk) (slices count (server_rows s (planned_changes c s)))
  pub full : 250 * count ≤ length (server_rows s (planned_changes c s))

-- one chunk more was asked for, and it was the last one or not
abbrev pub HasPulledOne : ℕ → Bool → Place
HasPulledOne count true = at_end_of planned_chunks
HasPulledOne count false = HavePulled (count + 1)

-- the device's rows that go in chunks, once it took the server's
abbrev pub rows_to_push : Collection → Collection → List Row
rows_to_push c s = wanted_in_chunks Unsent (device_rows c s (planned_chunks c s))

-- those rows, with what was sent settled
abbrev pub rows_once_sent : Collection → Collection → List Ask → Rows
rows_once_sent c s asked = settled_under s.head.usn (names_of (all_brought asked).rows) (device_rows c s (planned_chunks c s))

-- this many chunks were sent after those that came, each was full, and the next begins at this place
pub record HavePushed (count : ℕ) (from : Name) (c s : Collection) (asked : List Ask) : Type 0 where
  pub asked_is : asked ≡ planned_chunks c s
      ++ map (λ (part : List Row). asks.ApplyChunk (chunk_of part)) (slices count (rows_to_push c s))
  pub full : 250 * count ≤ length (rows_to_push c s)
  pub ahead : ahead_of Unsent from (rows_once_sent c s asked) ≡ drop (250 * count) (rows_to_push c s)

-- one chunk more was sent: the last one, or the next begins at this place
abbrev pub HasPushedOne : ℕ → Option Name → Place
HasPushedOne count None = at_end_of planned_pushes
HasPushedOne count (Some next) = HavePushed (count + 1) next

-- how many chunks that are the last one may have been sent: none if another one follows
abbrev pub last_sent : Result (Option Name) Stop → ℕ
last_sent (Ok None) = 1
last_sent (Ok (Some next)) = 0
last_sent (Err stop) = 1

-- ---- one chunk
-- one chunk more was asked for; if it is not the last one, that shows
pub record PullsOne {kind : WireKind} (count : ℕ) (met : Met) (before after : Keeping) (was now : Talk kind) (result : Result Bool Stop) : Type 0 where
  pub leads : Advances 1 0 0 (HavePulled count) (λ c s asked. IfOk result (λ done. HasPulledOne count done c s asked)) met
      before after was now result
  pub unfinished : IfOk result (λ done. done ≡ false → 1 ≤ count_by came_unfinished leads.tries)

-- this chunk was sent and nothing else, which is the next after so many, and behind which the next one begins at a place
pub record SendsOne {kind : WireKind} (chunk : Chunk) (count : ℕ) (from next : Name) (met : Met) (before after : Keeping) (was now : Talk kind)
    (result : Result (Unit {0}) Stop) : Type 0 where
  pub leads : Advances 0 (if chunk.done then 0 else 1) (if chunk.done then 1 else 0) (HavePushed count from)
      (HasPushedOne count (if chunk.done then None else Some next)) met before after was now result
  pub sent : OnOk result (asks_in leads.tries ≡ asks.ApplyChunk chunk ∷ [])

-- one chunk more was sent; if it is not the last one, that shows
pub record PushesOne {kind : WireKind} (count : ℕ) (from : Name) (met : Met) (before after : Keeping) (was now : Talk kind)
    (result : Result (Option Name) Stop) : Type 0 where
  pub leads : Advances 0 1 (last_sent result) (HavePushed count from)
      (λ c s asked. IfOk result (λ next. HasPushedOne count next c s asked)) met before after was now result
  pub unfinished : IfOk result (λ next. IfSome next (λ name. 1 ≤ count_by sends_unfinished (asks_in leads.tries)))
