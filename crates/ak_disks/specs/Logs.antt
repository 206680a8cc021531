-- How calls are kept: each as an entry, and the bytes of all writes one after the other.
use Rattle.std.specs.Prelude.{ℕ, ◌+◌, ◌≤◌, List, [], ◌∷◌, length, take, drop, map, reverse, Vec, vec_len, vec_capacity, ⊤}
use Rattle.std.specs.declared.alloc.Global.{Global}
use Rattle.ak_disks.specs.Images.{Event, Looked, Wrote, Shortened, Synced, Draw}
use Rattle.ak_disks.specs.LogStates.{LogState}
use Rattle.ak_disks.specs.declared.logs.Entry.{Entry}
use Rattle.ak_disks.specs.declared.logs.Entry.TheVariants as entries
use Rattle.ak_disks.specs.declared.logs.Replay.{Replay}

-- the call of an entry, whose bytes stand among these
abbrev pub event_of : List ℕ → Entry → Event
event_of written entries.Look = Looked
event_of written (entries.Write place from count) = Wrote place (take count (drop from written))
event_of written (entries.Cut size) = Shortened size
event_of written entries.Sync = Synced

-- the calls of the entries, the newest first
abbrev pub happened : List ℕ → List Entry → List Event
happened written kept = reverse (map (event_of written) kept)

-- the bytes of an entry end within so many
abbrev pub EndsWithin : ℕ → Entry → Type 0
EndsWithin size entries.Look = ⊤
EndsWithin size (entries.Write place from count) = from + count ≤ size
EndsWithin size (entries.Cut cut) = ⊤
EndsWithin size entries.Sync = ⊤

-- so do those of each
abbrev pub EndWithin : ℕ → List Entry → Type 0
EndWithin size [] = ⊤
EndWithin size (entry ∷ kept) = EndsWithin size entry × EndWithin size kept

-- the state that a log of calls stands for, with this room and this number of places taken
abbrev pub log_state : List ℕ → List Entry → ℕ → ℕ → LogState
log_state written kept room places = record { events = happened written kept; room = room; places = places }

-- the room was taken, and each entry's bytes stand among those that were written
pub record IsLog (written : Vec ℕ Global) (kept : Vec Entry Global) (room places : ℕ) : Type 0 where
  pub within : EndWithin (length written.items) kept.items
  pub bytes_fit : vec_len written + room ≤ vec_capacity written
  pub calls_fit : vec_len kept + places ≤ vec_capacity kept

-- a replay, as a draw
abbrev pub replay_of : Replay → Draw
replay_of replay = record { file = replay.file.items; image = replay.image.items; pick = replay.pick }
