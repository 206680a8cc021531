-- A keeper in memory between two lines of a lab.
use Rattle.std.specs.Prelude.{◌≡◌, true, None, Some}
use Rattle.ak_desk.specs.Desks.{IsIdle}
use Rattle.ak_keep.specs.Collections.{Collection, Holding, collection_of}
use Rattle.ak_keep.specs.Keepers.{all_known}
use Rattle.ak_keep.specs.Marks.{WithMark}
use Rattle.ak_keep.specs.MemoryKeepers.{MemoryState, health_of}

-- it is not marked and holds a head, and none of its calls is to fail
pub record IsAtRest (keeper : MemoryState) : Type 0 where
  pub idle : IsIdle (all_known keeper.kept)
  pub calm : (health_of keeper).calm ≡ true

-- what is kept if this collection is held
abbrev pub kept_of : Collection → WithMark Holding
kept_of c = record { current = record { rows = c.rows; head = Some c.head }; mark = None }

-- this collection is held
abbrev pub Holds : WithMark Holding → Collection → Type 0
Holds kept c = collection_of kept.current ≡ Some c
