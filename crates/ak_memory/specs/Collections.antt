-- A collection with a mark, from its parts.
use Rattle.std.specs.Prelude.{Bool, if◌then◌else◌, Option, Some, None, IfSome}
use Rattle.ak_base.specs.declared.heads.Head.{Head}
use Rattle.ak_keep.specs.Collections.{Holding, Rows, IsWellFormed}
use Rattle.ak_keep.specs.Marks.{WithMark}
use Rattle.ak_memory.specs.Versions.{Versions}

-- the rows of the mark: those that were set aside, if any were
abbrev pub rows_before : Rows → Option (Versions Rows) → Rows
rows_before mark None = mark
rows_before mark (Some aside) = aside.mark

-- what is held at the mark
abbrev pub held_before : Versions Rows → Versions (Option Head) → Option (Versions Rows) → Holding
held_before rows head aside = record { rows = rows_before rows.mark aside; head = head.mark }

-- what is held, and while it is marked, what was held at the mark
abbrev pub with_mark : Versions Rows → Versions (Option Head) → Option (Versions Rows) → Bool → WithMark Holding
with_mark rows head aside marked = record { current = record { rows = rows.current; head = head.current }; mark = if marked then Some (held_before rows head aside) else None }

-- what is held is well formed, and what was held at the mark
pub record IsFormed (w : WithMark Holding) : Type 0 where
  pub current : IsWellFormed w.current
  pub mark : IfSome w.mark IsWellFormed
