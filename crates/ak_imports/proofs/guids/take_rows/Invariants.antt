use Rattle.std.proofs.Common.{◌≡◌, ℕ, List, length}
use Rattle.std.specs.BTreeMap.{get_by_text}
use Rattle.std.specs.Option.{option_or}
use Rattle.ak_imports.specs.Guids.{first_id}
use Rattle.ak_imports.proofs.guids.take_rows.Given as goal

-- the guids so far, and those of the rows that are left, are those of all rows
abbrev pub invariant-loop-row : goal.invariant-loop-row
invariant-loop-row l =
    (guid : List ℕ) → option_or (get_by_text l.guids guid) (first_id guid l.rest) ≡ option_or (get_by_text l.fn.guids guid) (first_id guid l.rows)

abbrev pub decreases-loop-row : goal.decreases-loop-row
decreases-loop-row l = length l.rest
