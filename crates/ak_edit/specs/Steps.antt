-- What an undo of a step puts back.
use Rattle.std.specs.Prelude.{if◌then◌else◌, List, [], ◌∷◌, map, Option, Some, None}
use Rattle.std.specs.Ordering.{eq_by_cmp}
use Rattle.ak_base.specs.Names.{name_cmp}
use Rattle.ak_base.specs.declared.names.Name.{Name}
use Rattle.ak_base.specs.declared.rows.Row.{Row}
use Rattle.ak_merge.specs.Edits.{Reversal}
use Rattle.ak_undo.specs.declared.steps.Before.{Before}
use Rattle.ak_undo.specs.declared.steps.Step.{Step}

-- what stood under a name, if it is one of these
abbrev pub before_at : List Before → Name → Option (Option Row)
before_at [] name = None
before_at (before ∷ befores) name =
    if eq_by_cmp name_cmp name before.name then Some before.row else before_at befores name

-- what an undo of the step puts back
abbrev pub reversal_in : Step → Reversal
reversal_in step = record { rows = before_at step.rows; conf = step.head; tags = step.tags }

-- what undos of the steps put back, one after the other
abbrev pub reversals_in : List Step → List Reversal
reversals_in steps = map reversal_in steps
