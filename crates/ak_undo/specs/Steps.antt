-- The steps of an undo list.
use Rattle.std.specs.Prelude.{◌≡◌, map, IfSome}
use Rattle.std.specs.List.{All, IsDistinct}
use Rattle.std.specs.List.Sorted.{IsStrictlySortedBy}
use Rattle.std.specs.Cmp.Lexicographic.{slice_cmp}
use Rattle.std.specs.Ordering.{eq_by_cmp, nat_cmp}
use Rattle.ak_base.specs.Heads.{IsConfInRange, IsTagInRange, tag_names}
use Rattle.ak_base.specs.Names.{name_cmp}
use Rattle.ak_base.specs.Rows.{IsChecked, name_of}
use Rattle.ak_undo.specs.declared.steps.Before.{Before}
use Rattle.ak_undo.specs.declared.steps.Step.{Step}

-- what stood under a name, if anything, has that name and passes its check
abbrev pub IsBeforeInRange : Before → Type 0
IsBeforeInRange before = IfSome before.row (λ row. (name_of row ≡ before.name) × IsChecked row)

-- each row has its name and passes its check, no name comes twice, and settings and tags are in the ranges of a head
pub record IsStepInRange (step : Step) : Type 0 where
  pub rows : All IsBeforeInRange step.rows
  pub distinct : IsDistinct (eq_by_cmp name_cmp) (map (λ before. before.name) step.rows)
  pub head : IsConfInRange step.head
  pub tags : All IsTagInRange step.tags
  pub ascending : IsStrictlySortedBy (slice_cmp nat_cmp) (tag_names step.tags)
