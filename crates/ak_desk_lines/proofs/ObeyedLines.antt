-- A line that is known to be one of its kind.
use Rattle.std.specs.Prelude.{◌≡◌, List, Result}
use Rattle.std.proofs.Common.{sym, subst}
use Rattle.ak_desk_language.specs.declared.desk_lines.DeskLine.{DeskLine}
use Rattle.ak_desk_lines.specs.DeskStates.{DeskState}
use Rattle.ak_desk_lines.specs.LineEnds.{AppliesFilters, EndsLine}
use Rattle.ak_desk_lines.specs.declared.turns.Turn.{Turn}
use Rattle.ak_desk_texts.specs.declared.answers.DeskAnswer.{DeskAnswer}
use Rattle.ak_edit.specs.declared.desk_faults.DeskFault.{DeskFault}
use Rattle.ak_filters.specs.Meanings.{Meaning}
use Rattle.ak_keep.specs.Keepers.{Keeping}

-- it ends as that one does
pub ends_as : (line given : DeskLine) (t : Turn) (was now : DeskState) (result : Result DeskAnswer DeskFault)
    → line ≡ given → EndsLine given t was now result → EndsLine line t was now result
ends_as line given t was now result is ends = subst (λ (l : DeskLine). EndsLine l t was now result) (sym is) ends

-- it makes of the filters what that one does
pub filters_as : (line given : DeskLine) (held : Keeping) (filters turned : List Meaning) (result : Result DeskAnswer DeskFault)
    → line ≡ given → AppliesFilters given held filters turned result → AppliesFilters line held filters turned result
filters_as line given held filters turned result is applies = subst (λ (l : DeskLine). AppliesFilters l held filters turned result) (sym is) applies
