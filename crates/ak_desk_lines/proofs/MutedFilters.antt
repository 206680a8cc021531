-- How a line ends that drops a filter: the desk is as it was.
use Rattle.std.specs.Prelude.{◌≡◌, ⊤, ℕ, List, Ok, Err}
use Rattle.std.proofs.Common.{refl, ap}
use Rattle.ak_desk_lines.proofs.EndedLines.{same_state}
use Rattle.ak_desk_lines.specs.LineEnds.{EndsLine}
use Rattle.ak_desk_lines.specs.DeskStates.{DeskState}
use Rattle.ak_desk_lines.specs.declared.turns.Turn.{Turn}
use Rattle.ak_edit.proofs.Finishing.{where_held}
use Rattle.ak_edit.specs.declared.desk_faults.DeskFault.TheVariants as faults
use Rattle.ak_keep.specs.Keepers.{Keeping}
use Rattle.ak_desk_language.specs.declared.desk_lines.DeskLine.TheVariants as lines
use Rattle.ak_template.specs.declared.faces.PageFault.TheVariants as pages
use Rattle.ak_desk_texts.specs.declared.answers.DeskAnswer.TheVariants as answers

-- there was one
pub dropped_line : (t : Turn) (filter : List ℕ) (was now : DeskState)
    → now.keeping ≡ was.keeping → now.steps ≡ was.steps → EndsLine (lines.Mute filter) t was now (Ok answers.Done)
dropped_line t filter was now held steps = record {
  does = where_held was.keeping (λ c. ⊤) (λ w head _ _. tt);
  answers = where_held was.keeping (λ c. ⊤) (λ w head _ _. tt);
  left = tt;
  listed = tt;
  reads = same_state was now held steps;
  form = refl;
  stays = ap (λ (k : Keeping). k.headed) held;
}

-- there was none
pub refused_line : (t : Turn) (filter : List ℕ) (was now : DeskState)
    → now.keeping ≡ was.keeping → now.steps ≡ was.steps → EndsLine (lines.Mute filter) t was now (Err (faults.Page (pages.NoFilter filter)))
refused_line t filter was now held steps = record {
  does = tt;
  answers = where_held was.keeping (λ c. ⊤) (λ w head _ _. tt);
  left = same_state was now held steps;
  listed = refl;
  reads = tt;
  form = tt;
  stays = ap (λ (k : Keeping). k.headed) held;
}
