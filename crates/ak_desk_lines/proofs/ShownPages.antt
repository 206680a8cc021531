-- How a line ends that shows a page.
use Rattle.std.specs.Prelude.{◌≡◌, ⊤, ℕ, ℤ, Bool, List, Result, Ok, Err, IfErr, IfOk}
use Rattle.std.proofs.Common.{refl, ap}
use Rattle.ak_desk_lines.proofs.EndedLines.{same_state}
use Rattle.ak_desk_lines.specs.Accepted.{answer_with}
use Rattle.ak_desk_lines.specs.LineEnds.{EndsLine, EndsPage}
use Rattle.ak_desk_lines.specs.DeskStates.{DeskState}
use Rattle.ak_desk_lines.specs.declared.turns.Turn.{Turn}
use Rattle.ak_edit.proofs.Finishing.{where_held}
use Rattle.ak_edit.specs.declared.desk_faults.DeskFault.{DeskFault}
use Rattle.ak_filters.specs.Meanings.{Meaning}
use Rattle.ak_keep.specs.Keepers.{Keeping, WhereTold}
use Rattle.ak_desk_language.specs.declared.desk_lines.DeskLine.TheVariants as lines
use Rattle.ak_pages.specs.CardPages.{IsPageRefusal, RefusesCard, ShowsCard}
use Rattle.ak_template.specs.Pages.{kinds}
use Rattle.ak_desk_texts.specs.declared.answers.DeskAnswer.TheVariants as answers

-- the line, whatever the page is: the desk is as it was
pub page_line : (t : Turn) (card : ℤ) (back : Bool) (was now : DeskState) (made : Result (List ℕ) DeskFault) → IfErr made IsPageRefusal
    → now.keeping ≡ was.keeping → now.steps ≡ was.steps → EndsLine (lines.Page card back) t was now (answer_with answers.Page made)
page_line t card back was now (Ok text) listed held steps = record {
  does = where_held was.keeping (λ c. ⊤) (λ w head _ _. tt);
  answers = where_held was.keeping (λ c. ⊤) (λ w head _ _. tt);
  left = tt;
  listed = tt;
  reads = same_state was now held steps;
  form = (text, refl);
  stays = ap (λ (k : Keeping). k.headed) held;
}
page_line t card back was now (Err fault) listed held steps = record {
  does = tt;
  answers = where_held was.keeping (λ c. ⊤) (λ w head _ _. tt);
  left = same_state was now held steps;
  listed = listed;
  reads = tt;
  form = tt;
  stays = ap (λ (k : Keeping). k.headed) held;
}

-- the page
pub page_ends : (held : Keeping) (card : ℤ) (back : Bool) (filters turned : List Meaning) (made : Result (List ℕ) DeskFault)
    → IfOk made (λ text. WhereTold held (λ h. ShowsCard h.rows card back filters turned text))
    → IfErr made (λ fault. WhereTold held (λ h. RefusesCard h.rows card back filters turned fault))
    → kinds turned ≡ kinds filters → EndsPage held card back filters turned (answer_with answers.Page made)
page_ends held card back filters turned (Ok text) shows refused same = record { shows = (text, refl, shows); refused = tt; same = same }
page_ends held card back filters turned (Err fault) shows refused same = record { shows = tt; refused = refused; same = same }
