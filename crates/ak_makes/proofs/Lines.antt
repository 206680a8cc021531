-- The line of what was measured is that of the size, if it is what the size comes to.
use Rattle.std.proofs.Common.{◌≡◌, ℕ, List, Option, sym, ap, subst, inl, inr, ◌∙◌, codes, refl}
use Rattle.std.proofs.lemmas.Option.{same_Some}
use Rattle.ak_makes.specs.MakeLines.{EndsMake, IsExpected, Shows, TellsMeasured, make_text, measured_text}
use Rattle.ak_makes.specs.Measures.{IsMeasured}
use Rattle.ak_makes.specs.declared.measures.Measured.{Measured}
use Rattle.ak_outcomes.specs.OutcomeTexts.{outcome_text}
use Rattle.ak_sync_runs.specs.SyncRuns.{EndsPrinting}

shown : (size : ℕ) (m : Measured) (text : List ℕ) → IsExpected size m → Shows m text → text ≡ make_text size
shown size m text is (outcome, said, are) =
    let finished : outcome ≡ codes "finished" = same_Some outcome (codes "finished") (sym said ∙ ap outcome_text is.finished) in
    let counts : measured_text m (codes "finished") ≡ make_text size = rw (is.notes, is.cards, is.reviews, is.calls) refl in
    are ∙ ap (measured_text m) finished ∙ counts

-- so what is printed of it is told
pub told : (size : ℕ) (m : Measured) (text line : List ℕ) (status : ℕ) (old new : Option (List ℕ)) → IsExpected size m → Shows m text → line ≡ text
    → EndsPrinting line 0 status old new → TellsMeasured size m status old new
told size m text line status old new is shows same printed =
    inl (is, subst (λ (line : List ℕ). EndsPrinting line 0 status old new) (same ∙ shown size m text is shows) printed)

-- and of what was measured
pub ends : (seed size : ℕ) (m : Measured) (status : ℕ) (old new : Option (List ℕ)) → IsMeasured seed size m → TellsMeasured size m status old new
    → EndsMake seed size status old new
ends seed size m status old new measured tells =
    elim tells [ inl (is, printed) ↦ inl (m, measured, is, printed) | inr untold ↦ inr untold ]
