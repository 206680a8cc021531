-- A row in its ranges stays in them as an edit leaves it.
use Rattle.ak_base.specs.Limits.{last_usn}
use Rattle.ak_base.specs.Rows.{IsChecked, with_stamp, with_usn}
use Rattle.std.specs.Prelude.{◌≡◌, ℕ, pos, negsuc, List, [], ◌∷◌, ◌++◌, Option, Some, None, Result, Ok, Err, is_ok}
use Rattle.std.proofs.Common.{refl, sym, ap, ◌∙◌, arith}
use Rattle.std.proofs.lemmas.Int.{ints}
use Rattle.std.specs.List.{AllByRecursion}
use Rattle.ak_base.specs.Cards.{place_faults, schedule_faults, mark_faults}
use Rattle.ak_base.specs.Columns.{code_fault, first_fault}
use Rattle.ak_base.specs.Decks.{title_faults as deck_titles, taken_faults}
use Rattle.ak_base.specs.Graves.{grave_faults}
use Rattle.ak_base.specs.NoteTypes.{title_faults as type_titles, form_faults}
use Rattle.ak_base.specs.Notes.{identity_faults, content_faults}
use Rattle.ak_base.specs.OptionGroups.{general_faults, new_faults, rev_faults, lapse_faults}
use Rattle.ak_base.specs.Reviews.{review_faults}
use Rattle.ak_base.specs.declared.cards.Card.{Card}
use Rattle.ak_base.specs.declared.decks.Deck.{Deck}
use Rattle.ak_base.specs.declared.errors.RowFault.{RowFault}
use Rattle.ak_base.specs.declared.graves.Grave.{Grave}
use Rattle.ak_base.specs.declared.note_types.NoteType.{NoteType}
use Rattle.ak_base.specs.declared.notes.Note.{Note}
use Rattle.ak_base.specs.declared.option_groups.Options.{Options}
use Rattle.ak_base.specs.declared.reviews.Review.{Review}
use Rattle.ak_base.specs.declared.rows.Row.{Row}
use Rattle.ak_base.specs.declared.rows.Row.TheVariants as rows
use Rattle.ak_edit.proofs.StampedRows.{checked_with_stamp}
use Rattle.ak_merge.proofs.CheckedRows.{faultless_of}
use Rattle.ak_merge.proofs.EditFacts.{false_true}
use Rattle.ak_merge.specs.Edits.{edited}

pub of_faultless : (faults : List (Option RowFault)) → AllByRecursion (λ fault. fault ≡ None) faults → first_fault faults ≡ Ok tt
of_faultless [] all = refl
of_faultless (None ∷ faults) all = of_faultless faults all.1
of_faultless (Some fault ∷ faults) all = absurd (grind (arith, all.0))

-- a row that passes its check has no fault
pub ok_err : {X : Type 0} (fault : RowFault) (result : Result (Unit {0}) RowFault) → result ≡ Ok tt → result ≡ Err fault → X
ok_err fault result ok err = false_true (sym (ap is_ok err) ∙ ap is_ok ok)

-- the number of a row that was not sent yet is in range
unsent_fits : (column : ℕ) → code_fault column (negsuc 0) (negsuc 0) last_usn ≡ None
unfolding code_fault
unsent_fits column = refl

unsent : (row : Row) → IsChecked row → IsChecked (with_usn row (negsuc 0))
unfolding identity_faults content_faults place_faults schedule_faults mark_faults type_titles form_faults deck_titles taken_faults general_faults new_faults rev_faults lapse_faults
unsent (rows.Note n) checked =
    let all = faultless_of (identity_faults n ++ content_faults n) checked in
    let after : Note = record n { usn = negsuc 0 } in
    of_faultless (identity_faults after ++ content_faults after) (all.0, (all.1.0, (all.1.1.0, (all.1.1.1.0, (unsent_fits 4, all.1.1.1.1.1)))))
unsent (rows.Card c) checked =
    let all = faultless_of (place_faults c ++ (schedule_faults c ++ mark_faults c)) checked in
    let after : Card = record c { usn = negsuc 0 } in
    of_faultless (place_faults after ++ (schedule_faults after ++ mark_faults after)) (all.0, (all.1.0, (all.1.1.0, (all.1.1.1.0, (all.1.1.1.1.0, (unsent_fits 5, all.1.1.1.1.1.1))))))
unsent (rows.Review r) checked =
    let all = faultless_of (review_faults r) checked in
    let after : Review = record r { usn = negsuc 0 } in
    of_faultless (review_faults after) (all.0, (all.1.0, (unsent_fits 2, all.1.1.1)))
unsent (rows.NoteType t) checked =
    let all = faultless_of (type_titles t ++ form_faults t) checked in
    let after : NoteType = record t { usn = negsuc 0 } in
    of_faultless (type_titles after ++ form_faults after) (all.0, (all.1.0, (unsent_fits 2, all.1.1.1)))
unsent (rows.Deck d) checked =
    let all = faultless_of (deck_titles d ++ taken_faults d) checked in
    let after : Deck = record d { usn = negsuc 0 } in
    of_faultless (deck_titles after ++ taken_faults after) (all.0, (all.1.0, (unsent_fits 2, all.1.1.1)))
unsent (rows.Options o) checked =
    let all = faultless_of (general_faults o ++ (new_faults o ++ (rev_faults o ++ lapse_faults o))) checked in
    let after : Options = record o { usn = negsuc 0 } in
    of_faultless (general_faults after ++ (new_faults after ++ (rev_faults after ++ lapse_faults after))) (all.0, (all.1.0, (unsent_fits 2, all.1.1.1)))
unsent (rows.Grave g) checked =
    let all = faultless_of (grave_faults g) checked in
    let after : Grave = record g { usn = negsuc 0 } in
    of_faultless (grave_faults after) (unsent_fits 0, all.1)

-- as an edit leaves it, but for the stamp
pub checked_edited : (row : Row) → IsChecked row → IsChecked (edited (pos 0) row)
checked_edited row checked =
    unsent (with_stamp row (pos 0)) (checked_with_stamp row (pos 0) (grind (arith, ints)) (grind (arith, ints)) checked)
