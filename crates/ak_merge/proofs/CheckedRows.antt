-- A row in its ranges stays in them under another usn that is in range.
use Rattle.ak_base.specs.Limits.{last_usn}
use Rattle.ak_base.specs.Rows.{IsChecked, with_usn}
use Rattle.std.specs.Prelude.{◌≡◌, ℕ, ℤ, pos, negsuc, ◌≤ℤ◌, false, int_lt, List, [], ◌∷◌, ◌++◌, Option, Some, None, Ok}
use Rattle.std.proofs.Common.{refl, arith}
use Rattle.std.proofs.lemmas.Int.{ints}
use Rattle.std.specs.List.{AllByRecursion}
use Rattle.ak_base.specs.Cards.{place_faults, schedule_faults, mark_faults}
use Rattle.ak_base.specs.Columns.{code_fault, first_fault}
use Rattle.ak_base.specs.Decks.{title_faults as deck_titles, taken_faults}
use Rattle.ak_base.specs.Graves.{grave_faults}
use Rattle.ak_base.specs.Reviews.{review_faults}
use Rattle.ak_base.specs.declared.notes.Note.{Note}
use Rattle.ak_base.specs.declared.cards.Card.{Card}
use Rattle.ak_base.specs.declared.reviews.Review.{Review}
use Rattle.ak_base.specs.declared.note_types.NoteType.{NoteType}
use Rattle.ak_base.specs.declared.decks.Deck.{Deck}
use Rattle.ak_base.specs.declared.option_groups.Options.{Options}
use Rattle.ak_base.specs.declared.graves.Grave.{Grave}
use Rattle.ak_base.specs.NoteTypes.{title_faults as type_titles, form_faults}
use Rattle.ak_base.specs.Notes.{identity_faults, content_faults}
use Rattle.ak_base.specs.OptionGroups.{general_faults, new_faults, rev_faults, lapse_faults}
use Rattle.ak_base.specs.declared.errors.RowFault.{RowFault}
use Rattle.ak_base.specs.declared.rows.Row.{Row}
use Rattle.ak_base.specs.declared.rows.Row.TheVariants as rows

-- no column has a fault
abbrev AreFaultless : List (Option RowFault) → Type 0
AreFaultless = AllByRecursion (λ fault. fault ≡ None)

pub faultless_of : (faults : List (Option RowFault)) → first_fault faults ≡ Ok tt → AreFaultless faults
faultless_of [] is = tt
faultless_of (None ∷ faults) is = (refl, faultless_of faults is)
faultless_of (Some fault ∷ faults) is = grind (arith, is)

of_faultless : (faults : List (Option RowFault)) → AreFaultless faults → first_fault faults ≡ Ok tt
of_faultless [] all = refl
of_faultless (None ∷ faults) all = of_faultless faults all.1
of_faultless (Some fault ∷ faults) all = absurd (grind (arith, all.0))

usn_fits : (column : ℕ) (usn : ℤ) → pos 0 ≤ℤ usn → usn ≤ℤ last_usn → code_fault column usn (negsuc 0) last_usn ≡ None
unfolding code_fault
usn_fits column usn low high =
    let not_less : int_lt usn (negsuc 0) ≡ false = grind (arith, ints, low) in
    let not_more : int_lt last_usn usn ≡ false = grind (arith, ints, high) in
    rw (not_less, not_more) refl

-- a checked row stays checked under a number from 0 to the last
pub checked_with_usn : (row : Row) (usn : ℤ) → pos 0 ≤ℤ usn → usn ≤ℤ last_usn → IsChecked row → IsChecked (with_usn row usn)
unfolding identity_faults content_faults place_faults schedule_faults mark_faults type_titles form_faults deck_titles taken_faults general_faults new_faults rev_faults lapse_faults
checked_with_usn (rows.Note n) usn low high checked =
    let all = faultless_of (identity_faults n ++ content_faults n) checked in
    let after : Note = record n { usn = usn } in
    of_faultless (identity_faults after ++ content_faults after) (all.0, (all.1.0, (all.1.1.0, (all.1.1.1.0, (usn_fits 4 usn low high, all.1.1.1.1.1)))))
checked_with_usn (rows.Card c) usn low high checked =
    let all = faultless_of (place_faults c ++ (schedule_faults c ++ mark_faults c)) checked in
    let after : Card = record c { usn = usn } in
    of_faultless (place_faults after ++ (schedule_faults after ++ mark_faults after)) (all.0, (all.1.0, (all.1.1.0, (all.1.1.1.0, (all.1.1.1.1.0, (usn_fits 5 usn low high, all.1.1.1.1.1.1))))))
checked_with_usn (rows.Review r) usn low high checked =
    let all = faultless_of (review_faults r) checked in
    let after : Review = record r { usn = usn } in
    of_faultless (review_faults after) (all.0, (all.1.0, (usn_fits 2 usn low high, all.1.1.1)))
checked_with_usn (rows.NoteType t) usn low high checked =
    let all = faultless_of (type_titles t ++ form_faults t) checked in
    let after : NoteType = record t { usn = usn } in
    of_faultless (type_titles after ++ form_faults after) (all.0, (all.1.0, (usn_fits 2 usn low high, all.1.1.1)))
checked_with_usn (rows.Deck d) usn low high checked =
    let all = faultless_of (deck_titles d ++ taken_faults d) checked in
    let after : Deck = record d { usn = usn } in
    of_faultless (deck_titles after ++ taken_faults after) (all.0, (all.1.0, (usn_fits 2 usn low high, all.1.1.1)))
checked_with_usn (rows.Options o) usn low high checked =
    let all = faultless_of (general_faults o ++ (new_faults o ++ (rev_faults o ++ lapse_faults o))) checked in
    let after : Options = record o { usn = usn } in
    of_faultless (general_faults after ++ (new_faults after ++ (rev_faults after ++ lapse_faults after))) (all.0, (all.1.0, (usn_fits 2 usn low high, all.1.1.1)))
checked_with_usn (rows.Grave g) usn low high checked =
    let all = faultless_of (grave_faults g) checked in
    let after : Grave = record g { usn = usn } in
    of_faultless (grave_faults after) (usn_fits 0 usn low high, all.1)
