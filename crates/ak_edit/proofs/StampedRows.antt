-- A row in its ranges has a stamp in its range, and stays in them under another such stamp.
use Rattle.ak_base.specs.Limits.{last_stamp}
use Rattle.ak_base.specs.Rows.{IsChecked, stamp_of, with_stamp}
use Rattle.std.specs.Prelude.{◌≡◌, ℤ, pos, ◌≤ℤ◌, Bool, true, false, ◌||◌, int_lt, if◌then◌else◌, List, [], ◌∷◌, ◌++◌, Option, Some, None, Ok}
use Rattle.std.proofs.Common.{refl, sym, arith}
use Rattle.std.proofs.lemmas.Int.{ints}
use Rattle.std.proofs.lemmas.Option.{none-some}
use Rattle.std.specs.List.{AllByRecursion}
use Rattle.ak_base.specs.Cards.{place_faults, schedule_faults, mark_faults}
use Rattle.ak_base.specs.Columns.{stamp_fault, first_fault}
use Rattle.ak_base.specs.Decks.{title_faults as deck_titles, taken_faults}
use Rattle.ak_base.specs.declared.notes.Note.{Note}
use Rattle.ak_base.specs.declared.cards.Card.{Card}
use Rattle.ak_base.specs.declared.note_types.NoteType.{NoteType}
use Rattle.ak_base.specs.declared.decks.Deck.{Deck}
use Rattle.ak_base.specs.declared.option_groups.Options.{Options}
use Rattle.ak_base.specs.NoteTypes.{title_faults as type_titles, form_faults}
use Rattle.ak_base.specs.Notes.{identity_faults, content_faults}
use Rattle.ak_base.specs.OptionGroups.{general_faults, new_faults, rev_faults, lapse_faults}
use Rattle.ak_base.specs.declared.errors.RowFault.{RowFault}
use Rattle.ak_base.specs.declared.errors.RowFault.TheVariants.{StampRange}
use Rattle.ak_base.specs.declared.rows.Row.{Row}
use Rattle.ak_base.specs.declared.rows.Row.TheVariants as rows
use Rattle.ak_merge.proofs.CheckedRows.{faultless_of}

pub of_faultless : (faults : List (Option RowFault)) → AllByRecursion (λ fault. fault ≡ None) faults → first_fault faults ≡ Ok tt
of_faultless [] all = refl
of_faultless (None ∷ faults) all = of_faultless faults all.1
of_faultless (Some fault ∷ faults) all = absurd (grind (arith, all.0))

stamp_fits : (stamp : ℤ) → pos 0 ≤ℤ stamp → stamp ≤ℤ last_stamp → stamp_fault stamp ≡ None
unfolding stamp_fault
stamp_fits stamp low high =
    let not_less : int_lt stamp (pos 0) ≡ false = grind (arith, ints, low) in
    let not_more : int_lt last_stamp stamp ≡ false = grind (arith, ints, high) in
    rw (not_less, not_more) refl

high_of : (stamp : ℤ) (under over : Bool) → int_lt last_stamp stamp ≡ over → (if under || over then Some StampRange else None) ≡ None → stamp ≤ℤ last_stamp
high_of stamp under false is none = grind (arith, ints, is)
high_of stamp true true is none = absurd (none-some StampRange (sym none))
high_of stamp false true is none = absurd (none-some StampRange (sym none))

stamp_within : (stamp : ℤ) → stamp_fault stamp ≡ None → stamp ≤ℤ last_stamp
unfolding stamp_fault
stamp_within stamp none = high_of stamp (int_lt stamp (pos 0)) (int_lt last_stamp stamp) refl none

-- the stamp of a checked row is at most the last one
pub stamp_at_most : (row : Row) → IsChecked row → stamp_of row ≤ℤ last_stamp
unfolding identity_faults content_faults place_faults schedule_faults mark_faults type_titles form_faults deck_titles taken_faults general_faults new_faults rev_faults lapse_faults
stamp_at_most (rows.Note n) checked = stamp_within n.stamp (faultless_of (identity_faults n ++ content_faults n) checked).1.1.1.0
stamp_at_most (rows.Card c) checked = stamp_within c.stamp (faultless_of (place_faults c ++ (schedule_faults c ++ mark_faults c)) checked).1.1.1.1.0
stamp_at_most (rows.Review r) checked = search ints
stamp_at_most (rows.NoteType t) checked = stamp_within t.stamp (faultless_of (type_titles t ++ form_faults t) checked).1.0
stamp_at_most (rows.Deck d) checked = stamp_within d.stamp (faultless_of (deck_titles d ++ taken_faults d) checked).1.0
stamp_at_most (rows.Options o) checked = stamp_within o.stamp (faultless_of (general_faults o ++ (new_faults o ++ (rev_faults o ++ lapse_faults o))) checked).1.0
stamp_at_most (rows.Grave g) checked = search ints

-- a checked row stays checked under a stamp in its range
pub checked_with_stamp : (row : Row) (stamp : ℤ) → pos 0 ≤ℤ stamp → stamp ≤ℤ last_stamp → IsChecked row → IsChecked (with_stamp row stamp)
unfolding identity_faults content_faults place_faults schedule_faults mark_faults type_titles form_faults deck_titles taken_faults general_faults new_faults rev_faults lapse_faults
checked_with_stamp (rows.Note n) stamp low high checked =
    let all = faultless_of (identity_faults n ++ content_faults n) checked in
    let after : Note = record n { stamp = stamp } in
    of_faultless (identity_faults after ++ content_faults after) (all.0, (all.1.0, (all.1.1.0, (stamp_fits stamp low high, all.1.1.1.1))))
checked_with_stamp (rows.Card c) stamp low high checked =
    let all = faultless_of (place_faults c ++ (schedule_faults c ++ mark_faults c)) checked in
    let after : Card = record c { stamp = stamp } in
    of_faultless (place_faults after ++ (schedule_faults after ++ mark_faults after)) (all.0, (all.1.0, (all.1.1.0, (all.1.1.1.0, (stamp_fits stamp low high, all.1.1.1.1.1)))))
checked_with_stamp (rows.Review r) stamp low high checked = checked
checked_with_stamp (rows.NoteType t) stamp low high checked =
    let all = faultless_of (type_titles t ++ form_faults t) checked in
    let after : NoteType = record t { stamp = stamp } in
    of_faultless (type_titles after ++ form_faults after) (all.0, (stamp_fits stamp low high, all.1.1))
checked_with_stamp (rows.Deck d) stamp low high checked =
    let all = faultless_of (deck_titles d ++ taken_faults d) checked in
    let after : Deck = record d { stamp = stamp } in
    of_faultless (deck_titles after ++ taken_faults after) (all.0, (stamp_fits stamp low high, all.1.1))
checked_with_stamp (rows.Options o) stamp low high checked =
    let all = faultless_of (general_faults o ++ (new_faults o ++ (rev_faults o ++ lapse_faults o))) checked in
    let after : Options = record o { stamp = stamp } in
    of_faultless (general_faults after ++ (new_faults after ++ (rev_faults after ++ lapse_faults after))) (all.0, (stamp_fits stamp low high, all.1.1))
checked_with_stamp (rows.Grave g) stamp low high checked = checked
