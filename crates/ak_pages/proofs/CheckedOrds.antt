-- A checked card has an ord of at most 499.
use Rattle.std.specs.Prelude.{◌≡◌, ◌≤ℤ◌, ℤ, pos, Bool, true, false, ◌||◌, int_lt, if◌then◌else◌, ◌++◌, Some, None}
use Rattle.std.proofs.Common.{refl, sym, arith}
use Rattle.std.proofs.lemmas.Int.{ints}
use Rattle.std.proofs.lemmas.Option.{none-some}
use Rattle.ak_base.specs.Cards.{IsCheckedCard, place_faults, schedule_faults, mark_faults}
use Rattle.ak_base.specs.Columns.{code_fault}
use Rattle.ak_base.specs.declared.cards.Card.{Card}
use Rattle.ak_base.specs.declared.errors.RowFault.TheVariants as row_faults
use Rattle.ak_merge.proofs.CheckedRows.{faultless_of}

not_over : (ord : ℤ) (under over : Bool) → int_lt (pos 499) ord ≡ over → (if under || over then Some (row_faults.BadCode 3 ord) else None) ≡ None → ord ≤ℤ pos 499
not_over ord under false over none = grind (arith, ints, over)
not_over ord true true over none = absurd (none-some (row_faults.BadCode 3 ord) (sym none))
not_over ord false true over none = absurd (none-some (row_faults.BadCode 3 ord) (sym none))

in_range : (ord : ℤ) → code_fault 3 ord (pos 0) (pos 499) ≡ None → ord ≤ℤ pos 499
unfolding code_fault
in_range ord none = not_over ord (int_lt ord (pos 0)) (int_lt (pos 499) ord) refl none

pub ord_fits : (card : Card) → IsCheckedCard card → card.ord ≤ℤ pos 499
unfolding place_faults schedule_faults mark_faults
ord_fits card checked = in_range card.ord (faultless_of (place_faults card ++ (schedule_faults card ++ mark_faults card)) checked).1.1.1.0
