-- Cards in other queues keep their ids and stay in their ranges.
use Rattle.std.specs.Prelude.{◌≡◌, ℤ, pos, negsuc, Bool, true, false, ◌||◌, int_lt, if◌then◌else◌, ◌++◌, Some, None}
use Rattle.std.proofs.Common.{refl, sym, arith}
use Rattle.std.proofs.lemmas.Int.{ints}
use Rattle.std.proofs.lemmas.Option.{none-some}
use Rattle.std.specs.Ordering.{int_eq}
use Rattle.ak_base.specs.Cards.{IsCheckedCard, place_faults, schedule_faults, mark_faults}
use Rattle.ak_base.specs.Columns.{code_fault}
use Rattle.ak_base.specs.declared.cards.Card.{Card}
use Rattle.ak_base.specs.declared.errors.RowFault.TheVariants as row_faults
use Rattle.ak_edit_calls.proofs.CheckedRows.{of_faultless}
use Rattle.ak_edit_calls.specs.CardEdits.{KeepsCards}
use Rattle.ak_merge.proofs.CheckedRows.{faultless_of}
use Rattle.ak_queue.specs.Burials.{restored_queue}
use Rattle.ak_study.specs.CardPlaces.{buried_by_hand, lies_buried, queued, restored, suspended, unburied, unsuspended}

-- ---- the column of the queue
fits : (queue : ℤ) → int_lt queue (negsuc 2) ≡ false → int_lt (pos 3) queue ≡ false → code_fault 7 queue (negsuc 2) (pos 3) ≡ None
unfolding code_fault
fits queue low high = rw (low, high) refl

kind_high : (kind : ℤ) (under over : Bool) → int_lt (pos 3) kind ≡ over → (if under || over then Some (row_faults.BadCode 6 kind) else None) ≡ None → int_lt (pos 3) kind ≡ false
kind_high kind under false high none = high
kind_high kind true true high none = absurd (none-some (row_faults.BadCode 6 kind) (sym none))
kind_high kind false true high none = absurd (none-some (row_faults.BadCode 6 kind) (sym none))

kind_low : (kind : ℤ) (under over : Bool) → int_lt kind (pos 0) ≡ under → (if under || over then Some (row_faults.BadCode 6 kind) else None) ≡ None → int_lt kind (negsuc 2) ≡ false
kind_low kind false over low none = grind (arith, ints, low)
kind_low kind true over low none = absurd (none-some (row_faults.BadCode 6 kind) (sym none))

-- a kind is a queue
kind_fits : (kind : ℤ) → code_fault 6 kind (pos 0) (pos 3) ≡ None → code_fault 7 kind (negsuc 2) (pos 3) ≡ None
unfolding code_fault
kind_fits kind none = fits kind (kind_low kind (int_lt kind (pos 0)) (int_lt (pos 3) kind) refl none) (kind_high kind (int_lt kind (pos 0)) (int_lt (pos 3) kind) refl none)

learning_fits : (late : Bool) → code_fault 7 (if late then pos 1 else pos 3) (negsuc 2) (pos 3) ≡ None
unfolding code_fault
learning_fits true = refl
learning_fits false = refl

restored_fits : (learns late : Bool) (kind : ℤ) → code_fault 6 kind (pos 0) (pos 3) ≡ None → code_fault 7 (if learns then (if late then pos 1 else pos 3) else kind) (negsuc 2) (pos 3) ≡ None
restored_fits true late kind none = learning_fits late
restored_fits false late kind none = kind_fits kind none

-- ---- the card
checked_queued : (queue : ℤ) (card : Card) → code_fault 7 queue (negsuc 2) (pos 3) ≡ None → IsCheckedCard card → IsCheckedCard (queued queue card)
unfolding place_faults schedule_faults mark_faults
checked_queued queue card range checked =
    let all = faultless_of (place_faults card ++ (schedule_faults card ++ mark_faults card)) checked in
    let after : Card = queued queue card in
    of_faultless (place_faults after ++ (schedule_faults after ++ mark_faults after))
    (all.0, (all.1.0, (all.1.1.0, (all.1.1.1.0, (all.1.1.1.1.0, (all.1.1.1.1.1.0, (all.1.1.1.1.1.1.0, (range, all.1.1.1.1.1.1.1.1))))))))

kind_of_checked : (card : Card) → IsCheckedCard card → code_fault 6 card.kind (pos 0) (pos 3) ≡ None
unfolding place_faults schedule_faults mark_faults
kind_of_checked card checked = (faultless_of (place_faults card ++ (schedule_faults card ++ mark_faults card)) checked).1.1.1.1.1.1.0

pub checked_restored : (card : Card) → IsCheckedCard card → IsCheckedCard (restored card)
checked_restored card checked =
    checked_queued (restored_queue card) card
    (restored_fits (int_eq card.kind (pos 1) || int_eq card.kind (pos 3)) (int_lt (pos 1_000_000_000) card.due) card.kind (kind_of_checked card checked)) checked

set_aside : (queue : ℤ) → int_lt queue (negsuc 2) ≡ false → int_lt (pos 3) queue ≡ false → (card : Card) → IsCheckedCard card → IsCheckedCard (queued queue card)
set_aside queue low high card checked = checked_queued queue card (fits queue low high) checked

-- either of two changes of a card
either_keeps : (test : Bool) (one other : Card) → IsCheckedCard one → IsCheckedCard other → IsCheckedCard (if test then one else other)
either_keeps true one other first second = first
either_keeps false one other first second = second

either_named : (test : Bool) (card one other : Card) → one.id ≡ card.id → other.id ≡ card.id → (if test then one else other).id ≡ card.id
either_named true card one other first second = first
either_named false card one other first second = second

-- ---- the changes
pub suspend_keeps : KeepsCards suspended
suspend_keeps = record { id = λ card. refl; checked = λ card. set_aside (negsuc 0) refl refl card }

pub unsuspend_keeps : KeepsCards unsuspended
unsuspend_keeps = record {
  id = λ card. either_named (int_eq card.queue (negsuc 0)) card (restored card) card refl refl;
  checked = λ card checked. either_keeps (int_eq card.queue (negsuc 0)) (restored card) card (checked_restored card checked) checked;
}

pub bury_keeps : KeepsCards buried_by_hand
bury_keeps = record {
  id = λ card. either_named (int_lt card.queue (pos 0)) card card (queued (negsuc 2) card) refl refl;
  checked = λ card checked. either_keeps (int_lt card.queue (pos 0)) card (queued (negsuc 2) card) checked (set_aside (negsuc 2) refl refl card checked);
}

pub unbury_keeps : KeepsCards unburied
unbury_keeps = record {
  id = λ card. either_named (lies_buried card) card (restored card) card refl refl;
  checked = λ card checked. either_keeps (lies_buried card) (restored card) card (checked_restored card checked) checked;
}
