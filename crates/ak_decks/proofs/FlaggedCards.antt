-- A card with a flag keeps its id and stays in its ranges.
use Rattle.std.specs.Prelude.{◌≡◌, ℕ, ℤ, pos, negsuc, ◌+ℤ◌, ◌-ℤ◌, ◌≤ℤ◌, ◌≤◌, ◌+◌, ◌-◌, ◌%◌, Bool, true, false, ◌||◌, int_lt, int_rem, if◌then◌else◌, List, [], ◌∷◌, ◌++◌, Option, Some, None, Ok}
use Rattle.std.proofs.Common.{refl, sym, arith, rules, w64, SFits, to_z, of_z}
use Rattle.std.proofs.lemmas.Int.{ints, to_z-of_z}
use Rattle.std.proofs.lemmas.Option.{none-some}
use Rattle.std.specs.List.{AllByRecursion}
use Rattle.ak_base.specs.Cards.{IsCheckedCard, place_faults, schedule_faults, mark_faults}
use Rattle.ak_base.specs.Columns.{code_fault, first_fault}
use Rattle.ak_base.specs.Heads.{IsWithin}
use Rattle.ak_base.specs.declared.cards.Card.{Card}
use Rattle.ak_base.specs.declared.errors.RowFault.{RowFault}
use Rattle.ak_base.specs.declared.errors.RowFault.TheVariants as row_faults
use Rattle.ak_decks.specs.Flags.{flagged}
use Rattle.ak_edit_calls.proofs.CheckedRows.{of_faultless}
use Rattle.ak_edit_calls.specs.CardEdits.{KeepsCards}
use Rattle.ak_merge.proofs.CheckedRows.{faultless_of}

-- ---- the column of the flags
fits : (flags : ℤ) → pos 0 ≤ℤ flags → flags ≤ℤ pos 2_147_483_647 → code_fault 16 flags (pos 0) (pos 2_147_483_647) ≡ None
unfolding code_fault
fits flags low high =
    let not_less : int_lt flags (pos 0) ≡ false = grind (arith, ints, low) in
    let not_more : int_lt (pos 2_147_483_647) flags ≡ false = grind (arith, ints, high) in
    rw (not_less, not_more) refl

range_of : (flags : ℤ) (under over : Bool) → int_lt flags (pos 0) ≡ under → int_lt (pos 2_147_483_647) flags ≡ over
    → (if under || over then Some (row_faults.BadCode 16 flags) else None) ≡ None → IsWithin (pos 0) (pos 2_147_483_647) flags
range_of flags false false low high none = record { low = grind (arith, ints, low); high = grind (arith, ints, high) }
range_of flags true over low high none = absurd (none-some (row_faults.BadCode 16 flags) (sym none))
range_of flags false true low high none = absurd (none-some (row_faults.BadCode 16 flags) (sym none))

within : (flags : ℤ) → code_fault 16 flags (pos 0) (pos 2_147_483_647) ≡ None → IsWithin (pos 0) (pos 2_147_483_647) flags
unfolding code_fault
within flags none = range_of flags (int_lt flags (pos 0)) (int_lt (pos 2_147_483_647) flags) refl refl none

-- the flags of a card with a flag in place of the one that it has
pub flags_within : (flags value : ℤ) → IsWithin (pos 0) (pos 2_147_483_647) flags → IsWithin (pos 0) (pos 7) value → IsWithin (pos 0) (pos 2_147_483_647) ((flags -ℤ int_rem flags (pos 8)) +ℤ value)
flags_within (pos n) value flags range = record {
  low = omega (arith, ints, flags.low, flags.high, range.low, range.high);
  high = omega (arith, ints, flags.low, flags.high, range.low, range.high);
}
flags_within (negsuc n) value flags range = absurd (grind (arith, ints, flags.low))

-- ---- the other columns
abbrev AreFaultless : List (Option RowFault) → Type 0
AreFaultless = AllByRecursion (λ fault. fault ≡ None)

split : (one other : List (Option RowFault)) → AreFaultless (one ++ other) → AreFaultless one × AreFaultless other
split [] other all = (tt, all)
split (fault ∷ one) other all = let rest = split one other all.1 in ((all.0, rest.0), rest.1)

joined : (one other : List (Option RowFault)) → AreFaultless one → AreFaultless other → AreFaultless (one ++ other)
joined [] other all rest = rest
joined (fault ∷ one) other all rest = (all.0, joined one other all.1 rest)

pub flags_of_checked : (card : Card) → IsCheckedCard card → IsWithin (pos 0) (pos 2_147_483_647) card.flags
unfolding mark_faults
flags_of_checked card checked =
    let all = faultless_of (place_faults card ++ (schedule_faults card ++ mark_faults card)) checked in
    let marks = (split (schedule_faults card) (mark_faults card) (split (place_faults card) (schedule_faults card ++ mark_faults card) all).1).1 in
    within card.flags marks.1.1.0

checked_flagged : (value : ℤ) (card : Card) → IsWithin (pos 0) (pos 7) value → IsCheckedCard card → IsCheckedCard (flagged value card)
unfolding place_faults schedule_faults mark_faults
checked_flagged value card range checked =
    let all = faultless_of (place_faults card ++ (schedule_faults card ++ mark_faults card)) checked in
    let after : Card = flagged value card in
    let first = split (place_faults card) (schedule_faults card ++ mark_faults card) all in
    let others = split (schedule_faults card) (mark_faults card) first.1 in
    let new = flags_within card.flags value (within card.flags others.1.1.1.0) range in
    of_faultless (place_faults after ++ (schedule_faults after ++ mark_faults after))
    (joined (place_faults after) (schedule_faults after ++ mark_faults after) first.0
    (joined (schedule_faults after) (mark_faults after) others.0
    (others.1.0, (others.1.1.0, (fits after.flags new.low new.high, others.1.1.1.1)))))

pub flag_keeps : (value : ℤ) → IsWithin (pos 0) (pos 7) value → KeepsCards (flagged value)
flag_keeps value range = record { id = λ card. refl; checked = λ card. checked_flagged value card range }

-- ---- the numbers as the program has them
whole : (z : ℤ) → pos 0 ≤ℤ z → z ≤ℤ pos 4_294_967_295 → SFits w64 z
whole z low high = search (rules, ints)

passed : (z : ℤ) → pos 0 ≤ℤ z → z ≤ℤ pos 4_294_967_295 → to_z w64 (of_z w64 z) ≡ z
passed z low high = to_z-of_z w64 z (whole z low high)

-- the flags that the program computes
pub flags_computed : (flags value : ℤ) → IsWithin (pos 0) (pos 2_147_483_647) flags → IsWithin (pos 0) (pos 7) value
    → to_z w64 (of_z w64 (to_z w64 (of_z w64 (to_z w64 (of_z w64 flags) -ℤ to_z w64 (of_z w64 (int_rem (to_z w64 (of_z w64 flags)) (pos 8))))) +ℤ to_z w64 (of_z w64 value))) ≡ (flags -ℤ int_rem flags (pos 8)) +ℤ value
flags_computed (pos n) value flags range =
    let all = flags_within (pos n) value flags range in
    rw (passed (pos n) flags.low (omega (arith, ints, flags.high)), passed value range.low (omega (arith, ints, range.high)))
    (rw (passed (pos (n % 8)) (omega (arith, ints)) (omega (arith, ints)))
    (rw (passed (pos n -ℤ pos (n % 8)) (omega (arith, ints, flags.high)) (omega (arith, ints, flags.high)))
    (passed ((pos n -ℤ pos (n % 8)) +ℤ value) all.low (omega (arith, ints, all.high)))))
flags_computed (negsuc n) value flags range = absurd (grind (arith, ints, flags.low))
