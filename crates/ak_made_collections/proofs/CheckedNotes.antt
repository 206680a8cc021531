-- The notes that are made of a seed are in their ranges.
use Rattle.std.proofs.Common.{◌≡◌, ℕ, pos, ◌+◌, ◌^◌, ◌%◌, ◌<◌, ◌≤◌, ◌≤ℤ◌, ◌==◌, Bool, true, false, if◌then◌else◌, nat_lt, ◌∷◌, ◌++◌, length, None, Ok, refl, ◌∙◌, codes, decimal, arith}
use Rattle.std.proofs.lemmas.Bool.Decides.{nat_tests}
use Rattle.std.proofs.lemmas.Fmt.{length-decimal-le}
use Rattle.std.proofs.lemmas.Int.{ints}
use Rattle.std.proofs.lemmas.List.{length-append}
use Rattle.std.proofs.lemmas.Nat.{mod_below}
use Rattle.ak_base.proofs.FirstFaults.{fault_behind}
use Rattle.ak_base.specs.Columns.{first_fault, id_fault, long_fault}
use Rattle.ak_base.specs.Notes.{IsCheckedNote, content_faults, identity_faults}
use Rattle.ak_cardgen.specs.Checksums.{checksum}
use Rattle.ak_made_collections.proofs.CheckedCards.{at_most, from_below, code_free, id_free, id_passes, of_faultless, stamp_passes}
use Rattle.ak_made_collections.specs.MadeNotes.{back_of, front_of, made_note, type_of}
use Rattle.ak_made_collections.specs.RowIds.{made_id}
use Rattle.ak_made_collections.specs.RowNumbers.{words_before_note}
use Rattle.ak_made_collections.specs.SeedWords.{nth_word}
use Rattle.ak_notes.specs.NoteRows.{last_four_digits, made_guid}

-- ---- texts that are short enough
long_free : (column size most : ℕ) → size ≤ most → long_fault column size most ≡ None
unfolding long_fault
long_free column size most short =
    let not_more : nat_lt most size ≡ false = grind (arith, nat_tests, short) in
    rw not_more refl

guid_short : (id word : ℕ) → id < 10 ^ 13 → length (made_guid (pos id) word) ≤ 18
guid_short id word few =
    omega (arith, length-append (decimal id) (45 ∷ last_four_digits word), length-decimal-le 13 id (omega arith) few (omega (arith, few)))

front_short : (number : ℕ) → number < 20_000 → length (front_of number) ≤ 11
front_short number few =
    omega (arith, length-append (codes "front ") (decimal number), length-decimal-le 5 number (omega arith) (omega (arith, few)) (omega (arith, few)))

back_short : (seed number : ℕ) → length (back_of seed number) ≤ 8
back_short seed number =
    let word : ℕ = nth_word seed (words_before_note number) in
    let few = mod_below word 1_000 (omega arith) in
    omega (
      arith,
      length-append (codes "back ") (decimal (word % 1_000)),
      length-decimal-le 3 (word % 1_000) (omega arith) (omega (arith, few)) (omega (arith, few)),
    )

fields_short : (seed number : ℕ) → number < 20_000 → length (front_of number ++ 31 ∷ back_of seed number) ≤ 20
fields_short seed number few =
    omega (arith, length-append (front_of number) (31 ∷ back_of seed number), front_short number few, back_short seed number)

type_passes : (number : ℕ) → id_fault (type_of number) ≡ None
type_passes number = by (number % 3 == 0)
  where
    by : (third : Bool) → id_fault (if third then pos 1 else pos 3) ≡ None
    by true = id_free 1 (omega arith) (omega arith)
    by false = id_free 3 (omega arith) (omega arith)

-- ---- notes
note_identity : (seed number : ℕ) → number < 20_000 → first_fault (identity_faults (made_note seed number)) ≡ Ok tt
unfolding identity_faults
note_identity seed number few = of_faultless (identity_faults (made_note seed number)) (
  id_passes number (omega (arith, few)),
  (
    long_free 1 (length (made_guid (made_id number) (nth_word seed (words_before_note number + 1)))) 64
        (omega (arith, guid_short (1_500_000_000_000 + number) (nth_word seed (words_before_note number + 1)) (omega (arith, few)))),
    (
      type_passes number,
      (
        stamp_passes,
        (from_below 4 0 0 2_147_483_647 (omega arith), tt),
      ),
    ),
  ),
)

note_content : (seed number : ℕ) → number < 20_000 → checksum (front_of number) ≤ℤ pos 4_294_967_295
    → first_fault (content_faults (made_note seed number)) ≡ Ok tt
unfolding content_faults
note_content seed number few sum = of_faultless (content_faults (made_note seed number)) (
  long_free 5 0 8_192 (omega arith),
  (
    long_free 6 (length (front_of number ++ 31 ∷ back_of seed number)) 65_536 (omega (arith, fields_short seed number few)),
    (
      long_free 7 (length (front_of number)) 65_536 (omega (arith, front_short number few)),
      (
        code_free 8 (checksum (front_of number)) (pos 0) (pos 4_294_967_295) (omega (arith, ints)) sum,
        (
          at_most 9 0 0 2_147_483_647 (omega arith) (omega arith),
          (long_free 10 0 32_768 (omega arith), tt),
        ),
      ),
    ),
  ),
)

pub note_passes : (seed number : ℕ) → number < 20_000 → checksum (front_of number) ≤ℤ pos 4_294_967_295 → IsCheckedNote (made_note seed number)
note_passes seed number few sum =
    let note = made_note seed number in
    fault_behind (identity_faults note) (content_faults note) tt (note_identity seed number few) ∙ note_content seed number few sum
