-- The numbers of clozes: their digits, and their order.
use Rattle.std.proofs.Common.{◌≡◌, ℕ, zero, suc, ℤ, pos, ◌+◌, ◌-◌, ◌*◌, ◌/◌, ◌%◌, ◌<◌, ◌<ℤ◌, ◌≤ℤ◌, ◌&&◌, nat_lt, true, false, cond, Option, Some, None, IfSome, Result, Ok, Err, IfOk, List, [], ◌∷◌, ◌++◌, length, drop, append_assoc, append-nil, refl, ap, sym, subst, ◌∙◌, arith}
use Rattle.std.specs.Prelude.{codes, ◌+ℤ◌}
use Rattle.std.specs.Fmt.{decimal}
use Rattle.std.proofs.lemmas.Int.{ints}
use Rattle.std.proofs.lemmas.Bool.Decides.{nat_tests}
use Rattle.std.proofs.lemmas.Fmt.{decimal_digit, decimal_step}
use Rattle.ak_base.specs.Cuts.{begins, has, front, behind}
use Rattle.ak_base.proofs.Cutting.{begins_with}
use Rattle.ak_template.specs.declared.clozes.Part.{Part}
use Rattle.ak_template.specs.declared.clozes.Part.TheVariants.{Bare, Gap}
use Rattle.ak_template.specs.Clozes.{is_number, number_at, marked, mark_parts, left_in, parts_in, parts, gaps, among, borne, numbers_of, part_written, parts_written, AreGaps, AscendsWithin}
use Rattle.ak_template.proofs.Writing.{cut_whole, none_in_front}

-- ---- digits

-- what the digits that were read so far are: nothing at first
abbrev lead : ℕ → List ℕ
lead zero = []
lead (suc n) = decimal (suc n)

lead_some : (n : ℕ) → 0 < n → lead n ≡ decimal n
lead_some zero l = absurd (omega (arith, l))
lead_some (suc n) l = refl

by_step : (n m d : ℕ) → m ≡ n * 10 + d → 0 < n → n < 501 → d < 10 → decimal m ≡ decimal n ++ ((48 + d) ∷ [])
by_step n m d e some few digit =
    let head : m / 10 ≡ n = omega (arith, e, digit) in
    let last : m % 10 ≡ d = omega (arith, e, digit) in
    decimal_step m (omega (arith, e, some)) (omega (arith, e, few, digit)) ∙ ap (λ k. decimal k ++ ((48 + m % 10) ∷ [])) head ∙ ap (λ k. decimal n ++ ((48 + k) ∷ [])) last

next_digit : (n byte : ℕ) → n < 501 → 0 < n * 10 + (byte - 48) → 47 < byte → byte < 58 → decimal (n * 10 + (byte - 48)) ≡ lead n ++ (byte ∷ [])
next_digit zero byte few some low high =
    let one : 0 * 10 + (byte - 48) ≡ byte - 48 = omega arith in
    let back : 48 + (byte - 48) ≡ byte = omega (arith, low) in
    ap decimal one ∙ decimal_digit (byte - 48) (omega (arith, high)) ∙ ap (λ b. b ∷ []) back
next_digit (suc n) byte few some low high =
    let back : 48 + (byte - 48) ≡ byte = omega (arith, low) in
    by_step (suc n) (suc n * 10 + (byte - 48)) (byte - 48) refl (omega arith) few (omega (arith, high)) ∙ ap (λ b. decimal (suc n) ++ (b ∷ [])) back

-- a number that was read, with what follows its `::`
abbrev Reads : ℕ → List ℕ → ℕ × List ℕ → Type 0
Reads number text found = (decimal found.0 ++ (codes "::" ++ found.1) ≡ lead number ++ text) × (0 < found.0) × (found.0 < 501)

positive : (n : ℕ) → nat_lt 0 n ≡ true → 0 < n
positive n h = grind (arith, nat_tests, h)

digit_low : (b : ℕ) → (nat_lt 47 b && nat_lt b 58) ≡ true → 47 < b
digit_low b h = grind (arith, nat_tests, h)

digit_high : (b : ℕ) → (nat_lt 47 b && nat_lt b 58) ≡ true → b < 58
digit_high b h = grind (arith, nat_tests, h)

number_low : (n : ℕ) → is_number n ≡ true → 0 < n
number_low n h = grind (arith, nat_tests, h)

number_high : (n : ℕ) → is_number n ≡ true → n < 501
number_high n h = grind (arith, nat_tests, h)

if_some : {A : Type 0} (P Q : A → Type 0) (o : Option A) → ((x : A) → P x → Q x) → IfSome o P → IfSome o Q
if_some P Q None f h = tt
if_some P Q (Some x) f h = f x h

mark_back : (b : ℕ) (bs : List ℕ) → begins (codes "::") (b ∷ bs) ≡ true → codes "::" ++ drop 1 bs ≡ b ∷ bs
mark_back b bs h = let found = begins_with (codes "::") (b ∷ bs) h in ap (λ ys. codes "::" ++ drop 2 ys) found.1 ∙ sym found.1

one_more : (number b : ℕ) (bs : List ℕ) → number < 501 → 47 < b → b < 58 → 0 < number * 10 + (b - 48) → lead (number * 10 + (b - 48)) ++ bs ≡ lead number ++ (b ∷ bs)
one_more number b bs few low high some =
    ap (λ ds. ds ++ bs) (lead_some (number * 10 + (b - 48)) some ∙ next_digit number b few some low high) ∙ append_assoc (lead number) (b ∷ []) bs

number_reads : (number : ℕ) (text : List ℕ) → number < 501 → IfSome (number_at number text) (Reads number text)
number_reads number [] few = tt
number_reads number (b ∷ bs) few =
    elim (begins (codes "::") (b ∷ bs)) as (λ v. begins (codes "::") (b ∷ bs) ≡ v → IfSome (cond v (cond (nat_lt 0 number) (Some (number, drop 1 bs)) None) (cond (nat_lt 47 b && nat_lt b 58) (cond (is_number (number * 10 + (b - 48))) (number_at (number * 10 + (b - 48)) bs) None) None)) (Reads number (b ∷ bs))) [
      | true ↦ λ e. elim (nat_lt 0 number) as (λ v. nat_lt 0 number ≡ v → IfSome (cond v (Some (number, drop 1 bs)) None) (Reads number (b ∷ bs))) [
        | true ↦ λ some. (ap (λ ds. ds ++ (codes "::" ++ drop 1 bs)) (sym (lead_some number (positive number some))) ∙ ap (λ ys. lead number ++ ys) (mark_back b bs e), positive number some, few)
        | false ↦ λ none. tt
      ] refl
      | false ↦ λ e. elim (nat_lt 47 b && nat_lt b 58) as (λ v. (nat_lt 47 b && nat_lt b 58) ≡ v → IfSome (cond v (cond (is_number (number * 10 + (b - 48))) (number_at (number * 10 + (b - 48)) bs) None) None) (Reads number (b ∷ bs))) [
        | true ↦ λ digit. elim (is_number (number * 10 + (b - 48))) as (λ v. is_number (number * 10 + (b - 48)) ≡ v → IfSome (cond v (number_at (number * 10 + (b - 48)) bs) None) (Reads number (b ∷ bs))) [
          | true ↦ λ good. if_some (Reads (number * 10 + (b - 48)) bs) (Reads number (b ∷ bs)) (number_at (number * 10 + (b - 48)) bs) (λ found reads. (reads.0 ∙ one_more number b bs few (digit_low b digit) (digit_high b digit) (number_low (number * 10 + (b - 48)) good), reads.1, reads.2)) (number_reads (number * 10 + (b - 48)) bs (number_high (number * 10 + (b - 48)) good))
          | false ↦ λ bad. tt
        ] refl
        | false ↦ λ other. tt
      ] refl
    ] refl

-- ---- the parts written out are the text

abbrev left_text : Option (List ℕ) → List ℕ
left_text None = []
left_text (Some text) = text

written_both : (one other : List Part) → parts_written (one ++ other) ≡ parts_written one ++ parts_written other
written_both [] other = refl
written_both (part ∷ parts) other = ap (λ xs. part_written part ++ xs) (written_both parts other) ∙ sym (append_assoc (part_written part) (parts_written parts) (parts_written other))

gap_text : (number : ℕ) (inside rest : List ℕ) → part_written (Gap number inside) ++ rest ≡ codes "{{c" ++ (decimal number ++ (codes "::" ++ (inside ++ (codes "}}" ++ rest))))
gap_text number inside rest =
    ap (λ xs. codes "{{c" ++ xs) (append_assoc (decimal number) (codes "::" ++ (inside ++ codes "}}")) rest)
    ∙ ap (λ xs. codes "{{c" ++ (decimal number ++ (codes "::" ++ xs))) (append_assoc inside (codes "}}") rest)

bare_text : (text : List ℕ) → parts_written (Bare (codes "{{c") ∷ (Bare text ∷ [])) ++ [] ≡ codes "{{c" ++ text
bare_text text = append-nil (codes "{{c" ++ (text ++ [])) ∙ ap (λ xs. codes "{{c" ++ xs) (append-nil text)

marked_text : (found : Option (ℕ × List ℕ)) (text : List ℕ) → IfSome found (Reads 0 text) → parts_written (marked found text).0 ++ left_text (marked found text).1 ≡ codes "{{c" ++ text
marked_text None text h = refl
marked_text (Some found) text h = elim (has (codes "}}") found.1) as (λ v. has (codes "}}") found.1 ≡ v → parts_written (cond {A = List Part × Option (List ℕ)} v (Gap found.0 (front (codes "}}") found.1) ∷ [], Some (behind (codes "}}") found.1)) (Bare (codes "{{c") ∷ (Bare text ∷ []), None)).0 ++ left_text (cond {A = List Part × Option (List ℕ)} v (Gap found.0 (front (codes "}}") found.1) ∷ [], Some (behind (codes "}}") found.1)) (Bare (codes "{{c") ∷ (Bare text ∷ []), None)).1 ≡ codes "{{c" ++ text) [
  | true ↦ λ e. ap (λ xs. xs ++ behind (codes "}}") found.1) (append-nil (part_written (Gap found.0 (front (codes "}}") found.1))))
      ∙ gap_text found.0 (front (codes "}}") found.1) (behind (codes "}}") found.1)
      ∙ ap (λ xs. codes "{{c" ++ (decimal found.0 ++ (codes "::" ++ xs))) (sym (cut_whole (codes "}}") found.1 e))
      ∙ ap (λ xs. codes "{{c" ++ xs) h.0
  | false ↦ λ e. bare_text text
] refl

left_written : (n : ℕ) (left : Option (List ℕ)) → ((text : List ℕ) → parts_written (parts_in n text) ≡ text) → parts_written (left_in (parts_in n) left) ≡ left_text left
left_written n None h = refl
left_written n (Some text) h = h text

in_written : (n : ℕ) (text : List ℕ) → parts_written (parts_in n text) ≡ text
in_written zero text = append-nil text
in_written (suc n) text =
    let after = behind (codes "{{c") text in
    elim (has (codes "{{c") text) as (λ v. has (codes "{{c") text ≡ v → parts_written (cond v (Bare (front (codes "{{c") text) ∷ ((mark_parts after).0 ++ left_in (parts_in n) (mark_parts after).1)) (Bare text ∷ [])) ≡ text) [
      | true ↦ λ e. ap (λ xs. front (codes "{{c") text ++ xs) (
          written_both (mark_parts after).0 (left_in (parts_in n) (mark_parts after).1)
          ∙ ap (λ xs. parts_written (mark_parts after).0 ++ xs) (left_written n (mark_parts after).1 (in_written n))
          ∙ marked_text (number_at 0 after) after (number_reads 0 after (omega arith)))
          ∙ sym (cut_whole (codes "{{c") text e)
      | false ↦ λ e. append-nil text
    ] refl

pub written_back : (text : List ℕ) → parts_written (parts text) ≡ text
written_back text = in_written (length text) text

-- ---- each gap is one

both_gaps : (one other : List Part) → AreGaps one → AreGaps other → AreGaps (one ++ other)
both_gaps [] other h k = k
both_gaps (Bare words ∷ parts) other h k = both_gaps parts other h k
both_gaps (Gap number inside ∷ parts) other h k = (h.0, h.1, h.2, both_gaps parts other h.3 k)

marked_gaps : (found : Option (ℕ × List ℕ)) (text : List ℕ) → IfSome found (Reads 0 text) → AreGaps (marked found text).0
marked_gaps None text h = tt
marked_gaps (Some found) text h = elim (has (codes "}}") found.1) as (λ v. AreGaps (cond {A = List Part × Option (List ℕ)} v (Gap found.0 (front (codes "}}") found.1) ∷ [], Some (behind (codes "}}") found.1)) (Bare (codes "{{c") ∷ (Bare text ∷ []), None)).0) [
  | true ↦ (none_in_front (codes "}}") found.1, h.1, h.2, tt)
  | false ↦ tt
]

left_gaps : (n : ℕ) (left : Option (List ℕ)) → ((text : List ℕ) → AreGaps (parts_in n text)) → AreGaps (left_in (parts_in n) left)
left_gaps n None h = tt
left_gaps n (Some text) h = h text

in_gaps : (n : ℕ) (text : List ℕ) → AreGaps (parts_in n text)
in_gaps zero text = tt
in_gaps (suc n) text =
    let after = behind (codes "{{c") text in
    elim (has (codes "{{c") text) as (λ v. AreGaps (cond v (Bare (front (codes "{{c") text) ∷ ((mark_parts after).0 ++ left_in (parts_in n) (mark_parts after).1)) (Bare text ∷ []))) [
      | true ↦ both_gaps (mark_parts after).0 (left_in (parts_in n) (mark_parts after).1) (marked_gaps (number_at 0 after) after (number_reads 0 after (omega arith))) (left_gaps n (mark_parts after).1 (in_gaps n))
      | false ↦ tt
    ]

pub all_gaps : (text : List ℕ) → AreGaps (parts text)
all_gaps text = in_gaps (length text) text

-- ---- the order of the numbers

pub ascends_wider : (low mid high : ℤ) (ns : List ℤ) → mid ≤ℤ high → AscendsWithin low mid ns → AscendsWithin low high ns
ascends_wider low mid high [] l h = tt
ascends_wider low mid high (n ∷ ns) l h = (h.0, omega (arith, ints, h.1, l), ascends_wider (n +ℤ pos 1) mid high ns l h.2)

pub ascends_lower : (low mid high : ℤ) (ns : List ℤ) → low ≤ℤ mid → AscendsWithin mid high ns → AscendsWithin low high ns
ascends_lower low mid high [] l h = tt
ascends_lower low mid high (n ∷ ns) l h = (omega (arith, ints, h.0, l), h.1, h.2)

pub ascends_push : (low mid high n : ℤ) (ns : List ℤ) → low ≤ℤ mid → mid ≤ℤ n → n <ℤ high → AscendsWithin low mid ns → AscendsWithin low high (ns ++ (n ∷ []))
ascends_push low mid high n [] l k m h = (omega (arith, ints, l, k), m, tt)
ascends_push low mid high n (first ∷ ns) l k m h = (h.0, omega (arith, ints, h.1, k, m), ascends_push (first +ℤ pos 1) mid high n ns (omega (arith, ints, h.1)) k m h.2)

-- those up to a last one
borne_ascend : (last : ℕ) (numbers : List ℕ) → AscendsWithin (pos 1) (pos (last + 1)) (borne last numbers)
unfolding borne
borne_ascend zero numbers = tt
borne_ascend (suc last) numbers = elim (among (last + 1) numbers) as (λ v. AscendsWithin (pos 1) (pos (suc last + 1)) (borne last numbers ++ cond v (pos (last + 1) ∷ []) [])) [
  | true ↦ ascends_push (pos 1) (pos (last + 1)) (pos (suc last + 1)) (pos (last + 1)) (borne last numbers) (omega (arith, ints)) (omega (arith, ints)) (omega (arith, ints)) (borne_ascend last numbers)
  | false ↦ rw (append-nil (borne last numbers)) (ascends_wider (pos 1) (pos (last + 1)) (pos (suc last + 1)) (borne last numbers) (omega (arith, ints)) (borne_ascend last numbers))
]

pub numbers_ascend : (text : List ℕ) → AscendsWithin (pos 1) (pos 501) (numbers_of text)
numbers_ascend text = borne_ascend 500 (gaps (parts text))

pub found_ascend : {E : Type 0} (text : List ℕ) (r : Result (List ℤ) E) → IfOk r (λ found. found ≡ numbers_of text) → IfOk r (AscendsWithin (pos 1) (pos 501))
found_ascend text (Ok found) h = subst (AscendsWithin (pos 1) (pos 501)) (sym h) (numbers_ascend text)
found_ascend text (Err fault) h = tt
