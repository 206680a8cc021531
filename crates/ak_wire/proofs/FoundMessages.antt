-- What is taken of an object of its form is read there.
use Rattle.std.proofs.Common.{◌≡◌, ◌≤◌, ℕ, zero, suc, ℤ, pos, negsuc, List, [], ◌∷◌, Bool, true, false, if◌then◌else◌, ◌&&◌, ◌||◌, Option, Some, None, refl, sym, ap, ◌∙◌, subst, codes, arith}
use Rattle.std.specs.Prelude.{option_and_then, unwrap_or, ◌==◌, nat_lt, nat_le, int_le, not}
use Rattle.std.specs.Cmp.{first_so, second_so}
use Rattle.std.specs.Cmp.Lexicographic.{pointwise}
use Rattle.std.specs.Option.{is_some, option_map_or, option_or}
use Rattle.serde_json.specs.Data.{Data, null, boolean, number, unsigned, negative, float, Num, string, array, object, Items, Members}
use Rattle.serde_json.specs.Find.{get, at, as_null, as_str, as_array, as_number, as_u64, as_i64}
use Rattle.ak_json.specs.Kinds.{integer_of, is_number_within}
use Rattle.ak_merge.specs.declared.checks.CheckFault.{CheckFault}
use Rattle.ak_merge.specs.declared.checks.CheckFault.TheVariants as checks
use Rattle.ak_messages.specs.declared.requests.SanityCounts.{SanityCounts}
use Rattle.ak_wire.specs.Found.{HasText, Under, CountAt, ReadsCounts}
use Rattle.ak_wire.specs.Kinds.{holds, number_at, unsigned_at, is_count, is_zero, is_nothing_due, are_seven_counts, are_counts, is_fault, is_fault_row, is_status}
use Rattle.ak_wire.specs.Replies.{check_of, check_in, ReadsFault, BeginsWith}
use Rattle.ak_wire.specs.Values.{count_at, counts_of, counts_under, text_under, value_under}
use Rattle.ak_wire.specs.declared.kinds.Kind.TheVariants as kinds
use Rattle.ak_json.proofs.ObjectForms.{nat_most}
use Rattle.ak_wire.proofs.Founds.{some_is, map_or_some, IsHeldAs, value_is}

-- ---- counts

count_held : (place : ℕ) (d : Data) → is_count place d ≡ true → CountAt place d (count_at place d)
count_held place d h = some_is (unsigned_at place d) 0 (map_or_some _ (unsigned_at place d) h)

seven_held : (d : Data) → are_seven_counts d ≡ true → ReadsCounts d (counts_of d)
seven_held d h =
    let from2 = second_so (is_count 1 d) _ h in
    let from3 = second_so (is_count 2 d) _ from2 in
    let from4 = second_so (is_count 3 d) _ from3 in
    let from5 = second_so (is_count 4 d) _ from4 in
    let from6 = second_so (is_count 5 d) _ from5 in
    record {
      cards = count_held 1 d (first_so (is_count 1 d) _ h);
      notes = count_held 2 d (first_so (is_count 2 d) _ from2);
      reviews = count_held 3 d (first_so (is_count 3 d) _ from3);
      graves = count_held 4 d (first_so (is_count 4 d) _ from4);
      models = count_held 5 d (first_so (is_count 5 d) _ from5);
      decks = count_held 6 d (first_so (is_count 6 d) _ from6);
      options = count_held 7 d (second_so (is_count 6 d) _ from6);
    }

pub counts_held : (key : List ℕ) (d : Data) → IsHeldAs key d kinds.Counts → Under key ReadsCounts d (counts_under key d)
counts_held key d h =
    let rest = second_so (option_map_or is_nothing_due (at 0 h.0) false) _ h.2 in
    let value : value_under key d ≡ h.0 = value_is key d h.0 h.1 in
    (h.0, h.1, subst (λ (v : Data). ReadsCounts h.0 (counts_of v)) (sym value) (seven_held h.0 (first_so (are_seven_counts h.0) _ rest)))

-- ---- the fault of a collection

past_four : (n : ℕ) → int_le (pos (suc (suc (suc (suc (suc n)))))) (pos 4) ≡ true → ⊥
past_four n h = let k : suc (suc (suc (suc (suc n)))) ≤ 4 = nat_most (suc (suc (suc (suc (suc n))))) 4 h in omega (arith, k)

-- a number from 1 to 4 is that of the fault that stands for it
code_reads : (z id : ℤ) (d : Data) → (int_le (pos 1) z && int_le z (pos 4)) ≡ true → number_at 0 d ≡ Some z → number_at 1 d ≡ Some id → ReadsFault d (Some (check_of z id))
code_reads (pos zero) id d h first second = cc
code_reads (pos (suc zero)) id d h first second = (first, second)
code_reads (pos (suc (suc zero))) id d h first second = (first, second)
code_reads (pos (suc (suc (suc zero)))) id d h first second = (first, second)
code_reads (pos (suc (suc (suc (suc zero))))) id d h first second = (first, second)
code_reads (pos (suc (suc (suc (suc (suc n)))))) id d h first second = absurd (past_four n (second_so (int_le (pos 1) (pos (suc (suc (suc (suc (suc n))))))) _ h))
code_reads (negsuc n) id d h first second = cc

within_is : (least most : ℤ) (o : Option ℤ) (other : ℤ) → is_number_within least most o ≡ true → (o ≡ Some (unwrap_or o other)) × ((int_le least (unwrap_or o other) && int_le (unwrap_or o other) most) ≡ true)
within_is least most None other h = cc
within_is least most (Some z) other h = (refl, h)

list_reads : (ds : Items) → is_fault_row (array ds) ≡ true → ReadsFault (array ds) (check_in (array ds))
list_reads ds h =
    let d : Data = array ds in
    let first = within_is (pos 1) (pos 4) (number_at 0 d) (pos 0) (first_so (is_number_within (pos 1) (pos 4) (number_at 0 d)) _ h) in
    let rest = second_so (is_number_within (pos 1) (pos 4) (number_at 0 d)) _ h in
    let second = within_is (pos 1) (pos 9_007_199_254_740_991) (number_at 1 d) (pos 0) (first_so (is_number_within (pos 1) (pos 9_007_199_254_740_991) (number_at 1 d)) _ rest) in
    code_reads (unwrap_or (number_at 0 d) (pos 0)) (unwrap_or (number_at 1 d) (pos 0)) d first.1 first.0 second.0

fault_reads : (d : Data) → is_fault d ≡ true → ReadsFault d (check_in d)
fault_reads null h = refl
fault_reads (boolean b) h = cc
fault_reads (number n) h = cc
fault_reads (string s) h = cc
fault_reads (array ds) h = list_reads ds h
fault_reads (object ms) h = cc

pub fault_held : (key : List ℕ) (d : Data) → IsHeldAs key d kinds.Fault → Under key ReadsFault d (check_in (value_under key d))
fault_held key d h = (h.0, h.1, subst (λ (v : Data). ReadsFault h.0 (check_in v)) (sym (value_is key d h.0 h.1)) (fault_reads h.0 h.2))
