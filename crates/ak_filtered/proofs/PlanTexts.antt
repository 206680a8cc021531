-- Plans as the text of a deck's further keys.
use Rattle.std.specs.Prelude.{◌≡◌, ◌<◌, ◌≤◌, ◌^◌, ℕ, ℤ, pos, negsuc, Bool, true, false, ◌&&◌, not, nat_le, nat_lt, if◌then◌else◌, List, codes, Option, Some, None, IfSome, option_and_then}
use Rattle.std.proofs.Common.{refl, sym, ap, ◌∙◌, arith}
use Rattle.std.specs.Option.{option_map, option_map_or}
use Rattle.serde_json.specs.Data.{Data, null, boolean, number, string, array, object, depth}
use Rattle.serde_json.specs.Find.{as_i64, as_number, as_object, as_str, at, get, get_member, of_integer}
use Rattle.serde_json.specs.Read.{max_depth}
use Rattle.serde_json.specs.Written.{has_float}
use Rattle.ak_base.proofs.Resting.{members_of-written}
use Rattle.ak_base.specs.Rests.{deck_keys, is_plain, lacks, members_of}
use Rattle.ak_filtered.specs.Plans.{IsPlan, has_items, is_limit, limit_of, order_number, order_of, plan_in, plan_members, plan_of, plan_of_list, plan_of_terms, plan_text, plan_with}
use Rattle.ak_filtered.specs.declared.plans.Order.{Order}
use Rattle.ak_filtered.specs.declared.plans.Order.TheVariants as orders
use Rattle.ak_filtered.specs.declared.plans.Plan.{Plan}
use Rattle.ak_json.proofs.Orderly.{IsOrderly, IsOwn, text_reads}
use Rattle.ak_json.specs.Kinds.{integer_of}

-- ---- numbers
order_back : (order : Order) → order_of (order_number order) ≡ Some order
order_back orders.ShortestInterval = refl
order_back orders.LongestInterval = refl
order_back orders.MostLapses = refl
order_back orders.OldestNote = refl
order_back orders.Due = refl
order_back orders.NewestNote = refl

order_read : (order : Order) → integer_of (number (of_integer (order_number order))) ≡ Some (order_number order)
order_read orders.ShortestInterval = refl
order_read orders.LongestInterval = refl
order_read orders.MostLapses = refl
order_read orders.OldestNote = refl
order_read orders.Due = refl
order_read orders.NewestNote = refl

pub limit_high : (limit : ℕ) → is_limit limit ≡ true → limit ≤ 99_999
limit_high limit is = grind (arith, is)

limit_read : (limit : ℕ) → is_limit limit ≡ true → integer_of (number (of_integer (pos limit))) ≡ Some (pos limit)
limit_read limit is =
    let few : limit ≤ 99_999 = limit_high limit is in
    let fits : nat_lt limit (2 ^ 63) ≡ true = grind (arith, few) in
    ap (λ b. if b then Some (pos limit) else None) fits

-- ---- what the members say
pub plan_reads : (plan : Plan) → IsPlan plan → plan_in (plan_members plan) ≡ Some plan
plan_reads plan is =
    ap (λ (x : Option ℤ). option_and_then (λ (limit : ℤ). option_and_then (λ (order : ℤ). plan_with plan.search limit order) (integer_of (number (of_integer (order_number plan.order))))) x) (limit_read plan.limit is)
    ∙ ap (λ (x : Option ℤ). option_and_then (λ (order : ℤ). plan_with plan.search (pos plan.limit) order) x) (order_read plan.order)
    ∙ ap (λ b. option_and_then (λ (most : ℕ). option_map (λ (by : Order). let p : Plan = record { search = plan.search; limit = most; order = by } in p) (order_of (order_number plan.order))) (if b then Some plan.limit else None)) is
    ∙ ap (option_map (λ (by : Order). let p : Plan = record { search = plan.search; limit = plan.limit; order = by } in p)) (order_back plan.order)

no_float : (order : Order) → has_float (number (of_integer (order_number order))) ≡ false
no_float orders.ShortestInterval = refl
no_float orders.LongestInterval = refl
no_float orders.MostLapses = refl
no_float orders.OldestNote = refl
no_float orders.Due = refl
no_float orders.NewestNote = refl

own_number : (order : Order) → IsOwn (of_integer (order_number order))
own_number orders.ShortestInterval = omega arith
own_number orders.LongestInterval = omega arith
own_number orders.MostLapses = omega arith
own_number orders.OldestNote = omega arith
own_number orders.Due = omega arith
own_number orders.NewestNote = omega arith

whole_numbers : (plan : Plan) → has_float (object (plan_members plan)) ≡ false
whole_numbers plan = grind (arith, no_float plan.order)

-- the members are those of a deck's further keys
pub plan_passes : (plan : Plan) → (is_plain (plan_members plan) && lacks deck_keys (plan_members plan)) ≡ true
plan_passes plan = ap (λ b. not b && true) (whole_numbers plan)

-- ---- the text
orderly : (plan : Plan) → IsPlan plan → IsOrderly (object (plan_members plan))
orderly plan is =
    let few : plan.limit ≤ 99_999 = limit_high plan.limit is in
    let small : plan.limit < 2 ^ 64 = omega (arith, few) in
    ((tt, tt), (((tt, (small, (own_number plan.order, tt))), tt), tt))

pub text_read_again : (plan : Plan) → IsPlan plan → plan_of (plan_text plan) ≡ Some plan
text_read_again plan is =
    ap (option_and_then plan_in) (members_of-written (plan_text plan) (object (plan_members plan)) (text_reads (object (plan_members plan)) (orderly plan is) (whole_numbers plan) (omega arith)) refl)
    ∙ plan_reads plan is

-- a member is looked up in an object alone
pub get_in_object : (key : List ℕ) (d : Data) → get key d ≡ option_and_then (get_member key) (as_object d)
get_in_object key null = refl
get_in_object key (boolean b) = refl
get_in_object key (number n) = refl
get_in_object key (string s) = refl
get_in_object key (array ds) = refl
get_in_object key (object ms) = refl

-- ---- a plan that is read is in its range
and_then_is : {A B : Type 0} (o : Option A) (f : A → Option B) (P : B → Type 0) → ((a : A) → IfSome (f a) P) → IfSome (option_and_then f o) P
and_then_is None f P each = tt
and_then_is (Some a) f P each = each a

mapped_is : {A B : Type 0} (o : Option A) (f : A → B) (P : B → Type 0) → ((a : A) → P (f a)) → IfSome (option_map f o) P
mapped_is None f P each = tt
mapped_is (Some a) f P each = each a

pub limit_range : (n : ℤ) → IfSome (limit_of n) (λ limit. is_limit limit ≡ true)
limit_range (pos n) = elim (is_limit n) as (λ b. is_limit n ≡ b → IfSome (if b then Some n else None) (λ limit. is_limit limit ≡ true)) [ true ↦ λ is. is | false ↦ λ _. tt ] refl
limit_range (negsuc n) = tt

with_limit : (search : List ℕ) (order : ℤ) (o : Option ℕ) → IfSome o (λ limit. is_limit limit ≡ true)
    → IfSome (option_and_then (λ (most : ℕ). option_map (λ (by : Order). let p : Plan = record { search = search; limit = most; order = by } in p) (order_of order)) o) IsPlan
with_limit search order None is = tt
with_limit search order (Some most) is = mapped_is (order_of order) (λ (by : Order). let p : Plan = record { search = search; limit = most; order = by } in p) IsPlan (λ by. is)

pub with_range : (search : List ℕ) (limit order : ℤ) → IfSome (plan_with search limit order) IsPlan
with_range search limit order = with_limit search order (limit_of limit) (limit_range limit)

list_range : (d : Data) → IfSome (plan_of_list d) IsPlan
list_range d =
    elim (has_items 3 d) as (λ b. IfSome (if b then option_and_then (λ (search : List ℕ). option_and_then (λ (limit : ℤ). option_and_then (λ (order : ℤ). plan_with search limit order)
    (option_and_then integer_of (at 2 d))) (option_and_then integer_of (at 1 d))) (option_and_then as_str (at 0 d)) else None) IsPlan) [
      | true ↦
          and_then_is (option_and_then as_str (at 0 d)) _ IsPlan (λ search.
          and_then_is (option_and_then integer_of (at 1 d)) _ IsPlan (λ limit.
          and_then_is (option_and_then integer_of (at 2 d)) (λ (order : ℤ). plan_with search limit order) IsPlan (λ order. with_range search limit order)))
      | false ↦ tt
    ]

pub terms_range : (d : Data) → IfSome (plan_of_terms d) IsPlan
terms_range d =
    elim (has_items 1 d) as (λ b. IfSome (if b then option_and_then plan_of_list (at 0 d) else None) IsPlan) [ true ↦ and_then_is (at 0 d) plan_of_list IsPlan list_range | false ↦ tt ]

pub plan_range : (text : List ℕ) → IfSome (plan_of text) IsPlan
plan_range text = and_then_is (members_of text) plan_in IsPlan (λ members. and_then_is (get_member (codes "terms") members) plan_of_terms IsPlan terms_range)
