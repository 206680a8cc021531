-- A value that was read, of whole numbers alone, has a compact text that is read as that value.
use Rattle.std.proofs.Common.{◌≡◌, ℕ, suc, zero, ◌^◌, ◌<◌, ◌≤◌, pos, negsuc, neg_ℤ, List, [], Bool, true, false, Option, Some, None, IfSome, Ordering, Less, Equal, Greater, nat_cmp, refl, sym, ap, ◌∙◌, subst, arith, append-nil}
use Rattle.std.specs.Cmp.{first_so, second_so}
use Rattle.std.proofs.lemmas.Bool.{or_parts}
use Rattle.std.specs.Prelude.{if◌then◌else◌, nat_lt, nat_le, ◌&&◌, option_map, option_and_then, slice_index, ◌==◌, drop}
use Rattle.std.proofs.lemmas.Cmp.{nat_list_cmp_total}
use Rattle.std.proofs.lemmas.Bool.Decides.{nat_tests}
use Rattle.std.specs.Cmp.Lexicographic.{slice_cmp}
use Rattle.std.specs.Ordering.{match_ordering, ordering_reverse}
use Rattle.std.specs.Float.{binary64, float_is_finite}
use Rattle.std.specs.Float.Numeral.{minus, Parts, numeral_digits, nearest_float, scan_numeral}
use Rattle.json.specs.Token.{Token}
use Rattle.json.specs.Lex.{tokens}
use Rattle.json.specs.Print.{IsNumber}
use Rattle.json.specs.Json as json
use Rattle.json.specs.Tree as tree
use Rattle.json.proofs.Printed.Decimals.{IsNumber-decimal, IsNumber-signed_decimal}
use Rattle.json.proofs.Printed.Tokens.{tokens-print}
use Rattle.json.proofs.Printed.Trees.{value-json_tokens, ArePrintable-json_tokens}
use Rattle.serde_json.specs.Data.{Num, unsigned, negative, float, Data, null, boolean, number, string, array, object, Items, no_items, item, Members, no_members, member, put, depth, items_depth, members_depth}
use Rattle.serde_json.specs.Find.{is_float}
use Rattle.serde_json.specs.Read.{read, max_depth, number_of, number_from, float_of, is_integer, of_json, of_items, of_members}
use Rattle.serde_json.specs.Written.{compact_text, number_text, outline, items_outline, members_outline, has_float, items_have_float, members_have_float}
use Rattle.serde_json.proofs.Numbers.{number_of-decimal, number_of-negative}
use Rattle.serde_json.proofs.Texts.{print-outline}
use Rattle.ak_json.proofs.ObjectForms.{nat_most}
use Rattle.ak_json.proofs.Sorted.{AllBehind, AreSorted, put_sorted}

-- a number as it is read
abbrev pub IsOwn : Num → Type 0
IsOwn (unsigned n) = n < 2 ^ 64
IsOwn (negative (pos n)) = ⊥
IsOwn (negative (negsuc n)) = n < 2 ^ 63
IsOwn (float x) = Unit {0}

-- a value as it is read: each object has its keys once, in order
abbrev mutual
  pub IsOrderly : Data → Type 0
  IsOrderly null = Unit {0}
  IsOrderly (boolean b) = Unit {0}
  IsOrderly (number n) = IsOwn n
  IsOrderly (string s) = Unit {0}
  IsOrderly (array ds) = AreOrderly ds
  IsOrderly (object ms) = AreSorted ms × HaveOrderly ms

  pub AreOrderly : Items → Type 0
  AreOrderly no_items = Unit {0}
  AreOrderly (item d ds) = IsOrderly d × AreOrderly ds

  pub HaveOrderly : Members → Type 0
  HaveOrderly no_members = Unit {0}
  HaveOrderly (member k d ms) = IsOrderly d × HaveOrderly ms

-- members as they are read
abbrev pub AreMembers : Members → Type 0
AreMembers ms = AreSorted ms × HaveOrderly ms

-- ---- what is read is orderly

pub mapped : {A B : Type 0} (P : A → Type 0) (Q : B → Type 0) (f : A → B) → ((a : A) → P a → Q (f a)) → (o : Option A) → IfSome o P → IfSome (option_map f o) Q
mapped P Q f h None p = tt
mapped P Q f h (Some a) p = h a p

chained : {A B : Type 0} (P : A → Type 0) (Q : B → Type 0) (f : A → Option B) → ((a : A) → P a → IfSome (f a) Q) → (o : Option A) → IfSome o P → IfSome (option_and_then f o) Q
chained P Q f h None p = tt
chained P Q f h (Some a) p = h a p

where_true : {A : Type 0} (P : A → Type 0) (b : Bool) (a : A) (o : Option A) → (b ≡ true → P a) → IfSome o P → IfSome (if b then Some a else o) P
where_true P true a o h p = h refl
where_true P false a o h p = p

own_float : (sign : Bool) (p : Parts) → IfSome (float_of sign p) IsOwn
own_float sign p = where_true IsOwn (float_is_finite (nearest_float binary64 sign p)) (float (nearest_float binary64 sign p)) None (λ _. tt) tt

below_most : (a b : ℕ) → nat_lt a b ≡ true → a < b
below_most a b h = grind (arith, nat_tests)

own_negative : (n : ℕ) → nat_lt 0 n ≡ true → nat_le n (2 ^ 63) ≡ true → IsOwn (negative (neg_ℤ (pos n)))
own_negative zero h k = cc
own_negative (suc n) h k = let most : suc n ≤ 2 ^ 63 = nat_most (suc n) (2 ^ 63) k in omega arith

own_from : (sign : Bool) (p : Parts) → IfSome (number_from sign p) IsOwn
own_from false p =
    where_true IsOwn (is_integer p && nat_lt (numeral_digits p) (2 ^ 64)) (unsigned (numeral_digits p)) (float_of false p) (λ h. below_most (numeral_digits p) (2 ^ 64) (second_so (is_integer p) _ h)) (own_float false p)
own_from true p =
    where_true IsOwn (is_integer p && nat_lt 0 (numeral_digits p) && nat_le (numeral_digits p) (2 ^ 63)) (negative (neg_ℤ (pos (numeral_digits p)))) (float_of true p)
    (λ h. own_negative (numeral_digits p) (second_so (is_integer p) _ (first_so _ _ h)) (second_so (is_integer p && nat_lt 0 (numeral_digits p)) _ h))
    (own_float true p)

either : {A : Type 0} (P : A → Type 0) (b : Bool) (x y : Option A) → IfSome x P → IfSome y P → IfSome (if b then x else y) P
either P true x y h k = h
either P false x y h k = k

own_number : (s : List ℕ) → IfSome (number_of s) IsOwn
unfolding number_of
own_number s = either IsOwn (slice_index s 0 == minus) _ _ (own_from true (scan_numeral (drop 1 s))) (own_from false (scan_numeral s))

put_orderly : (k : List ℕ) (d : Data) (ms : Members) → IsOrderly d → HaveOrderly ms → HaveOrderly (put k d ms)
put_orderly k d no_members h s = (h, tt)
put_orderly k d (member l e ms) h s = one (slice_cmp nat_cmp k l) (put_orderly k d ms h s.1)
  where
    one : (o : Ordering) → HaveOrderly (put k d ms) → HaveOrderly (match_ordering o (member k d (member l e ms)) (member l d ms) (member l e (put k d ms)))
    one Less later = (h, s)
    one Equal later = (h, s.1)
    one Greater later = (s.0, later)

-- members with one more
pub put_members : (k : List ℕ) (d : Data) (ms : Members) → IsOrderly d → AreMembers ms → AreMembers (put k d ms)
put_members k d ms h s = (put_sorted k d ms s.0, put_orderly k d ms h s.1)

mutual
  json_orderly : (j : json.Json) → IfSome (of_json j) IsOrderly
  json_orderly json.null = tt
  json_orderly (json.boolean b) = tt
  json_orderly (json.number s) = mapped IsOwn IsOrderly number (λ n h. h) (number_of s) (own_number s)
  json_orderly (json.string s) = tt
  json_orderly (json.array js) = mapped AreOrderly IsOrderly array (λ ds h. h) (of_items js) (items_orderly js)
  json_orderly (json.object ms) = mapped AreMembers IsOrderly object (λ ms h. h) (of_members ms no_members) (members_orderly ms no_members (tt, tt))

  items_orderly : (js : json.Items) → IfSome (of_items js) AreOrderly
  items_orderly json.no_items = tt
  items_orderly (json.item j js) =
      chained IsOrderly AreOrderly (λ d. option_map (item d) (of_items js)) (λ d h. mapped AreOrderly AreOrderly (item d) (λ ds k. (h, k)) (of_items js) (items_orderly js)) (of_json j) (json_orderly j)

  members_orderly : (ms : json.Members) (found : Members) → AreMembers found → IfSome (of_members ms found) AreMembers
  members_orderly json.no_members found s = s
  members_orderly (json.member k j ms) found s =
      chained IsOrderly AreMembers (λ d. of_members ms (put k d found)) (λ d h. members_orderly ms (put k d found) (put_members k d found h s)) (of_json j) (json_orderly j)

-- whatever may be there, nothing is asked of it
pub unasked : {A : Type 0} (o : Option A) → IfSome o (λ _. Unit {0})
unasked None = tt
unasked (Some a) = tt

-- what a text reads as is orderly
pub read_orderly : (text : List ℕ) (d : Data) → read text ≡ Some d → IsOrderly d
read_orderly text d e =
    subst (λ (o : Option Data). IfSome o IsOrderly) e
    (chained (λ _. Unit {0}) IsOrderly of_json (λ j _. json_orderly j) (option_and_then (λ p. json.if_last p.0 p.1) (json.value max_depth (tokens text))) (unasked _))

-- ---- the outline of an orderly value reads as that value

-- the members and those after them
abbrev join : Members → Members → Members
join no_members after = after
join (member k d ms) after = member k d (join ms after)

join_none : (ms : Members) → join ms no_members ≡ ms
join_none no_members = refl
join_none (member k d ms) = ap (member k d) (join_none ms)

join_more : (ms : Members) (k : List ℕ) (d : Data) (after : Members) → join (join ms (member k d no_members)) after ≡ join ms (member k d after)
join_more no_members k d after = refl
join_more (member l e ms) k d after = ap (member l e) (join_more ms k d after)

behind_middle : (l : List ℕ) (ms : Members) (k : List ℕ) (d : Data) (after : Members) → AllBehind l (join ms (member k d after)) → slice_cmp nat_cmp l k ≡ Less
behind_middle l no_members k d after b = b.0
behind_middle l (member m e ms) k d after b = behind_middle l ms k d after b.1

-- a key that is above those before it goes last
put_last : (ms : Members) (k : List ℕ) (d : Data) (after : Members) → AreSorted (join ms (member k d after)) → put k d ms ≡ join ms (member k d no_members)
put_last no_members k d after s = refl
put_last (member l e ms) k d after s =
    let above : slice_cmp nat_cmp k l ≡ Greater = nat_list_cmp_total.antisymm k l ∙ ap ordering_reverse (behind_middle l ms k d after s.0) in
    rw above (ap (member l e) (put_last ms k d after s.1))

own_again : (n : Num) → IsOwn n → is_float n ≡ false → number_of (number_text n) ≡ Some n
own_again (unsigned n) h f = number_of-decimal n h
own_again (negative (pos n)) h f = absurd h
own_again (negative (negsuc n)) h f = number_of-negative n h
own_again (float x) h f = cc

mutual
  again : (d : Data) → IsOrderly d → has_float d ≡ false → of_json (outline d) ≡ Some d
  again null h f = refl
  again (boolean b) h f = refl
  again (number n) h f = ap (option_map number) (own_again n h f)
  again (string s) h f = refl
  again (array ds) h f = ap (option_map array) (items_again ds h f)
  again (object ms) h f = ap (option_map object) (members_again no_members ms h.0 h.1 f)

  items_again : (ds : Items) → AreOrderly ds → items_have_float ds ≡ false → of_items (items_outline ds) ≡ Some ds
  items_again no_items h f = refl
  items_again (item d ds) h f =
      ap (option_and_then (λ d. option_map (item d) (of_items (items_outline ds)))) (again d h.0 (((or_parts _ _ f).0)))
      ∙ ap (option_map (item d)) (items_again ds h.1 (((or_parts (has_float d) _ f).1)))

  members_again : (found ms : Members) → AreSorted (join found ms) → HaveOrderly ms → members_have_float ms ≡ false → of_members (members_outline ms) found ≡ Some (join found ms)
  members_again found no_members s h f = ap Some (sym (join_none found))
  members_again found (member k d ms) s h f =
      ap (option_and_then (λ d. of_members (members_outline ms) (put k d found))) (again d h.0 (((or_parts _ _ f).0)))
      ∙ (ap (of_members (members_outline ms)) (put_last found k d ms s)
      ∙ (members_again (join found (member k d no_members)) ms (subst AreSorted (sym (join_more found k d ms)) s) h.1 (((or_parts (has_float d) _ f).1))
      ∙ ap Some (join_more found k d ms)))

own_text : (n : Num) → IsOwn n → is_float n ≡ false → IsNumber (number_text n)
own_text (unsigned n) h f = IsNumber-decimal n h
own_text (negative (pos n)) h f = absurd h
own_text (negative (negsuc n)) h f = IsNumber-signed_decimal (negsuc n) h
own_text (float x) h f = cc

mutual
  numbers : (d : Data) → IsOrderly d → has_float d ≡ false → tree.HasNumbers (outline d)
  numbers null h f = tt
  numbers (boolean b) h f = tt
  numbers (number n) h f = own_text n h f
  numbers (string s) h f = tt
  numbers (array ds) h f = items_numbers ds h f
  numbers (object ms) h f = members_numbers ms h.1 f

  items_numbers : (ds : Items) → AreOrderly ds → items_have_float ds ≡ false → tree.ItemsHaveNumbers (items_outline ds)
  items_numbers no_items h f = tt
  items_numbers (item d ds) h f = (numbers d h.0 (((or_parts _ _ f).0)), items_numbers ds h.1 (((or_parts (has_float d) _ f).1)))

  members_numbers : (ms : Members) → HaveOrderly ms → members_have_float ms ≡ false → tree.MembersHaveNumbers (members_outline ms)
  members_numbers no_members h f = tt
  members_numbers (member k d ms) h f = (numbers d h.0 (((or_parts _ _ f).0)), members_numbers ms h.1 (((or_parts (has_float d) _ f).1)))

mutual
  same_depth : (d : Data) → tree.depth (outline d) ≡ depth d
  same_depth null = refl
  same_depth (boolean b) = refl
  same_depth (number n) = refl
  same_depth (string s) = refl
  same_depth (array ds) = ap suc (items_same_depth ds)
  same_depth (object ms) = ap suc (members_same_depth ms)

  items_same_depth : (ds : Items) → tree.items_depth (items_outline ds) ≡ items_depth ds
  items_same_depth no_items = refl
  items_same_depth (item d ds) = rw (same_depth d, items_same_depth ds) refl

  members_same_depth : (ms : Members) → tree.members_depth (members_outline ms) ≡ members_depth ms
  members_same_depth no_members = refl
  members_same_depth (member k d ms) = rw (same_depth d, members_same_depth ms) refl

-- the compact text of an orderly value without floats is read as that value
pub text_reads : (d : Data) → IsOrderly d → has_float d ≡ false → depth d ≤ max_depth → read (compact_text d) ≡ Some d
text_reads d h f shallow =
    let js : List Token = tree.json_tokens (outline d) in
    let same : tokens (compact_text d) ≡ js = ap tokens (sym (print-outline d)) ∙ tokens-print js (ArePrintable-json_tokens (outline d) (numbers d h f)) in
    let deep : tree.depth (outline d) ≤ max_depth = rw (same_depth d) shallow in
    ap (λ (o : Option (json.Json × List Token)). option_and_then of_json (option_and_then (λ p. json.if_last p.0 p.1) o))
    (ap (json.value max_depth) (same ∙ sym (append-nil js)) ∙ value-json_tokens (outline d) max_depth [] deep)
    ∙ again d h f
