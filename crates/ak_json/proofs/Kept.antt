-- What an object keeps of its unknown keys is a rest: none of the known keys, and not too deep.
use Rattle.std.proofs.Common.{◌≡◌, ℕ, suc, ◌-◌, ◌<◌, ◌≤◌, max, List, [], ◌∷◌, Bool, true, false, not, ◌&&◌, ◌||◌, Option, Some, None, is_none, Ordering, Less, Equal, Greater, is_eq, nat_cmp, refl, sym, ap, ◌∙◌, arith}
use Rattle.std.specs.Cmp.{first_so, second_so}
use Rattle.std.proofs.lemmas.Bool.{and_from}
use Rattle.std.specs.Prelude.{nat_lt, nat_le, if◌then◌else◌}
use Rattle.std.specs.List.{list_all}
use Rattle.std.proofs.lemmas.Bool.Decides.{nat_tests}
use Rattle.std.proofs.lemmas.Map.Text.{is_eq-slice_cmp}
use Rattle.std.proofs.lemmas.Slice.Eq.{bytes_eq-Decides}
use Rattle.std.specs.Cmp.Lexicographic.{slice_cmp}
use Rattle.std.specs.Ordering.{match_ordering}
use Rattle.serde_json.specs.Data.{Data, null, boolean, number, string, array, object, Items, no_items, item, Members, no_members, member, depth, items_depth, members_depth}
use Rattle.serde_json.specs.Find.{get_member, is_float}
use Rattle.serde_json.specs.Written.{has_float, items_have_float, members_have_float}
use Rattle.ak_base.specs.Rests.{lacks, is_plain}
use Rattle.ak_json.specs.Members.{Form}
use Rattle.ak_json.specs.Depths.{is_shallow, are_shallow, have_shallow}
use Rattle.ak_json.specs.Members.{knows, unknown, deep_member}

-- texts that compare as equal are one
pub same_key : (k l : List ℕ) → slice_cmp nat_cmp k l ≡ Equal → k ≡ l
same_key k l e = (bytes_eq-Decides k l).0 (sym (is_eq-slice_cmp k l) ∙ ap is_eq e)

skip_at : (o : Ordering) (x y : Option Data) → (o ≡ Equal → ⊥) → match_ordering o x y x ≡ x
skip_at Less x y h = refl
skip_at Equal x y h = absurd (h refl)
skip_at Greater x y h = refl

apart : (form : Form) (k l : List ℕ) → knows form k ≡ true → knows form l ≡ false → slice_cmp nat_cmp k l ≡ Equal → ⊥
apart form k l h n e = let same : k ≡ l = same_key k l e in let other : knows form k ≡ knows form l = ap (knows form) same in cc

-- a known key is not kept
pub lacking : (form : Form) (k : List ℕ) (ms : Members) → knows form k ≡ true → get_member k (unknown form ms) ≡ None
lacking form k no_members h = refl
lacking form k (member l d ms) h = one (knows form l) refl (lacking form k ms h)
  where
    one : (known : Bool) → knows form l ≡ known → get_member k (unknown form ms) ≡ None → get_member k (if known then unknown form ms else member l d (unknown form ms)) ≡ None
    one true e later = later
    one false e later = skip_at (slice_cmp nat_cmp k l) _ _ (apart form k l h e) ∙ later

-- none of the known keys is kept
pub lacks_known : (keys : List (List ℕ)) (form : Form) (ms : Members) → list_all (knows form) keys ≡ true → lacks keys (unknown form ms) ≡ true
lacks_known [] form ms h = refl
lacks_known (k ∷ keys) form ms h =
    let none : get_member k (unknown form ms) ≡ None = lacking form k ms (first_so _ _ h) in
    and_from _ _ (ap is_none none) (lacks_known keys form ms (second_so _ _ h))

-- ---- how deep a value nests
pub record IsWhole (deepest : ℕ) (most : ℕ) (floats : Bool) : Type 0 where
  pub nests : deepest ≤ most
  pub whole : floats ≡ false

pub not_true : (b : Bool) → not b ≡ true → b ≡ false
not_true true h = cc
not_true false h = refl

deeper : (inner most : ℕ) (floats : Bool) → nat_lt 0 most ≡ true → IsWhole inner (most - 1) floats → IsWhole (suc inner) most floats
deeper inner most floats h w = let k : 0 < most = grind (arith, nat_tests) in record { nests = let n : inner ≤ most - 1 = w.nests in omega arith; whole = w.whole }

beside : (a b most : ℕ) (f g : Bool) → IsWhole a most f → IsWhole b most g → IsWhole (max a b) most (f || g)
beside a b most f g v w =
    record {
      nests = let n : a ≤ most = v.nests in let k : b ≤ most = w.nests in omega arith;
      whole = rw v.whole w.whole;
    }

mutual
  whole_inside : (most : ℕ) (d : Data) → is_shallow most d ≡ true → IsWhole (depth d) most (has_float d)
  whole_inside most null h = record { nests = omega arith; whole = refl }
  whole_inside most (boolean b) h = record { nests = omega arith; whole = refl }
  whole_inside most (number n) h = record { nests = omega arith; whole = not_true (is_float n) h }
  whole_inside most (string s) h = record { nests = omega arith; whole = refl }
  whole_inside most (array ds) h =
      deeper (items_depth ds) most (items_have_float ds) (first_so _ _ h) (wholes_inside (most - 1) ds (second_so (nat_lt 0 most) _ h))
  whole_inside most (object ms) h =
      deeper (members_depth ms) most (members_have_float ms) (first_so _ _ h) (members_inside (most - 1) ms (second_so (nat_lt 0 most) _ h))

  wholes_inside : (most : ℕ) (ds : Items) → are_shallow most ds ≡ true → IsWhole (items_depth ds) most (items_have_float ds)
  wholes_inside most no_items h = record { nests = omega arith; whole = refl }
  wholes_inside most (item d ds) h =
      beside (depth d) (items_depth ds) most (has_float d) (items_have_float ds) (whole_inside most d (first_so _ _ h)) (wholes_inside most ds (second_so (is_shallow most d) _ h))

  members_inside : (most : ℕ) (ms : Members) → have_shallow most ms ≡ true → IsWhole (members_depth ms) most (members_have_float ms)
  members_inside most no_members h = record { nests = omega arith; whole = refl }
  members_inside most (member k d ms) h =
      beside (depth d) (members_depth ms) most (has_float d) (members_have_float ms) (whole_inside most d (first_so _ _ h)) (members_inside most ms (second_so (is_shallow most d) _ h))

none_deep : (ms : Members) → deep_member ms ≡ None → have_shallow 63 ms ≡ true
none_deep no_members h = refl
none_deep (member k d ms) h = one (is_shallow 63 d) refl h (none_deep ms)
  where
    one : (shallow : Bool) → is_shallow 63 d ≡ shallow → (if shallow then deep_member ms else Some k) ≡ None → (deep_member ms ≡ None → have_shallow 63 ms ≡ true)
        → (is_shallow 63 d && have_shallow 63 ms) ≡ true
    one true e h later = and_from _ _ e (later h)
    one false e h later = cc

-- members of which none is deep are plain
pub plain_kept : (ignores : Members → Bool) (ms : Members) → deep_member ms ≡ None → ignores ms ≡ true → (is_plain ms && ignores ms) ≡ true
plain_kept ignores ms h i =
    let w : IsWhole (members_depth ms) 63 (members_have_float ms) = members_inside 63 ms (none_deep ms h) in
    and_from _ _ (and_from _ _ (short (members_depth ms) w.nests) (ap not w.whole)) i
  where
    short : (n : ℕ) → n ≤ 63 → nat_le (suc n) 64 ≡ true
    short n h = grind (arith, nat_tests)
