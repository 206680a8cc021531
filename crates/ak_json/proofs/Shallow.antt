-- How deep an array or an object nests.
use Rattle.std.proofs.Common.{◌≡◌, ℕ, ◌-◌, Bool, true, false, arith, ◌&&◌, Some, refl, sym, ap, ◌∙◌}
use Rattle.std.specs.Prelude.{nat_lt}
use Rattle.std.proofs.lemmas.Bool.Decides.{nat_tests}
use Rattle.serde_json.specs.Data.{Data, null, boolean, number, string, array, object, Items, Members}
use Rattle.serde_json.specs.Find.{as_array, as_object}
use Rattle.ak_json.specs.Depths.{is_shallow, are_shallow, have_shallow}

pub array_only : (d : Data) (ds : Items) → as_array d ≡ Some ds → d ≡ array ds
array_only null ds e = cc
array_only (boolean b) ds e = cc
array_only (number n) ds e = cc
array_only (string s) ds e = cc
array_only (array es) ds e = cc
array_only (object ms) ds e = cc

pub object_only : (d : Data) (ms : Members) → as_object d ≡ Some ms → d ≡ object ms
object_only null ms e = cc
object_only (boolean b) ms e = cc
object_only (number n) ms e = cc
object_only (string s) ms e = cc
object_only (array es) ms e = cc
object_only (object es) ms e = cc

above_zero : (most : ℕ) → (most ≡ 0 → ⊥) → nat_lt 0 most ≡ true
above_zero most h = grind (arith, nat_tests)

above_none : (most : ℕ) (b : Bool) → (most ≡ 0 → ⊥) → (nat_lt 0 most && b) ≡ b
above_none most b h = let e : nat_lt 0 most ≡ true = above_zero most h in rw e refl

pub array_shallow : (most : ℕ) (d : Data) (ds : Items) → as_array d ≡ Some ds → (most ≡ 0 → ⊥) → are_shallow (most - 1) ds ≡ is_shallow most d
array_shallow most d ds e h = sym (ap (is_shallow most) (array_only d ds e) ∙ above_none most _ h)

pub object_shallow : (most : ℕ) (d : Data) (ms : Members) → as_object d ≡ Some ms → (most ≡ 0 → ⊥) → have_shallow (most - 1) ms ≡ is_shallow most d
object_shallow most d ms e h = sym (ap (is_shallow most) (object_only d ms e) ∙ above_none most _ h)

pub array_at_bottom : (d : Data) (ds : Items) → as_array d ≡ Some ds → is_shallow 0 d ≡ false
array_at_bottom d ds e = ap (is_shallow 0) (array_only d ds e)

pub object_at_bottom : (d : Data) (ms : Members) → as_object d ≡ Some ms → is_shallow 0 d ≡ false
object_at_bottom d ms e = ap (is_shallow 0) (object_only d ms e)
