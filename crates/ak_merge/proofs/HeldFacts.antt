-- Of what is held under a name: to have one content.
use Rattle.std.specs.Prelude.{◌≡◌, IsTrue, Option, Some, None, is_some}
use Rattle.std.proofs.Common.{refl, arith}
use Rattle.ak_base.proofs.RowFacts.{same-itself, same-turned, same-through}
use Rattle.ak_base.specs.declared.rows.Row.{Row}
use Rattle.ak_merge.specs.Holdings.{same_held}

pub held-itself : (x : Option Row) → IsTrue (same_held x x)
held-itself None = refl
held-itself (Some x) = same-itself x

pub held-turned : (x y : Option Row) → IsTrue (same_held x y) → IsTrue (same_held y x)
held-turned None None same = refl
held-turned None (Some y) same = same
held-turned (Some x) None same = same
held-turned (Some x) (Some y) same = same-turned x y same

pub held-through : (x y z : Option Row) → IsTrue (same_held x y) → IsTrue (same_held y z) → IsTrue (same_held x z)
held-through None None z one other = other
held-through None (Some y) z one other = grind (arith, one)
held-through (Some x) None z one other = grind (arith, one)
held-through (Some x) (Some y) None one other = other
held-through (Some x) (Some y) (Some z) one other = same-through x y z one other

-- what has one content is held on both sides, or on neither
pub held-alike : (x y : Option Row) → IsTrue (same_held x y) → is_some x ≡ is_some y
held-alike None None same = refl
held-alike None (Some y) same = grind (arith, same)
held-alike (Some x) None same = grind (arith, same)
held-alike (Some x) (Some y) same = refl
