-- The orders of the lists of a day.
use Rattle.std.specs.Prelude.{ℤ, List, [], ◌∷◌}
use Rattle.std.specs.BTreeSet.{insert_key}
use Rattle.std.specs.Cmp.{IsTotalOrder}
use Rattle.std.specs.Cmp.Lexicographic.{slice_cmp, lists_total, nat_list_cmp_total}
use Rattle.std.specs.Ordering.{nat_cmp, int_cmp, ordering_then}
use Rattle.std.specs.declared.cmp.Ordering.{Ordering}
use Rattle.ak_queue.specs.Homes.{Parts}
pub use Rattle.ak_keep.specs.WaitingCards.{DueKey, due_cmp}

-- a new card: the parts of its deck's path, its place among new cards, and its id
abbrev pub NewKey : Type 0
NewKey = Parts × ℤ × ℤ

-- part by part, each by its bytes
abbrev pub parts_cmp : Parts → Parts → Ordering
parts_cmp = slice_cmp (slice_cmp nat_cmp)

-- it is a total order: the law that `Ord` takes
pub parts_total : IsTotalOrder parts_cmp
parts_total = lists_total nat_list_cmp_total

-- by the path of the deck, then by due, then by id
abbrev pub new_cmp : NewKey → NewKey → Ordering
new_cmp one other = ordering_then (ordering_then (parts_cmp one.0 other.0) (int_cmp one.1 other.1)) (int_cmp one.2 other.2)

-- keys put in among others that are in order, each at its place
abbrev pub put_among : {K : Type 0} → (K → K → Ordering) → List K → List K → List K
put_among cmp sorted [] = sorted
put_among cmp sorted (key ∷ keys) = put_among cmp (insert_key cmp sorted key) keys

-- the keys in their order
abbrev pub in_order : {K : Type 0} → (K → K → Ordering) → List K → List K
in_order cmp keys = put_among cmp [] keys
