-- The members that a map keeps, in the order of its keys.
use Rattle.std.proofs.Common.{◌≡◌, ℕ, List, [], ◌∷◌, ◌++◌, Bool, true, false, Less, Greater, string_bytes, string_cmp, nat_cmp, refl, ap, ◌∙◌}
use Rattle.std.specs.Prelude.{if◌then◌else◌}
use Rattle.std.proofs.lemmas.Cmp.{nat_list_cmp_total}
use Rattle.std.specs.Cmp.Lexicographic.{slice_cmp}
use Rattle.std.specs.List.{AllByRecursion}
use Rattle.std.specs.List.Sorted.{IsStrictlySortedBy}
use Rattle.std.specs.Map.{keys_of}
use Rattle.std.specs.Ordering.{ordering_reverse}
use Rattle.serde_json.specs.Data.{Data, Members, member, put}
use Rattle.serde_json.specs.View.{view, members_view}
use Rattle.serde_json.proofs.Views.{Entry}
use Rattle.ak_json.specs.Members.{Form}
use Rattle.ak_json.specs.Members.{knows, unknown}

below_middle : (first : Entry) (es : List Entry) (e : Entry) (more : List Entry) → AllByRecursion (λ y. string_cmp first.0 y ≡ Less) (keys_of (es ++ e ∷ more)) → string_cmp first.0 e.0 ≡ Less
below_middle first [] e more h = h.0
below_middle first (x ∷ es) e more h = below_middle first es e more h.1

-- a known member is not kept
pub known_last : (form : Form) (done : List Entry) (e : Entry) → knows form (string_bytes e.0) ≡ true → unknown form (members_view done) ≡ unknown form (members_view (done ++ e ∷ []))
known_last form [] e known = rw known refl
known_last form (first ∷ done) e known = rw (known_last form done e known) refl

-- an unknown one is kept behind those before it
pub unknown_last : (form : Form) (done : List Entry) (e : Entry) (more : List Entry) → IsStrictlySortedBy string_cmp (keys_of (done ++ e ∷ more))
    → knows form (string_bytes e.0) ≡ false → put (string_bytes e.0) (view e.1) (unknown form (members_view done)) ≡ unknown form (members_view (done ++ e ∷ []))
unfolding IsStrictlySortedBy
unknown_last form [] e more h new = rw new refl
unknown_last form (first ∷ done) e more h new =
    let above : slice_cmp nat_cmp (string_bytes e.0) (string_bytes first.0) ≡ Greater =
    nat_list_cmp_total.antisymm (string_bytes e.0) (string_bytes first.0) ∙ ap ordering_reverse (below_middle first done e more h.0) in
    one (knows form (string_bytes first.0)) _ _ (view first.1) _ _ _ above (unknown_last form done e more h.1 new)
  where
    one : (known : Bool) (k l : List ℕ) (x d : Data) (ms result : Members) → slice_cmp nat_cmp k l ≡ Greater → put k d ms ≡ result
        → put k d (if known then ms else member l x ms) ≡ (if known then result else member l x result)
    one true k l x d ms result above e = e
    one false k l x d ms result above e = rw above (ap (member l x) e)
