-- Lists of at most one row: no two rows of them have one name.
use Rattle.std.proofs.Common.{◌≡◌, List, [], ◌∷◌, ◌++◌, map, sym, subst, ◌∙◌, ap}
use Rattle.std.proofs.lemmas.Map.Keys.{IsDistinct-from_sorted}
use Rattle.std.specs.List.{IsDistinct}
use Rattle.std.specs.List.Sorted.{IsStrictlySortedBy}
use Rattle.std.specs.Ordering.{eq_by_cmp}
use Rattle.ak_base.specs.Names.{name_cmp}
use Rattle.ak_base.specs.Rows.{name_of}
use Rattle.ak_base.specs.declared.names.Name.{Name}
use Rattle.ak_base.specs.declared.rows.Row.{Row}

none_ordered : IsStrictlySortedBy name_cmp []
unfolding IsStrictlySortedBy
none_ordered = tt

one_ordered : (name : Name) → IsStrictlySortedBy name_cmp (name ∷ [])
unfolding IsStrictlySortedBy
one_ordered name = (tt, tt)

-- no two of no rows
pub none_is_distinct : (rows : List Row) → rows ≡ [] → IsDistinct (eq_by_cmp name_cmp) (map name_of rows)
none_is_distinct rows empty =
    subst (λ (r : List Row). IsDistinct (eq_by_cmp name_cmp) (map name_of r)) (sym empty) (IsDistinct-from_sorted name_cmp [] none_ordered)

-- no two of one row
pub one_is_distinct : (none rows : List Row) (row : Row) → none ≡ [] → rows ≡ none ++ row ∷ [] → IsDistinct (eq_by_cmp name_cmp) (map name_of rows)
one_is_distinct none rows row empty is =
    subst (λ (r : List Row). IsDistinct (eq_by_cmp name_cmp) (map name_of r)) (sym (is ∙ ap (λ (r : List Row). r ++ row ∷ []) empty))
    (IsDistinct-from_sorted name_cmp (name_of row ∷ []) (one_ordered (name_of row)))
