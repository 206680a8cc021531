-- The entries of an edit's changes, as the finite map of them.
use Rattle.std.specs.Prelude.{◌≡◌, Bool, true, false, T, ◌&&◌, Option, Some, List, [], ◌∷◌, cond}
use Rattle.std.proofs.Common.{refl, sym, ap, subst, ◌∙◌}
use Rattle.std.specs.BTreeMap.{is_at}
use Rattle.std.specs.Cmp.{eq_by_cmp_equiv, tied_itself}
use Rattle.std.specs.FinMap.{FinMap, entries, entries_sorted, find, get, get-entries, insert, is_sorted, from_entries, get-insert, get-from_entries, same_map}
use Rattle.std.specs.FinMap.Entries.{below_all, same_entries}
use Rattle.std.specs.List.{AllByRecursion}
use Rattle.std.specs.List.Sorted.{IsStrictlySortedBy}
use Rattle.std.specs.Map.{keys_of}
use Rattle.std.specs.Ordering.{eq_by_cmp, is_eq, is_lt, ordering_reverse}
use Rattle.std.specs.declared.cmp.Ordering.TheVariants.{Less, Equal, Greater}
use Rattle.ak_keep.proofs.RowsByName.{both_first, both_second}
use Rattle.ak_base.proofs.NameOrder.{names_exact}
use Rattle.ak_base.specs.Names.{name_cmp, names_total}
use Rattle.ak_base.specs.declared.names.Name.{Name}
use Rattle.ak_base.specs.declared.rows.Row.{Row}
use Rattle.ak_edit.specs.Overlays.{IsSet, entry_at}

find-entry_at : (es : List (Name × Option Row)) (q : Name) → find name_cmp q es ≡ entry_at es q
find-entry_at [] q = refl
find-entry_at (e ∷ es) q = ap (cond (is_at (name_cmp q) e.0) (Some e.1)) (find-entry_at es q)

-- what the map that the entries make has under a name
pub get-entry_at : (es : List (Name × Option Row)) (q : Name) → get (from_entries {R = name_cmp} es) q ≡ entry_at es q
get-entry_at es q = get-from_entries names_total es q ∙ find-entry_at es q

-- entries that differ under one name make maps that differ there
pub one_set : (es fs : List (Name × Option Row)) (name : Name) (row : Option Row) → IsSet es name row fs → from_entries {R = name_cmp} fs ≡ insert (from_entries es) name row
one_set es fs name row h = same_map names_total names_exact _ _ (λ q.
    get-entry_at fs q ∙ h q ∙ ap (λ b. cond b (Some row) (entry_at es q)) ((eq_by_cmp_equiv names_total).symm name q)
    ∙ sym (get-insert names_total (from_entries es) name row q ∙ ap (cond (is_at (name_cmp q) name) (Some row)) (get-entry_at es q)))

-- ---- entries in the order of their names
true_is : (b : Bool) → T b → b ≡ true
true_is true h = refl
true_is false h = absurd h

below_all-from : (x : Name) (es : List (Name × Option Row)) → AllByRecursion (λ y. name_cmp x y ≡ Less) (keys_of es) → T (below_all name_cmp x es)
below_all-from x [] h = tt
below_all-from x (e ∷ es) h = subst (λ r. T (is_lt r && below_all name_cmp x es)) (sym h.0) (below_all-from x es h.1)

is_sorted-from : (es : List (Name × Option Row)) → IsStrictlySortedBy name_cmp (keys_of es) → T (is_sorted name_cmp es)
unfolding IsStrictlySortedBy
is_sorted-from [] h = tt
is_sorted-from (e ∷ es) h = subst (λ b. T (b && is_sorted name_cmp es)) (sym (true_is _ (below_all-from e.0 es h.0))) (is_sorted-from es h.1)

-- entries that ascend are those of their map
pub entries-from_sorted : (es : List (Name × Option Row)) → IsStrictlySortedBy name_cmp (keys_of es) → entries (from_entries {R = name_cmp} es) ≡ es
entries-from_sorted es h = same_entries name_cmp names_total names_exact _ es (entries_sorted (from_entries es)) (is_sorted-from es h) (λ q. sym (get-entries (from_entries es) q) ∙ get-from_entries names_total es q)

greater : (x y : Name) → T (is_lt (name_cmp x y)) → eq_by_cmp name_cmp y x ≡ false
greater x y h =
    ap is_eq (names_total.antisymm y x)
    ∙ elim (name_cmp x y) as (λ r. T (is_lt r) → is_eq (ordering_reverse r) ≡ false) [ Less ↦ λ _. refl | Equal ↦ λ k. absurd k | Greater ↦ λ k. absurd k ] h

found_behind : (e : Name × Option Row) (fs es : List (Name × Option Row)) → T (below_all name_cmp e.0 es) → AllByRecursion (λ (f : Name × Option Row). find name_cmp f.0 fs ≡ Some f.1) es
    → AllByRecursion (λ (f : Name × Option Row). find name_cmp f.0 (e ∷ fs) ≡ Some f.1) es
found_behind e fs [] h k = tt
found_behind e fs (f ∷ es) h k =
    (ap (λ b. cond b (Some e.1) (find name_cmp f.0 fs)) (greater e.0 f.0 (both_first _ _ h)) ∙ k.0, found_behind e fs es (both_second _ _ h) k.1)

found : (es : List (Name × Option Row)) → T (is_sorted name_cmp es) → AllByRecursion (λ (f : Name × Option Row). find name_cmp f.0 es ≡ Some f.1) es
found [] h = tt
found (e ∷ es) h =
    (ap (λ r. cond (is_eq r) (Some e.1) (find name_cmp e.0 es)) (tied_itself names_total e.0), found_behind e es es (both_first _ _ h) (found es (both_second _ _ h)))

got : (noted : FinMap name_cmp (Option Row)) (es : List (Name × Option Row)) → AllByRecursion (λ (f : Name × Option Row). find name_cmp f.0 (entries noted) ≡ Some f.1) es
    → AllByRecursion (λ (f : Name × Option Row). get noted f.0 ≡ Some f.1) es
got noted [] h = tt
got noted (e ∷ es) h = (get-entries noted e.0 ∙ h.0, got noted es h.1)

-- each entry is what is found under its name
pub entries_found : (noted : FinMap name_cmp (Option Row)) → AllByRecursion (λ (e : Name × Option Row). get noted e.0 ≡ Some e.1) (entries noted)
entries_found noted = got noted (entries noted) (found (entries noted) (entries_sorted noted))
