-- A page of the rows that are held.
use Rattle.std.specs.Prelude.{◌≡◌, ℕ, zero, suc, ℤ, ◌-◌, ◌<◌, ◌≤◌, Bool, true, false, T, cond, ◌&&◌, ◌==◌, Option, Some, None, List, [], ◌∷◌, ◌++◌, filter, length, take}
use Rattle.std.proofs.Common.{refl, sym, ap, subst, ◌∙◌, arith, length-append, append_assoc, append-nil}
use Rattle.std.specs.BTreeMap.Range.{entries_between}
use Rattle.std.specs.Cmp.{ranked, unsigned_Decides}
use Rattle.std.specs.FinMap.{find, from_entries, is_sorted, get-from_entries, same_map}
use Rattle.std.specs.FinMap.Entries.{below_all}
use Rattle.std.specs.List.{AllByRecursion}
use Rattle.std.specs.List.Sorted.{IsStrictlySortedBy}
use Rattle.std.specs.Map.{keys_of}
use Rattle.std.specs.Option.{option_and_then, option_to_list}
use Rattle.std.specs.Ordering.{nat_cmp, int_cmp, is_eq, is_lt, ordering_then}
use Rattle.std.specs.declared.cmp.Ordering.TheVariants.{Less, Equal, Greater}
use Rattle.std.specs.declared.ops.Bound.TheVariants.{Excluded, Unbounded}
use Rattle.ak_base.proofs.NameOrder.{names_exact}
use Rattle.ak_base.specs.Names.{name_cmp, names_total, table_place}
use Rattle.ak_base.specs.declared.names.Name.{Name}
use Rattle.ak_base.specs.declared.names.Table.{Table}
use Rattle.ak_base.specs.declared.rows.Row.{Row}
use Rattle.ak_keep.specs.Collections.{rows_past}
use Rattle.ak_keep.specs.Pages.{first_run}
use Rattle.ak_keep.proofs.RowsByName.{both_first, both_second, none_below}
use Rattle.ak_keep.proofs.Paging.{page_of_entries}
use Rattle.ak_memory.specs.Places.{held_run, place_under, row_at, row_under, rows_at}
use Rattle.ak_memory.specs.declared.places.Place.{Place}
use Rattle.ak_memory.specs.declared.versions.Version.TheVariants.{Now}
use Rattle.ak_memory.proofs.RowsUnder.{get-rows_at}

-- ---- the entries of the rows that are held
abbrev pub held_one : Name → Option Row → List (Name × Row) → List (Name × Row)
held_one name None held = held
held_one name (Some row) held = (name, row) ∷ held

abbrev pub held_entries : List (Name × Place) → List (Name × Row)
held_entries [] = []
held_entries (e ∷ es) = held_one e.0 (row_at Now e.1) (held_entries es)

yes_and : (a b : Bool) → T a → T b → T (a && b)
yes_and true b h k = k
yes_and false b h k = h

below-one : (x name : Name) (o : Option Row) (held : List (Name × Row)) → T (is_lt (name_cmp x name)) → T (below_all name_cmp x held) → T (below_all name_cmp x (held_one name o held))
below-one x name None held h k = k
below-one x name (Some row) held h k = yes_and _ _ h k

below-held : (x : Name) (es : List (Name × Place)) → T (below_all name_cmp x es) → T (below_all name_cmp x (held_entries es))
below-held x [] h = tt
below-held x (e ∷ es) h = below-one x e.0 (row_at Now e.1) (held_entries es) (both_first _ _ h) (below-held x es (both_second _ _ h))

sorted-one : (name : Name) (o : Option Row) (held : List (Name × Row)) → T (below_all name_cmp name held) → T (is_sorted name_cmp held) → T (is_sorted name_cmp (held_one name o held))
sorted-one name None held h k = k
sorted-one name (Some row) held h k = yes_and _ _ h k

sorted-held : (es : List (Name × Place)) → T (is_sorted name_cmp es) → T (is_sorted name_cmp (held_entries es))
sorted-held [] h = tt
sorted-held (e ∷ es) h = sorted-one e.0 (row_at Now e.1) (held_entries es) (below-held e.0 es (both_first _ _ h)) (sorted-held es (both_second _ _ h))

true_is : (b : Bool) → T b → b ≡ true
true_is true h = refl
true_is false h = absurd h

below_from : (x : Name) (es : List (Name × Place)) → AllByRecursion (λ y. name_cmp x y ≡ Less) (keys_of es) → T (below_all name_cmp x es)
below_from x [] h = tt
below_from x (e ∷ es) h = subst (λ r. T (is_lt r && below_all name_cmp x es)) (sym h.0) (below_from x es h.1)

sorted_from : (es : List (Name × Place)) → IsStrictlySortedBy name_cmp (keys_of es) → T (is_sorted name_cmp es)
unfolding IsStrictlySortedBy
sorted_from [] h = tt
sorted_from (e ∷ es) h = subst (λ b. T (b && is_sorted name_cmp es)) (sym (true_is _ (below_from e.0 es h.0))) (sorted_from es h.1)

less_keys : (x : Name) (es : List (Name × Row)) → T (below_all name_cmp x es) → AllByRecursion (λ y. name_cmp x y ≡ Less) (keys_of es)
less_keys x [] h = tt
less_keys x (e ∷ es) h =
    (elim (name_cmp x e.0) as (λ r. T (is_lt r) → r ≡ Less) [ Less ↦ λ _. refl | Equal ↦ λ k. absurd k | Greater ↦ λ k. absurd k ] (both_first _ _ h), less_keys x es (both_second _ _ h))

ascending : (es : List (Name × Row)) → T (is_sorted name_cmp es) → IsStrictlySortedBy name_cmp (keys_of es)
unfolding IsStrictlySortedBy
ascending [] h = tt
ascending (e ∷ es) h = (less_keys e.0 es (both_first _ _ h), ascending es (both_second _ _ h))

-- what is found among them
find-here : (q name : Name) (o : Option Row) (held : List (Name × Row)) → name_cmp q name ≡ Equal → T (below_all name_cmp name held) → find name_cmp q (held_one name o held) ≡ o
find-here q name None held is h = none_below q held (subst (λ (x : Name). T (below_all name_cmp x held)) (sym (names_exact q name is)) h)
find-here q name (Some row) held is h = ap (λ r. cond (is_eq r) (Some row) (find name_cmp q held)) is

find-apart : (q name : Name) (o : Option Row) (held : List (Name × Row)) → is_eq (name_cmp q name) ≡ false → find name_cmp q (held_one name o held) ≡ find name_cmp q held
find-apart q name None held is = refl
find-apart q name (Some row) held is = ap (λ b. cond b (Some row) (find name_cmp q held)) is

find-held : (q : Name) (es : List (Name × Place)) → T (is_sorted name_cmp es) → find name_cmp q (held_entries es) ≡ row_under Now es q
find-held q [] h = refl
find-held q (e ∷ es) h =
    let held = held_entries es in
    let rest = find-held q es (both_second _ _ h) in
    elim (name_cmp q e.0) as (λ r. name_cmp q e.0 ≡ r → find name_cmp q (held_one e.0 (row_at Now e.1) held) ≡ option_and_then (row_at Now) (cond (is_eq r) (Some e.1) (place_under es q))) [
      | Less ↦ λ is. find-apart q e.0 (row_at Now e.1) held (ap is_eq is) ∙ rest
      | Equal ↦ λ is. find-here q e.0 (row_at Now e.1) held is (below-held e.0 es (both_first _ _ h))
      | Greater ↦ λ is. find-apart q e.0 (row_at Now e.1) held (ap is_eq is) ∙ rest
    ] refl

from-held : (es : List (Name × Place)) → T (is_sorted name_cmp es) → from_entries {R = name_cmp} (held_entries es) ≡ rows_at Now es
from-held es h = same_map names_total names_exact _ _ (λ q. get-from_entries names_total (held_entries es) q ∙ find-held q es h ∙ sym (get-rows_at Now es q))

-- ---- the run of a table
tables_rise : (x y : Name) → T (is_lt (name_cmp x y)) → table_place x.table ≤ table_place y.table
tables_rise x y =
    let p = table_place x.table in
    let q = table_place y.table in
    elim (nat_cmp p q) as (λ r. nat_cmp p q ≡ r → T (is_lt (ordering_then r (int_cmp x.id y.id))) → p ≤ q) [
      | Less ↦ λ is _. let h : p < q = ranked p q Less (sym is) in omega (arith, h)
      | Equal ↦ λ is _. let h : p ≡ q = ranked p q Equal (sym is) in omega (arith, h)
      | Greater ↦ λ is h. absurd h
    ] refl

apart : (m n : ℕ) → n < m → (m == n) ≡ false
apart m n h =
    elim (m == n) as (λ b. (m == n) ≡ b → b ≡ false) [
      | true ↦ λ is. let e = (unsigned_Decides m n).0 is in absurd (omega (arith, e, h))
      | false ↦ λ _. refl
    ] refl

-- no row of the table is behind a name of a later table
none_behind : (past : Name) (table : Table) (x : Name) (es : List (Name × Row)) → table_place table < table_place x.table → T (below_all name_cmp x es) → first_run table (entries_between name_cmp (Excluded past) Unbounded es) ≡ []
none_behind past table x [] later h = refl
none_behind past table x (e ∷ es) later h =
    let between = entries_between name_cmp (Excluded past) Unbounded es in
    let rises = tables_rise x e.0 (both_first _ _ h) in
    elim (is_lt (name_cmp past e.0)) as (λ b. first_run table (cond (b && true) (e ∷ between) between) ≡ []) [
      | true ↦ ap (λ b. cond b (e.1 ∷ first_run table between) []) (apart (table_place e.0.table) (table_place table) (omega (arith, rises, later)))
      | false ↦ none_behind past table x es later (both_second _ _ h)
    ]

run-skips : (past : Name) (table : Table) (name : Name) (o : Option Row) (held : List (Name × Row)) → is_lt (name_cmp past name) ≡ false
    → first_run table (entries_between name_cmp (Excluded past) Unbounded (held_one name o held)) ≡ first_run table (entries_between name_cmp (Excluded past) Unbounded held)
run-skips past table name None held out = refl
run-skips past table name (Some row) held out =
    let between = entries_between name_cmp (Excluded past) Unbounded held in
    ap (λ b. first_run table (cond (b && true) ((name, row) ∷ between) between)) out

run-takes : (past : Name) (table : Table) (name : Name) (o : Option Row) (held : List (Name × Row)) → is_lt (name_cmp past name) ≡ true → (table_place name.table == table_place table) ≡ true
    → first_run table (entries_between name_cmp (Excluded past) Unbounded (held_one name o held)) ≡ option_to_list o ++ first_run table (entries_between name_cmp (Excluded past) Unbounded held)
run-takes past table name None held inside same = refl
run-takes past table name (Some row) held inside same =
    let between = entries_between name_cmp (Excluded past) Unbounded held in
    ap (λ b. first_run table (cond (b && true) ((name, row) ∷ between) between)) inside ∙ ap (λ b. cond b (row ∷ first_run table between) []) same

run-ends : (past : Name) (table : Table) (name : Name) (o : Option Row) (held : List (Name × Row)) → is_lt (name_cmp past name) ≡ true → table_place table < table_place name.table → T (below_all name_cmp name held)
    → first_run table (entries_between name_cmp (Excluded past) Unbounded (held_one name o held)) ≡ []
run-ends past table name None held inside later h = none_behind past table name held later h
run-ends past table name (Some row) held inside later h =
    let between = entries_between name_cmp (Excluded past) Unbounded held in
    ap (λ b. first_run table (cond (b && true) ((name, row) ∷ between) between)) inside
    ∙ ap (λ b. cond b (row ∷ first_run table between) []) (apart (table_place name.table) (table_place table) later)

below_of : (m n : ℕ) → m ≤ n → (m ≡ n → ⊥) → m < n
below_of m n few differ = omega (arith, few, differ)

later : (past name : Name) → is_lt (name_cmp past name) ≡ true → (table_place name.table == table_place past.table) ≡ false → table_place past.table < table_place name.table
later past name inside other =
    let rises = tables_rise past name (subst T (sym inside) tt) in
    elim (table_place past.table == table_place name.table) as (λ b. (table_place past.table == table_place name.table) ≡ b → table_place past.table < table_place name.table) [
      | true ↦ λ is. absurd (subst T (sym ((unsigned_Decides (table_place name.table) (table_place past.table)).1 (sym ((unsigned_Decides _ _).0 is))) ∙ other) tt)
      | false ↦ λ is.
          let differ : table_place past.table ≡ table_place name.table → ⊥ = λ e. subst T (sym ((unsigned_Decides (table_place past.table) (table_place name.table)).1 e) ∙ is) tt in
          below_of _ _ rises differ
    ] refl

-- the run over the places is that over the rows that are held
held-run : (past : Name) (es : List (Name × Place)) → T (is_sorted name_cmp es)
    → held_run past.table (entries_between name_cmp (Excluded past) Unbounded es) ≡ first_run past.table (entries_between name_cmp (Excluded past) Unbounded (held_entries es))
held-run past [] h = refl
held-run past (e ∷ es) h =
    let table = past.table in
    let o = row_at Now e.1 in
    let held = held_entries es in
    let between = entries_between name_cmp (Excluded past) Unbounded es in
    let rest : held_run table between ≡ first_run table (entries_between name_cmp (Excluded past) Unbounded held) = held-run past es (both_second _ _ h) in
    elim (is_lt (name_cmp past e.0)) as (λ b. is_lt (name_cmp past e.0) ≡ b
    → held_run table (cond (b && true) (e ∷ between) between) ≡ first_run table (entries_between name_cmp (Excluded past) Unbounded (held_one e.0 o held))) [
      | true ↦ λ inside.
          elim (table_place e.0.table == table_place table) as (λ b. (table_place e.0.table == table_place table) ≡ b
          → cond b (option_to_list o ++ held_run table between) [] ≡ first_run table (entries_between name_cmp (Excluded past) Unbounded (held_one e.0 o held))) [
            | true ↦ λ same. ap (λ ys. option_to_list o ++ ys) rest ∙ sym (run-takes past table e.0 o held inside same)
            | false ↦ λ other. sym (run-ends past table e.0 o held inside (later past e.0 inside other) (below-held e.0 es (both_first _ _ h)))
          ] refl
      | false ↦ λ outside. rest ∙ sym (run-skips past table e.0 o held outside)
    ] refl

-- the page that the places give
pub page_of_places : (w : Row → Bool) (table : Table) (past : ℤ) (limit : ℕ) (es : List (Name × Place)) (page : List Row) → IsStrictlySortedBy name_cmp (keys_of es)
    → page ≡ take limit (filter w (held_run table (entries_between name_cmp (Excluded (record { table = table; id = past })) Unbounded es)))
    → page ≡ take limit (filter w (rows_past table past (rows_at Now es)))
page_of_places w table past limit es page ordered is =
    let sorted = sorted_from es ordered in
    page_of_entries w table past limit (held_entries es) page (ascending (held_entries es) (sorted-held es sorted)) (is ∙ ap (λ xs. take limit (filter w xs)) (held-run (record { table = table; id = past }) es sorted))
    ∙ ap (λ rows. take limit (filter w (rows_past table past rows))) (from-held es sorted)

-- ---- one place after the other
takes_row : (w : Row → Bool) (limit : ℕ) (page all left : List Row) (row : Row) → page ++ take (limit - length page) (filter w (row ∷ left)) ≡ all → length page < limit
    → (page ++ filter w (row ∷ [])) ++ take (limit - length (page ++ filter w (row ∷ []))) (filter w left) ≡ all
takes_row w limit page all left row is room =
    let kept = filter w left in
    let n = limit - length (page ++ row ∷ []) in
    let more : suc n ≡ limit - length page = omega (arith, length-append page (row ∷ []), room) in
    elim (w row) as (λ b. page ++ take (limit - length page) (cond b (row ∷ kept) kept) ≡ all
    → (page ++ cond b (row ∷ []) []) ++ take (limit - length (page ++ cond b (row ∷ []) [])) kept ≡ all) [
      | true ↦ λ is. append_assoc page (row ∷ []) (take n kept) ∙ ap (λ m. page ++ take m (row ∷ kept)) more ∙ is
      | false ↦ λ is. subst (λ (ps : List Row). ps ++ take (limit - length ps) kept ≡ all) (sym (append-nil page)) is
    ] is

pub takes_place : (w : Row → Bool) (limit : ℕ) (page all left : List Row) (o : Option Row) → page ++ take (limit - length page) (filter w (option_to_list o ++ left)) ≡ all → length page < limit
    → (page ++ filter w (option_to_list o)) ++ take (limit - length (page ++ filter w (option_to_list o))) (filter w left) ≡ all
takes_place w limit page all left None is room = subst (λ (ps : List Row). ps ++ take (limit - length ps) (filter w left) ≡ all) (sym (append-nil page)) is
takes_place w limit page all left (Some row) is room = takes_row w limit page all left row is room

-- it does not grow past its limit
pub place_fits : (w : Row → Bool) (limit : ℕ) (page : List Row) (o : Option Row) → length page < limit → length (page ++ filter w (option_to_list o)) ≤ limit
place_fits w limit page None room = omega (arith, length-append page [], room)
place_fits w limit page (Some row) room =
    elim (w row) as (λ b. length (page ++ cond b (row ∷ []) []) ≤ limit) [
      | true ↦ omega (arith, length-append page (row ∷ []), room)
      | false ↦ omega (arith, length-append page [], room)
    ]

nothing_left : (n : ℕ) (page : List Row) → page ≡ page ++ take n []
nothing_left zero page = sym (append-nil page)
nothing_left (suc n) page = sym (append-nil page)

-- a place of another table ends it
pub page_ends : (w : Row → Bool) (table : Table) (limit : ℕ) (page all : List Row) (e : Name × Place) (es : List (Name × Place))
    → page ++ take (limit - length page) (filter w (held_run table (e ∷ es))) ≡ all → (table_place e.0.table == table_place table) ≡ false → page ≡ all
page_ends w table limit page all e es is other =
    nothing_left (limit - length page) page
    ∙ sym (ap (λ b. page ++ take (limit - length page) (filter w (cond b (option_to_list (row_at Now e.1) ++ held_run table es) []))) other) ∙ is
