-- A keeper's entries, as the finite map of them.
use Rattle.std.specs.Prelude.{◌≡◌, Bool, true, false, T, not, ◌&&◌, Option, Some, None, is_some, List, [], ◌∷◌, map, cond, length}
use Rattle.std.proofs.lemmas.Option.{none-some, same_Some}
use Rattle.std.proofs.Common.{refl, sym, ap, subst, ◌∙◌, arith}
use Rattle.std.specs.BTreeMap.{is_at}
use Rattle.std.specs.Cmp.{eq_by_cmp_equiv, tied_itself}
use Rattle.std.specs.FinMap.{find, put, get, insert, remove, empty, entries, entries_sorted, from_entries, is_sorted, get-entries, get-remove, get-from_entries, entries-insert, len-entries, len-empty}
use Rattle.std.specs.FinMap.Entries.{by_order, below_all, same_entries}
use Rattle.std.specs.List.{AllByRecursion}
use Rattle.std.specs.List.Sorted.{IsStrictlySortedBy}
use Rattle.std.specs.Map.{keys_of}
use Rattle.std.specs.Option.{option_or}
use Rattle.std.specs.Ordering.{eq_by_cmp, is_eq, is_lt, ordering_reverse}
use Rattle.std.specs.declared.cmp.Ordering.{Ordering}
use Rattle.std.specs.declared.cmp.Ordering.TheVariants.{Less, Equal, Greater}
use Rattle.ak_base.proofs.NameOrder.{names_exact}
use Rattle.ak_base.specs.Names.{name_cmp, names_total}
use Rattle.ak_base.specs.Rows.{name_of}
use Rattle.ak_base.specs.declared.names.Name.{Name}
use Rattle.ak_base.specs.declared.rows.Row.{Row}
use Rattle.ak_keep.specs.Collections.{Rows, StandsUnderNames, rows_of}
use Rattle.ak_keep.specs.Entries.{row_at, IsPut, IsFilled}

pub both_first : (a b : Bool) → T (a && b) → T a
both_first true b h = tt
both_first false b h = h

pub both_second : (a b : Bool) → T (a && b) → T b
both_second true b h = h
both_second false b h = absurd h

pub is_less : (r : Ordering) → T (is_lt r) → r ≡ Less
is_less Less h = refl
is_less Equal h = absurd h
is_less Greater h = absurd h

tied_of : (r : Ordering) → is_eq r ≡ true → r ≡ Equal
tied_of Less is = absurd (subst T (sym is) tt)
tied_of Equal is = refl
tied_of Greater is = absurd (subst T (sym is) tt)

find-row_at : (es : List (Name × Row)) (q : Name) → find name_cmp q es ≡ row_at es q
find-row_at [] q = refl
find-row_at (e ∷ es) q = ap (cond (is_at (name_cmp q) e.0) (Some e.1)) (find-row_at es q)

-- what the map that the entries make has under a name
pub get-row_at : (es : List (Name × Row)) (q : Name) → get (from_entries {R = name_cmp} es) q ≡ row_at es q
get-row_at es q = get-from_entries names_total es q ∙ find-row_at es q

or_none : (o : Option Row) → o ≡ option_or o None
or_none None = refl
or_none (Some x) = refl

or_first : (o p : Option Row) → is_some o ≡ true → o ≡ option_or o p
or_first None p is = absurd (subst T (sym is) tt)
or_first (Some x) p is = refl

pub none_of : (o : Option Row) → is_some o ≡ false → o ≡ None
none_of None is = refl
none_of (Some x) is = absurd (subst (λ b. T (not b)) (sym is) tt)

pub same_of_tied : (x y : Name) → eq_by_cmp name_cmp x y ≡ true → x ≡ y
same_of_tied x y is = names_exact x y (tied_of (name_cmp x y) is)

-- under a name that is held, nothing is filled in
pub held_filled : (es : List (Name × Row)) (name : Name) (row : Row) → is_some (row_at es name) ≡ true → IsFilled es ((name, row) ∷ []) es
held_filled es name row held q =
    elim (is_at (name_cmp q) name) as (λ b. is_at (name_cmp q) name ≡ b → row_at es q ≡ option_or (row_at es q) (cond b (Some row) None)) [
      | true ↦ λ is. or_first (row_at es q) (Some row) (ap (λ (n : Name). is_some (row_at es n)) (same_of_tied q name is) ∙ held)
      | false ↦ λ is. or_none (row_at es q)
    ] refl

-- a row put under a name that was not held fills it in
pub put_filled : (es fs : List (Name × Row)) (name : Name) (row : Row) → is_some (row_at es name) ≡ false → IsPut es name row fs → IsFilled es ((name, row) ∷ []) fs
put_filled es fs name row free h q =
    h q ∙ ap (λ b. cond b (Some row) (row_at es q)) ((eq_by_cmp_equiv names_total).symm name q)
    ∙ elim (is_at (name_cmp q) name) as (λ b. is_at (name_cmp q) name ≡ b → cond b (Some row) (row_at es q) ≡ option_or (row_at es q) (cond b (Some row) None)) [
      | true ↦ λ is. ap (λ o. option_or o (Some row)) (sym (none_of (row_at es q) (ap (λ (n : Name). is_some (row_at es n)) (same_of_tied q name is) ∙ free)))
      | false ↦ λ is. or_none (row_at es q)
    ] refl

-- a row under its own name
abbrev pub IsNamed : Name × Row → Type 0
IsNamed entry = name_of entry.1 ≡ entry.0

named-put : (row : Row) (es : List (Name × Row)) → AllByRecursion IsNamed es → AllByRecursion IsNamed (put name_cmp (name_of row) row es)
named-put row [] h = (refl, tt)
named-put row (e ∷ es) h =
    elim (name_cmp (name_of row) e.0) as (λ r. name_cmp (name_of row) e.0 ≡ r → AllByRecursion IsNamed (by_order r ((name_of row, row) ∷ e ∷ es) ((e.0, row) ∷ es) (e ∷ put name_cmp (name_of row) row es))) [
      | Less ↦ λ is. (refl, h)
      | Equal ↦ λ is. (names_exact _ _ is, h.1)
      | Greater ↦ λ is. (h.0, named-put row es h.1)
    ] refl

pub named-insert : (rows : Rows) (row : Row) → StandsUnderNames rows → StandsUnderNames (insert rows (name_of row) row)
named-insert rows row h = subst (AllByRecursion IsNamed) (sym (entries-insert names_total rows (name_of row) row)) (named-put row (entries rows) h)

named-none : (es : List (Name × Row)) → length es ≡ 0 → AllByRecursion IsNamed es
named-none [] is = tt
named-none (e ∷ es) is = absurd (omega arith)

pub named-empty : StandsUnderNames empty
named-empty = named-none (entries empty) (sym (len-entries empty) ∙ len-empty name_cmp Row)

named-from_entries : (es : List (Name × Row)) → AllByRecursion IsNamed es → StandsUnderNames (from_entries es)
named-from_entries [] h = named-empty
named-from_entries (e ∷ es) h =
    subst (λ (name : Name). StandsUnderNames (insert (from_entries es) name e.1)) h.0 (named-insert (from_entries es) e.1 (named-from_entries es h.1))

named-rows : (rows : List Row) → AllByRecursion IsNamed (map (λ row. (name_of row, row)) rows)
named-rows [] = tt
named-rows (row ∷ rows) = (refl, named-rows rows)

pub named-rows_of : (rows : List Row) → StandsUnderNames (rows_of rows)
named-rows_of rows = named-from_entries (map (λ row. (name_of row, row)) rows) (named-rows rows)

named-find : (q : Name) (row : Row) (es : List (Name × Row)) → AllByRecursion IsNamed es → find name_cmp q es ≡ Some row → name_of row ≡ q
named-find q row [] h is =
    absurd (none-some row is)
named-find q row (e ∷ es) h is =
    elim (name_cmp q e.0) as (λ r. name_cmp q e.0 ≡ r → cond (is_eq r) (Some e.1) (find name_cmp q es) ≡ Some row → name_of row ≡ q) [
      | Less ↦ λ t is. named-find q row es h.1 is
      | Equal ↦ λ t is. ap name_of (sym (same_Some e.1 row is)) ∙ h.0 ∙ sym (names_exact _ _ t)
      | Greater ↦ λ t is. named-find q row es h.1 is
    ] refl is

-- the row found under a name bears it
pub named-get : (rows : Rows) (q : Name) (row : Row) → StandsUnderNames rows → get rows q ≡ Some row → name_of row ≡ q
named-get rows q row h is = named-find q row (entries rows) h (sym (get-entries rows q) ∙ is)

-- entries in the order of their names are those of their map
true_is : (b : Bool) → T b → b ≡ true
true_is true h = refl
true_is false h = absurd h

below_all-from : (x : Name) (es : List (Name × Row)) → AllByRecursion (λ y. name_cmp x y ≡ Less) (keys_of es) → T (below_all name_cmp x es)
below_all-from x [] h = tt
below_all-from x (e ∷ es) h = subst (λ r. T (is_lt r && below_all name_cmp x es)) (sym h.0) (below_all-from x es h.1)

pub is_sorted-from : (es : List (Name × Row)) → IsStrictlySortedBy name_cmp (keys_of es) → T (is_sorted name_cmp es)
unfolding IsStrictlySortedBy
is_sorted-from [] h = tt
is_sorted-from (e ∷ es) h = subst (λ b. T (b && is_sorted name_cmp es)) (sym (true_is _ (below_all-from e.0 es h.0))) (is_sorted-from es h.1)

pub entries-from_entries : (es : List (Name × Row)) → IsStrictlySortedBy name_cmp (keys_of es) → entries (from_entries {R = name_cmp} es) ≡ es
entries-from_entries es h = same_entries name_cmp names_total names_exact _ es (entries_sorted (from_entries es)) (is_sorted-from es h) (λ q. sym (get-entries (from_entries es) q) ∙ get-from_entries names_total es q)

-- ---- each entry is what is found under its name
greater : (x y : Name) → T (is_lt (name_cmp x y)) → eq_by_cmp name_cmp y x ≡ false
greater x y h =
    ap is_eq (names_total.antisymm y x)
    ∙ elim (name_cmp x y) as (λ r. T (is_lt r) → is_eq (ordering_reverse r) ≡ false) [ Less ↦ λ _. refl | Equal ↦ λ k. absurd k | Greater ↦ λ k. absurd k ] h

found_behind : (e : Name × Row) (fs es : List (Name × Row)) → T (below_all name_cmp e.0 es) → AllByRecursion (λ f. find name_cmp f.0 fs ≡ Some f.1) es → AllByRecursion (λ f. find name_cmp f.0 (e ∷ fs) ≡ Some f.1) es
found_behind e fs [] h k = tt
found_behind e fs (f ∷ es) h k =
    (ap (λ b. cond b (Some e.1) (find name_cmp f.0 fs)) (greater e.0 f.0 (both_first _ _ h)) ∙ k.0, found_behind e fs es (both_second _ _ h) k.1)

found : (es : List (Name × Row)) → T (is_sorted name_cmp es) → AllByRecursion (λ f. find name_cmp f.0 es ≡ Some f.1) es
found [] h = tt
found (e ∷ es) h =
    (ap (λ r. cond (is_eq r) (Some e.1) (find name_cmp e.0 es)) (tied_itself names_total e.0), found_behind e es es (both_first _ _ h) (found es (both_second _ _ h)))

got : (rows : Rows) (es : List (Name × Row)) → AllByRecursion (λ f. find name_cmp f.0 (entries rows) ≡ Some f.1) es → AllByRecursion (λ f. get rows f.0 ≡ Some f.1) es
got rows [] h = tt
got rows (e ∷ es) h = (get-entries rows e.0 ∙ h.0, got rows es h.1)

pub entries_found : (rows : Rows) → AllByRecursion (λ entry. get rows entry.0 ≡ Some entry.1) (entries rows)
entries_found rows = got rows (entries rows) (found (entries rows) (entries_sorted rows))

-- ---- what holds of each entry, as what holds of each row that is found
all_from : (P : Name × Row → Type 0) (rows : Rows) (es : List (Name × Row)) → ((q : Name) (row : Row) → get rows q ≡ Some row → P (q, row)) → AllByRecursion (λ entry. get rows entry.0 ≡ Some entry.1) es → AllByRecursion P es
all_from P rows [] h found = tt
all_from P rows (e ∷ es) h found = (h e.0 e.1 found.0, all_from P rows es h found.1)

pub all_from_gets : (P : Name × Row → Type 0) (rows : Rows) → ((q : Name) (row : Row) → get rows q ≡ Some row → P (q, row)) → AllByRecursion P (entries rows)
all_from_gets P rows h = all_from P rows (entries rows) h (entries_found rows)

pub all_find : (P : Name × Row → Type 0) (q : Name) (row : Row) (es : List (Name × Row)) → AllByRecursion P es → find name_cmp q es ≡ Some row → P (q, row)
all_find P q row [] h is = absurd (none-some row is)
all_find P q row (e ∷ es) h is =
    elim (name_cmp q e.0) as (λ r. name_cmp q e.0 ≡ r → cond (is_eq r) (Some e.1) (find name_cmp q es) ≡ Some row → P (q, row)) [
      | Less ↦ λ t is. all_find P q row es h.1 is
      | Equal ↦ λ t is. subst (λ (x : Row). P (q, x)) (same_Some e.1 row is) (subst (λ (x : Name). P (x, e.1)) (sym (names_exact _ _ t)) h.0)
      | Greater ↦ λ t is. all_find P q row es h.1 is
    ] refl is

pub all_gets : (P : Name × Row → Type 0) (rows : Rows) (q : Name) (row : Row) → AllByRecursion P (entries rows) → get rows q ≡ Some row → P (q, row)
all_gets P rows q row h is = all_find P q row (entries rows) h (sym (get-entries rows q) ∙ is)

some_where : (b : Bool) (o : Option Row) (row : Row) → cond b None o ≡ Some row → o ≡ Some row
some_where true o row is = absurd (none-some row is)
some_where false o row is = is

pub all-remove : (P : Name × Row → Type 0) (rows : Rows) (name : Name) → AllByRecursion P (entries rows) → AllByRecursion P (entries (remove rows name))
all-remove P rows name h = all_from_gets P (remove rows name) (λ q row is. all_gets P rows q row h (some_where _ _ row (sym (get-remove names_total rows name q) ∙ is)))

-- nothing is found under a name below all
pub none_below : (q : Name) (es : List (Name × Row)) → T (below_all name_cmp q es) → find name_cmp q es ≡ None
none_below q [] h = refl
none_below q (e ∷ es) h =
    elim (name_cmp q e.0) as (λ r. T (is_lt r) → cond (is_eq r) (Some e.1) (find name_cmp q es) ≡ None) [
      | Less ↦ λ _. none_below q es (both_second _ _ h)
      | Equal ↦ λ k. absurd k
      | Greater ↦ λ k. absurd k
    ] (both_first _ _ h)

pub below_more : (x y : Name) (es : List (Name × Row)) → name_cmp x y ≡ Less → T (below_all name_cmp y es) → T (below_all name_cmp x es)
below_more x y [] less h = tt
below_more x y (e ∷ es) less h =
    subst (λ r. T (is_lt r && below_all name_cmp x es)) (sym (names_total.trans x y e.0 less (is_less _ (both_first _ _ h)))) (below_more x y es less (both_second _ _ h))
