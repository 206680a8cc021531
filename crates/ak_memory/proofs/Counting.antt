-- How many places were not changed, and how many rows each table has.
use Rattle.std.specs.Prelude.{◌≡◌, ℕ, suc, ◌+◌, ◌-◌, ◌<◌, ◌≤◌, ◌==◌, Bool, true, false, T, cond, not, ◌&&◌, Option, Some, None, is_some, IfSome, List, [], ◌∷◌, filter, length, slice_index, slice_set}
use Rattle.std.proofs.Common.{refl, sym, ap, subst, ◌∙◌, arith}
use Rattle.std.proofs.lemmas.Option.{none-some, same_Some}
use Rattle.std.proofs.lemmas.List.{length-set, get_or-set_same, get_or-set_other}
use Rattle.std.specs.BTreeMap.{is_at, insert_entry}
use Rattle.std.specs.Cmp.{unsigned_Decides, eq_by_cmp_equiv}
use Rattle.std.specs.FinMap.{find, put, get, insert, remove, entries, entries_sorted, is_sorted, empty, get-entries, entries-insert, same_map, len-empty, len-entries}
use Rattle.std.specs.FinMap.Entries.{by_order}
use Rattle.std.specs.Global.{Box}
use Rattle.std.specs.Map.{keys_of, lookup, set_value, remove_entry}
use Rattle.std.specs.Ordering.{is_eq, match_ordering}
use Rattle.std.specs.declared.cmp.Ordering.TheVariants.{Less, Equal, Greater}
use Rattle.ak_base.proofs.NameOrder.{names_exact}
use Rattle.ak_base.specs.Names.{name_cmp, names_total, table_place}
use Rattle.ak_base.specs.declared.names.Name.{Name}
use Rattle.ak_base.specs.Rows.{name_of}
use Rattle.ak_base.specs.declared.names.Table.{Table}
use Rattle.ak_base.specs.declared.names.Table.TheVariants as tables
use Rattle.ak_base.specs.declared.rows.Row.{Row}
use Rattle.ak_keep.specs.Collections.{Rows, StandsUnderNames, row_count}
use Rattle.ak_keep.proofs.TablePlaces.{below_nine}
use Rattle.ak_keep.proofs.RowsByName.{both_first, both_second, same_of_tied, none_below, below_more, named-empty, named-insert, all-remove, IsNamed}
use Rattle.ak_memory.specs.HeldRows.{row_in}
use Rattle.ak_memory.specs.Indexes.{AreCounts, IsCounted}
use Rattle.ak_memory.specs.Places.{is_changed, one_if, row_at, row_under, rows_at, unchanged_count, with_under}
use Rattle.ak_memory.specs.declared.held_rows.Replacement.{Replacement}
use Rattle.ak_memory.specs.declared.places.Place.{Place}
use Rattle.ak_memory.specs.declared.versions.Version.{Version}
use Rattle.ak_memory.proofs.RowsUnder.{get-rows_at, get-with_under, rows_at-with, with_none}

-- ---- places that were not changed
length-cons_if : {X : Type 0} (b : Bool) (x : X) (xs : List X) → length (cond b (x ∷ xs) xs) ≡ one_if b + length xs
length-cons_if true x xs = omega arith
length-cons_if false x xs = omega arith

counted-cons : (e : Name × Place) (es : List (Name × Place)) → unchanged_count (e ∷ es) ≡ one_if (not (is_changed e.1)) + unchanged_count es
counted-cons e es = length-cons_if (not (is_changed e.1)) e (filter (λ (entry : Name × Place). not (is_changed entry.1)) es)

-- one place is another now
pub unchanged-set : (test : Name → Bool) (es : List (Name × Place)) (old new : Place) → lookup test es ≡ Some old
    → unchanged_count (set_value test es new) + one_if (not (is_changed old)) ≡ unchanged_count es + one_if (not (is_changed new))
unchanged-set test [] old new is = absurd (none-some old is)
unchanged-set test (e ∷ es) old new is =
    elim (test e.0) as (λ b. cond b (Some e.1) (lookup test es) ≡ Some old
    → unchanged_count (cond b ((e.0, new) ∷ es) (e ∷ set_value test es new)) + one_if (not (is_changed old)) ≡ unchanged_count (e ∷ es) + one_if (not (is_changed new))) [
      | true ↦ λ is.
          let same : one_if (not (is_changed e.1)) ≡ one_if (not (is_changed old)) = ap (λ (p : Place). one_if (not (is_changed p))) (same_Some e.1 old is) in
          omega (arith, same, counted-cons (e.0, new) es, counted-cons e es)
      | false ↦ λ is. let rest = unchanged-set test es old new is in omega (arith, rest, counted-cons e (set_value test es new), counted-cons e es)
    ] is

-- one place is gone
pub unchanged-remove : (test : Name → Bool) (es : List (Name × Place)) → unchanged_count (remove_entry test es) ≤ unchanged_count es
unchanged-remove test [] = omega arith
unchanged-remove test (e ∷ es) =
    elim (test e.0) as (λ b. unchanged_count (cond b es (e ∷ remove_entry test es)) ≤ unchanged_count (e ∷ es)) [
      | true ↦ omega (arith, counted-cons e es)
      | false ↦ let rest = unchanged-remove test es in omega (arith, rest, counted-cons e (remove_entry test es), counted-cons e es)
    ]

-- a changed place was added
pub unchanged-insert : (k : Name) (place : Place) (es : List (Name × Place)) → is_changed place ≡ true → lookup (is_at (name_cmp k)) es ≡ None
    → unchanged_count (insert_entry name_cmp es k place) ≡ unchanged_count es
unchanged-insert k place [] changed none = let h = counted-cons (k, place) [] in let n : one_if (not (is_changed place)) ≡ 0 = ap (λ b. one_if (not b)) changed in omega (arith, h, n)
unchanged-insert k place (e ∷ es) changed none =
    let more = insert_entry name_cmp es k place in
    let n : one_if (not (is_changed place)) ≡ 0 = ap (λ b. one_if (not b)) changed in
    elim (name_cmp k e.0) as (λ r. cond (is_eq r) (Some e.1) (lookup (is_at (name_cmp k)) es) ≡ None
    → unchanged_count (match_ordering r ((k, place) ∷ e ∷ es) ((e.0, place) ∷ es) (e ∷ more)) ≡ unchanged_count (e ∷ es)) [
      | Less ↦ λ _. omega (arith, counted-cons (k, place) (e ∷ es), n)
      | Equal ↦ λ none. absurd (none-some e.1 (sym none))
      | Greater ↦ λ none. let rest = unchanged-insert k place es changed none in omega (arith, rest, counted-cons e more, counted-cons e es)
    ] none

-- there are no more of them than places
pub unchanged-few : (es : List (Name × Place)) → unchanged_count es ≤ length es
unchanged-few [] = omega arith
unchanged-few (e ∷ es) =
    let rest = unchanged-few es in
    elim (is_changed e.1) as (λ b. length (cond (not b) (e ∷ filter (λ (entry : Name × Place). not (is_changed entry.1)) es) (filter (λ (entry : Name × Place). not (is_changed entry.1)) es)) ≤ suc (length es)) [
      | true ↦ omega (arith, rest)
      | false ↦ omega (arith, rest)
    ]

-- ---- rows of a table
-- a row under a name is one more, unless one is there
counted-put : (p : Name → Bool) (k : Name) (v : Row) (es : List (Name × Row)) → T (is_sorted name_cmp es)
    → length (filter p (keys_of (put name_cmp k v es))) + one_if (is_some (find name_cmp k es) && p k) ≡ length (filter p (keys_of es)) + one_if (p k)
counted-put p k v [] h = let e = length-cons_if (p k) k [] in omega (arith, e)
counted-put p k v (e ∷ es) h =
    let more = put name_cmp k v es in
    elim (name_cmp k e.0) as (λ r. name_cmp k e.0 ≡ r
    → length (filter p (keys_of (by_order r ((k, v) ∷ e ∷ es) ((e.0, v) ∷ es) (e ∷ more)))) + one_if (is_some (cond (is_eq r) (Some e.1) (find name_cmp k es)) && p k) ≡ length (filter p (keys_of (e ∷ es))) + one_if (p k)) [
      | Less ↦ λ is.
          let none : one_if (is_some (find name_cmp k es) && p k) ≡ 0 = ap (λ o. one_if (is_some o && p k)) (none_below k es (below_more k e.0 es is (both_first _ _ h))) in
          omega (arith, none, length-cons_if (p k) k (filter p (keys_of (e ∷ es))))
      | Equal ↦ λ _. refl
      | Greater ↦ λ _.
          let rest = counted-put p k v es (both_second _ _ h) in
          omega (arith, rest, length-cons_if (p e.0) e.0 (filter p (keys_of more)), length-cons_if (p e.0) e.0 (filter p (keys_of es)))
    ] refl

abbrev of_table : Table → Name → Bool
of_table table name = table_place name.table == table_place table

counted-insert : (table : Table) (rows : Rows) (name : Name) (row : Row) → row_count table (insert rows name row) + one_if (is_some (get rows name) && of_table table name) ≡ row_count table rows + one_if (of_table table name)
counted-insert table rows name row =
    ap (λ (es : List (Name × Row)). length (filter (of_table table) (keys_of es)) + one_if (is_some (get rows name) && of_table table name)) (entries-insert names_total rows name row)
    ∙ ap (λ (o : Option Row). length (filter (of_table table) (keys_of (put name_cmp name row (entries rows)))) + one_if (is_some o && of_table table name)) (get-entries rows name)
    ∙ counted-put (of_table table) name row (entries rows) (entries_sorted rows)

-- the same rows again, once the one that was taken out is put back
again : (b : Bool) (row : Row) (o : Option Row) → (b ≡ true → o ≡ Some row) → cond b (Some row) (cond b None o) ≡ o
again true row o h = sym (h refl)
again false row o h = refl

put_back : (rows : Rows) (name : Name) (row : Row) → get rows name ≡ Some row → insert (remove rows name) name row ≡ rows
put_back rows name row held = same_map names_total names_exact _ _ (λ q.
    get-with_under name (Some row) (remove rows name) q ∙ ap (cond (is_at (name_cmp name) q) (Some row)) (get-with_under name None rows q)
    ∙ again (is_at (name_cmp name) q) row (get rows q) (λ is. ap (get rows) (sym (same_of_tied name q is)) ∙ held))

none_where : (b : Bool) (o : Option Row) → b ≡ true → cond b None o ≡ None
none_where true o is = refl
none_where false o is = absurd (subst T (sym is) tt)

none_left : (rows : Rows) (name : Name) → get (remove rows name) name ≡ None
none_left rows name = get-with_under name None rows name ∙ none_where (is_at (name_cmp name) name) (get rows name) ((eq_by_cmp_equiv names_total).refl name)

counted-remove : (table : Table) (rows : Rows) (name : Name) (o : Option Row) → get rows name ≡ o → row_count table (remove rows name) + one_if (is_some o && of_table table name) ≡ row_count table rows
counted-remove table rows name None none = let e = ap (row_count table) (with_none name rows none) in omega (arith, e)
counted-remove table rows name (Some row) held =
    let less = remove rows name in
    let back = ap (row_count table) (put_back rows name row held) in
    let free : one_if (is_some (get less name) && of_table table name) ≡ 0 = ap (λ (o : Option Row). one_if (is_some o && of_table table name)) (none_left rows name) in
    let e = counted-insert table less name row in
    omega (arith, back, free, e)

-- how many rows a table has, after a row was put under a name or taken out there
counted-with : (table : Table) (rows : Rows) (name : Name) (o : Option Row) → row_count table (with_under name o rows) + one_if (is_some (get rows name) && of_table table name) ≡ row_count table rows + one_if (is_some o && of_table table name)
counted-with table rows name None = let e = counted-remove table rows name (get rows name) refl in omega (arith, e)
counted-with table rows name (Some row) = counted-insert table rows name row

-- ---- the numbers kept beside the rows
nothing_in : (es : List (Name × Row)) → length es ≡ 0 → es ≡ []
nothing_in [] is = refl
nothing_in (e ∷ es) is = absurd (omega (arith, is))

none_counted : (table : Table) → row_count table empty ≡ 0
none_counted table = ap (λ (es : List (Name × Row)). length (filter (of_table table) (keys_of es))) (nothing_in (entries empty) (sym (len-entries empty) ∙ len-empty name_cmp Row))

and_on : (b : Bool) → one_if (b && true) ≡ one_if b
and_on true = refl
and_on false = refl

and_off : (b : Bool) → one_if (b && false) ≡ 0
and_off true = refl
and_off false = refl

at_most_one : (b : Bool) → one_if b ≤ 1
at_most_one true = omega arith
at_most_one false = omega arith

-- a table has no more rows than there are places
few-rows : (table : Table) (version : Version) (es : List (Name × Place)) → row_count table (rows_at version es) ≤ length es
few-rows table version [] = let e = none_counted table in omega (arith, e)
few-rows table version (e ∷ es) =
    let rest = few-rows table version es in
    let one = counted-with table (rows_at version es) e.0 (row_at version e.1) in
    let more = at_most_one (is_some (row_at version e.1) && of_table table e.0) in
    omega (arith, rest, one, more)

pub counts-fit : (numbers : List ℕ) (version : Version) (es : List (Name × Place)) (table : Table) (n : ℕ) → AreCounts numbers (rows_at version es) → length es < n → slice_index numbers (table_place table) < n
counts-fit numbers version es table n are small = let count = are table in let few = few-rows table version es in omega (arith, count, few, small)

pub counts-held : (numbers : List ℕ) (rows : Rows) (name : Name) → AreCounts numbers rows → is_some (get rows name) ≡ true → 0 < slice_index numbers (table_place name.table)
counts-held numbers rows name are held =
    let p = table_place name.table in
    let count = are name.table in
    let gone = counted-remove name.table rows name (get rows name) refl in
    let one : one_if (is_some (get rows name) && of_table name.table name) ≡ 1 =
    ap (λ b. one_if (b && of_table name.table name)) held ∙ ap one_if ((unsigned_Decides p p).1 refl) in
    omega (arith, count, gone, one)

counted-at : (numbers : List ℕ) (table other : Table) (n : ℕ) → length numbers ≡ 9
    → slice_index (slice_set numbers (table_place table) n) (table_place other) ≡ cond (table_place table == table_place other) n (slice_index numbers (table_place other))
counted-at numbers table other n nine =
    elim (table_place table == table_place other) as (λ b. (table_place table == table_place other) ≡ b
    → slice_index (slice_set numbers (table_place table) n) (table_place other) ≡ cond b n (slice_index numbers (table_place other))) [
      | true ↦ λ is. subst (λ i. slice_index (slice_set numbers (table_place table) n) i ≡ n) ((unsigned_Decides _ _).0 is)
          (get_or-set_same numbers (table_place table) n 0 (omega (arith, nine, below_nine table)))
      | false ↦ λ is. get_or-set_other numbers (table_place table) (table_place other) n 0 (λ e. subst T (sym ((unsigned_Decides (table_place table) (table_place other)).1 (sym e)) ∙ is) tt)
    ] refl

-- the numbers after a row was put under a name, or taken out there
counts-with : (numbers next : List ℕ) (rows : Rows) (name : Name) (o : Option Row) (held holds : Bool) → AreCounts numbers rows → held ≡ is_some (get rows name) → holds ≡ is_some o → length numbers ≡ 9
    → next ≡ slice_set numbers (table_place name.table) (slice_index numbers (table_place name.table) + one_if holds - one_if held) → AreCounts next (with_under name o rows)
counts-with numbers next rows name o held holds are was is nine set other =
    let p = table_place name.table in
    let q = table_place other in
    let after = row_count other (with_under name o rows) in
    let one : after + one_if (held && (p == q)) ≡ row_count other rows + one_if (holds && (p == q)) =
    ap (λ b. after + one_if (b && (p == q))) was ∙ counted-with other rows name o ∙ ap (λ b. row_count other rows + one_if (b && (p == q))) (sym is) in
    let h = are other in
    ap (λ ns. slice_index ns q) set ∙ counted-at numbers name.table other (slice_index numbers p + one_if holds - one_if held) nine
    ∙ elim (p == q) as (λ b. (p == q) ≡ b → after + one_if (held && b) ≡ row_count other rows + one_if (holds && b) → cond b (slice_index numbers p + one_if holds - one_if held) (slice_index numbers q) ≡ after) [
      | true ↦ λ is one.
          let same = ap (slice_index numbers) ((unsigned_Decides p q).0 is) in
          omega (arith, one, same, h, and_on held, and_on holds)
      | false ↦ λ _ one. omega (arith, one, h, and_off held, and_off holds)
    ] refl one

no-counts : (table : Table) → slice_index (0 ∷ 0 ∷ 0 ∷ 0 ∷ 0 ∷ 0 ∷ 0 ∷ 0 ∷ 0 ∷ []) (table_place table) ≡ 0
no-counts tables.Note = refl
no-counts tables.Card = refl
no-counts tables.Review = refl
no-counts tables.NoteType = refl
no-counts tables.Deck = refl
no-counts tables.Options = refl
no-counts tables.NoteGrave = refl
no-counts tables.CardGrave = refl
no-counts tables.DeckGrave = refl

-- nothing is counted yet
pub counted-none : IsCounted (0 ∷ 0 ∷ 0 ∷ 0 ∷ 0 ∷ 0 ∷ 0 ∷ 0 ∷ 0 ∷ []) empty
counted-none = record { nine = refl; counts = λ table. no-counts table ∙ sym (none_counted table); named = named-empty }

-- a row under its own name, or none, keeps each row under its own name
named-with : (name : Name) (o : Option Row) (rows : Rows) → StandsUnderNames rows → IfSome o (λ row. name_of row ≡ name) → StandsUnderNames (with_under name o rows)
named-with name None rows named h = all-remove IsNamed rows name named
named-with name (Some row) rows named h = subst (λ (n : Name). StandsUnderNames (insert rows n row)) h (named-insert rows row named)

pub some_in : (row : Option (Box Replacement)) → is_some row ≡ is_some (row_in row)
some_in None = refl
some_in (Some row) = refl

-- a row was put under a name, or taken out there, and counted
pub counted-after : (numbers next : List ℕ) (v : Version) (es fs : List (Name × Place)) (name : Name) (o : Option Row) (held holds : Bool)
    → ((q : Name) → row_under v fs q ≡ cond (is_at (name_cmp name) q) o (row_under v es q)) → held ≡ is_some (row_under v es name) → holds ≡ is_some o → IfSome o (λ row. name_of row ≡ name) → IsCounted numbers (rows_at v es)
    → next ≡ slice_set numbers (table_place name.table) (slice_index numbers (table_place name.table) + one_if holds - one_if held) → IsCounted next (rows_at v fs)
counted-after numbers next v es fs name o held holds put was is named counted set =
    subst (IsCounted next) (sym (rows_at-with v es fs name o put))
    (record {
      nine = ap length set ∙ length-set numbers (table_place name.table) _ ∙ counted.nine;
      counts = counts-with numbers next (rows_at v es) name o held holds counted.counts (was ∙ ap is_some (sym (get-rows_at v es name))) is counted.nine set;
      named = named-with name o (rows_at v es) counted.named named;
    })
