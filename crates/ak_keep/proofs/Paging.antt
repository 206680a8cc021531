-- A page of a table: a run of the entries, and what comes after it.
use Rattle.std.specs.Prelude.{◌≡◌, ℕ, suc, ℤ, ◌<◌, ◌≤◌, None, Bool, true, false, T, cond, ◌&&◌, ◌==◌, int_lt, List, [], ◌∷◌, ◌++◌, map, filter, length, take, drop, get_or, min}
use Rattle.std.proofs.Common.{refl, sym, ap, subst, ◌∙◌, arith}
use Rattle.std.proofs.lemmas.Bool.{ne_eqb}
use Rattle.std.proofs.lemmas.List.{length-take, take-append-drop, take_all}
use Rattle.std.specs.BTreeMap.Range.{entries_between}
use Rattle.std.specs.Cmp.{ranked, unsigned_Decides, int_cmp_total, tied_itself, first_so, second_so}
use Rattle.std.specs.FinMap.{entries, entries_sorted, from_entries, is_sorted}
use Rattle.std.specs.FinMap.Entries.{below_all}
use Rattle.std.proofs.lemmas.List.Elements.{All-take, filter_passes}
use Rattle.std.specs.List.{All, AllByRecursion}
use Rattle.std.specs.List.Sorted.{IsStrictlySortedBy}
use Rattle.std.specs.Map.{keys_of}
use Rattle.std.specs.Ordering.{nat_cmp, int_cmp, is_lt, ordering_then}
use Rattle.std.specs.declared.cmp.Ordering.TheVariants.{Less, Equal, Greater}
use Rattle.std.specs.declared.ops.Bound.TheVariants.{Excluded, Unbounded}
use Rattle.ak_base.specs.Names.{name_cmp, table_place}
use Rattle.ak_base.specs.Rows.{name_of}
use Rattle.ak_base.specs.declared.names.Name.{Name}
use Rattle.ak_base.specs.declared.names.Table.{Table}
use Rattle.ak_base.specs.declared.rows.Row.{Row}
use Rattle.ak_keep.proofs.RowsByName.{both_first, both_second, is_less, is_sorted-from, entries-from_entries}
use Rattle.ak_keep.specs.Collections.{Rows, AscendsPast, StandsUnderNames, IsPageOf, is_past, rows_past, last_id}
use Rattle.ak_keep.specs.Pages.{first_run, is_picked}

-- the rows of a table among entries, with ids over `past`
abbrev pub picked : Table → ℤ → List (Name × Row) → List Row
picked table past es = map (λ (entry : Name × Row). entry.1) (filter (λ (entry : Name × Row). is_past table past entry.0) es)

pub any_picked : (rows : List Row) → filter (is_picked None) rows ≡ rows
any_picked [] = refl
any_picked (row ∷ rows) = ap (λ ys. row ∷ ys) (any_picked rows)

-- ---- numbers and names
and_false : (a b : Bool) → b ≡ false → (a && b) ≡ false
and_false true b is = is
and_false false b is = refl

no_first : (row : Row) (rows : List Row) → [] ≡ row ∷ rows → ⊥
no_first row rows is = let e : 0 ≡ suc (length rows) = ap length is in omega (arith, e)

same_first : {x y : Row} {xs ys : List Row} → x ∷ xs ≡ y ∷ ys → x ≡ y
same_first {x = x} is = ap (λ zs. get_or zs 0 x) is

same_rest : {x y : Row} {xs ys : List Row} → x ∷ xs ≡ y ∷ ys → xs ≡ ys
same_rest is = ap (drop 1) is

apart : (m n : ℕ) → n < m → (m == n) ≡ false
apart m n h = ne_eqb m n (λ is. omega (arith, is, h))

apart_too : (m n : ℕ) → m < n → (m == n) ≡ false
apart_too m n h = ne_eqb m n (λ is. omega (arith, is, h))

pub less_than : (a b : ℤ) → int_cmp a b ≡ Less → int_lt a b ≡ true
less_than a b =
    elim (int_lt a b) as (λ t. cond t Less (cond (int_lt b a) Greater Equal) ≡ Less → t ≡ true) [
      | true ↦ λ _. refl
      | false ↦ elim (int_lt b a) as (λ t. cond t Greater Equal ≡ Less → false ≡ true) [
        | true ↦ λ is. absurd (subst (λ r. T (is_lt r)) (sym is) tt)
        | false ↦ λ is. absurd (subst (λ r. T (is_lt r)) (sym is) tt)
      ]
    ]

pub compared_less : (a b : ℤ) → int_lt a b ≡ true → int_cmp a b ≡ Less
compared_less a b is = ap (λ t. cond t Less (cond (int_lt b a) Greater Equal)) is

pub int_chain : (a b c : ℤ) → int_lt a b ≡ true → int_lt b c ≡ true → int_lt a c ≡ true
int_chain a b c h k = less_than a c (int_cmp_total.trans a b c (compared_less a b h) (compared_less b c k))

not_below_itself : (a : ℤ) → int_lt a a ≡ false
not_below_itself a =
    elim (int_lt a a) as (λ t. int_lt a a ≡ t → t ≡ false) [
      | true ↦ λ is. absurd (subst (λ r. T (is_lt r)) (sym (compared_less a a is) ∙ tied_itself int_cmp_total a) tt)
      | false ↦ λ _. refl
    ] refl

-- a later name has a later table, or the same
tables_rise : (x y : Name) → T (is_lt (name_cmp x y)) → table_place x.table ≤ table_place y.table
tables_rise x y =
    let p = table_place x.table in
    let q = table_place y.table in
    elim (nat_cmp p q) as (λ r. nat_cmp p q ≡ r → T (is_lt (ordering_then r (int_cmp x.id y.id))) → p ≤ q) [
      | Less ↦ λ is _. let h : p < q = ranked p q Less (sym is) in omega (arith, h)
      | Equal ↦ λ is _. let h : p ≡ q = ranked p q Equal (sym is) in omega (arith, h)
      | Greater ↦ λ is h. absurd h
    ] refl

-- within a table, a later name has a later id
pub ids_rise : (table : Table) (x y : Name) → T (is_lt (name_cmp x y)) → (table_place x.table == table_place table) ≡ true → (table_place y.table == table_place table) ≡ true → int_lt x.id y.id ≡ true
ids_rise table x y below same also =
    let p = table_place x.table in
    let q = table_place y.table in
    let equal : p ≡ q = (unsigned_Decides p (table_place table)).0 same ∙ sym ((unsigned_Decides q (table_place table)).0 also) in
    elim (nat_cmp p q) as (λ r. nat_cmp p q ≡ r → T (is_lt (ordering_then r (int_cmp x.id y.id))) → int_lt x.id y.id ≡ true) [
      | Less ↦ λ is _. let h : p < q = ranked p q Less (sym is) in absurd (omega (arith, h, equal))
      | Equal ↦ λ is h. less_than x.id y.id (is_less _ h)
      | Greater ↦ λ is h. absurd h
    ] refl below

rises : {k m n : ℕ} → k < m → m ≤ n → k < n
rises h r = omega (arith, h, r)

-- none of a table comes after a name of a later one
none_later : (table : Table) (past : ℤ) (x : Name) (es : List (Name × Row)) → table_place table < table_place x.table → T (below_all name_cmp x es) → picked table past es ≡ []
none_later table past x [] later h = refl
none_later table past x (e ∷ es) later h =
    let rise = tables_rise x e.0 (both_first _ _ h) in
    subst (λ b. map (λ (entry : Name × Row). entry.1) (cond (b && int_lt past e.0.id) (e ∷ filter (λ (entry : Name × Row). is_past table past entry.0) es) (filter (λ (entry : Name × Row). is_past table past entry.0) es)) ≡ [])
    (sym (apart (table_place e.0.table) (table_place table) (rises later rise)))
    (none_later table past x es later (both_second _ _ h))

pub run-picked : (table : Table) (past : ℤ) (es : List (Name × Row)) → T (is_sorted name_cmp es)
    → first_run table (entries_between name_cmp (Excluded (record { table = table; id = past })) Unbounded es) ≡ picked table past es
run-picked table past [] h = refl
run-picked table past (e ∷ es) h =
    let t = table_place table in
    let p = table_place e.0.table in
    let between = entries_between name_cmp (Excluded (record { table = table; id = past })) Unbounded es in
    let passing = filter (λ (entry : Name × Row). is_past table past entry.0) es in
    let picks : first_run table between ≡ map (λ (entry : Name × Row). entry.1) passing = run-picked table past es (both_second _ _ h) in
    elim (nat_cmp t p) as (λ r. nat_cmp t p ≡ r
    → first_run table (cond (is_lt (ordering_then r (int_cmp past e.0.id)) && true) (e ∷ between) between)
    ≡ map (λ (entry : Name × Row). entry.1) (cond ((p == t) && int_lt past e.0.id) (e ∷ passing) passing)) [
      | Less ↦ λ is.
          let later : t < p = ranked t p Less (sym is) in
          subst (λ b. cond b (e.1 ∷ first_run table between) [] ≡ map (λ (entry : Name × Row). entry.1) (cond (b && int_lt past e.0.id) (e ∷ passing) passing))
          (sym (apart p t later)) (sym (none_later table past e.0 es later (both_first _ _ h)))
      | Equal ↦ λ is.
          let same : (p == t) ≡ true = (unsigned_Decides p t).1 (sym (ranked t p Equal (sym is))) in
          elim (int_lt past e.0.id) as (λ b. first_run table (cond (is_lt (cond b Less (cond (int_lt e.0.id past) Greater Equal)) && true) (e ∷ between) between)
          ≡ map (λ (entry : Name × Row). entry.1) (cond ((p == t) && b) (e ∷ passing) passing)) [
            | true ↦ subst (λ b. cond b (e.1 ∷ first_run table between) [] ≡ map (λ (entry : Name × Row). entry.1) (cond (b && true) (e ∷ passing) passing)) (sym same) (ap (λ ys. e.1 ∷ ys) picks)
            | false ↦ elim (int_lt e.0.id past) as (λ b. first_run table (cond (is_lt (cond b Greater Equal) && true) (e ∷ between) between)
                ≡ map (λ (entry : Name × Row). entry.1) (cond ((p == t) && false) (e ∷ passing) passing)) [
                  | true ↦ subst (λ b. first_run table between ≡ map (λ (entry : Name × Row). entry.1) (cond (b && false) (e ∷ passing) passing)) (sym same) picks
                  | false ↦ subst (λ b. first_run table between ≡ map (λ (entry : Name × Row). entry.1) (cond (b && false) (e ∷ passing) passing)) (sym same) picks
                ]
          ]
      | Greater ↦ λ is.
          let earlier : p < t = ranked t p Greater (sym is) in
          subst (λ b. first_run table between ≡ map (λ (entry : Name × Row). entry.1) (cond (b && int_lt past e.0.id) (e ∷ passing) passing))
          (sym (apart_too p t earlier)) picks
    ] refl

-- the page that a map's entries give
pub page_of_entries : (w : Row → Bool) (table : Table) (past : ℤ) (limit : ℕ) (es : List (Name × Row)) (page : List Row) → IsStrictlySortedBy name_cmp (keys_of es)
    → page ≡ take limit (filter w (first_run table (entries_between name_cmp (Excluded (record { table = table; id = past })) Unbounded es)))
    → page ≡ take limit (filter w (rows_past table past (from_entries es)))
page_of_entries w table past limit es page ordered is =
    is ∙ ap (λ xs. take limit (filter w xs)) (run-picked table past es (is_sorted-from es ordered) ∙ ap (picked table past) (sym (entries-from_entries es ordered)))

-- ---- what comes after a page
-- after a row of the table, what is past its id is what is past any lower id
same_picks : (table : Table) (past : ℤ) (x : Name) (es : List (Name × Row)) → T (below_all name_cmp x es) → (table_place x.table == table_place table) ≡ true → int_lt past x.id ≡ true → picked table x.id es ≡ picked table past es
same_picks table past x [] h same over = refl
same_picks table past x (e ∷ es) h same over =
    let rest = same_picks table past x es (both_second _ _ h) same over in
    let low = filter (λ (entry : Name × Row). is_past table past entry.0) es in
    let high = filter (λ (entry : Name × Row). is_past table x.id entry.0) es in
    elim (table_place e.0.table == table_place table) as (λ b. (table_place e.0.table == table_place table) ≡ b
    → map (λ (entry : Name × Row). entry.1) (cond (b && int_lt x.id e.0.id) (e ∷ high) high) ≡ map (λ (entry : Name × Row). entry.1) (cond (b && int_lt past e.0.id) (e ∷ low) low)) [
      | true ↦ λ also.
          let rise : int_lt x.id e.0.id ≡ true = ids_rise table x e.0 (both_first _ _ h) same also in
          let over_too : int_lt past e.0.id ≡ true = int_chain past x.id e.0.id over rise in
          subst (λ b. map (λ (entry : Name × Row). entry.1) (cond b (e ∷ high) high) ≡ map (λ (entry : Name × Row). entry.1) (cond (int_lt past e.0.id) (e ∷ low) low)) (sym rise)
          (subst (λ b. e.1 ∷ picked table x.id es ≡ map (λ (entry : Name × Row). entry.1) (cond b (e ∷ low) low)) (sym over_too) (ap (λ ys. e.1 ∷ ys) rest))
      | false ↦ λ other. rest
    ] refl

-- the first of the rows past an id has an id past it
first_is_past : (table : Table) (past : ℤ) (es : List (Name × Row)) (row : Row) (rows : List Row) → AllByRecursion (λ entry. name_of entry.1 ≡ entry.0) es
    → picked table past es ≡ row ∷ rows → is_past table past (name_of row) ≡ true
first_is_past table past [] row rows named is = absurd (no_first row rows is)
first_is_past table past (e ∷ es) row rows named is =
    elim (is_past table past e.0) as (λ b. is_past table past e.0 ≡ b
    → map (λ (entry : Name × Row). entry.1) (cond b (e ∷ filter (λ (entry : Name × Row). is_past table past entry.0) es) (filter (λ (entry : Name × Row). is_past table past entry.0) es)) ≡ row ∷ rows → is_past table past (name_of row) ≡ true) [
      | true ↦ λ passes is. ap (is_past table past) (ap name_of (sym (same_first is)) ∙ named.0) ∙ passes
      | false ↦ λ fails is. first_is_past table past es row rows named.1 is
    ] refl is

past_both : (b : Bool) (past mid id : ℤ) → int_lt past mid ≡ true → (b && int_lt past id) ≡ false → (b && int_lt mid id) ≡ false
past_both false past mid id over is = refl
past_both true past mid id over is =
    elim (int_lt mid id) as (λ t. int_lt mid id ≡ t → t ≡ false) [
      | true ↦ λ more. sym (int_chain past mid id over more) ∙ is
      | false ↦ λ _. refl
    ] refl

-- what follows the first of the rows past an id is what is past the first's own
first_and_rest : (table : Table) (past : ℤ) (es : List (Name × Row)) (row : Row) (rows : List Row) → T (is_sorted name_cmp es) → AllByRecursion (λ entry. name_of entry.1 ≡ entry.0) es
    → picked table past es ≡ row ∷ rows → picked table (name_of row).id es ≡ rows
first_and_rest table past [] row rows sorted named is = absurd (no_first row rows is)
first_and_rest table past (e ∷ es) row rows sorted named is =
    let low = filter (λ (entry : Name × Row). is_past table past entry.0) es in
    let high = filter (λ (entry : Name × Row). is_past table (name_of row).id entry.0) es in
    elim (is_past table past e.0) as (λ b. is_past table past e.0 ≡ b
    → map (λ (entry : Name × Row). entry.1) (cond b (e ∷ low) low) ≡ row ∷ rows → picked table (name_of row).id (e ∷ es) ≡ rows) [
      | true ↦ λ passes is.
          let name : name_of row ≡ e.0 = ap name_of (sym (same_first is)) ∙ named.0 in
          subst (λ (n : Name). picked table n.id (e ∷ es) ≡ rows) (sym name)
          (subst (λ b. map (λ (entry : Name × Row). entry.1) (cond b (e ∷ filter (λ (entry : Name × Row). is_past table e.0.id entry.0) es) (filter (λ (entry : Name × Row). is_past table e.0.id entry.0) es)) ≡ rows)
          (sym (and_false _ _ (not_below_itself e.0.id)))
          (same_picks table past e.0 es (both_first _ _ sorted) (first_so _ _ passes) (second_so _ _ passes) ∙ same_rest is))
      | false ↦ λ fails is.
          let over : int_lt past (name_of row).id ≡ true = second_so _ _ (first_is_past table past es row rows named.1 is) in
          subst (λ b. map (λ (entry : Name × Row). entry.1) (cond b (e ∷ high) high) ≡ rows)
          (sym (past_both _ past (name_of row).id e.0.id over fails))
          (first_and_rest table past es row rows (both_second _ _ sorted) named.1 is)
    ] refl is

-- the rows past an id are any first part of them, and then what is past the last of the part
pub rows_past-append : (table : Table) (past : ℤ) (rows : Rows) (front rest : List Row) → StandsUnderNames rows → rows_past table past rows ≡ front ++ rest → rest ≡ rows_past table (last_id past front) rows
rows_past-append table past rows [] rest named is = sym is
rows_past-append table past rows (row ∷ front) rest named is =
    rows_past-append table (name_of row).id rows front rest named (first_and_rest table past (entries rows) row (front ++ rest) (entries_sorted rows) named is)

-- they ascend, and so does any first part of them
pub rows_past-ascend : (table : Table) (past : ℤ) (rows : Rows) (front rest : List Row) → StandsUnderNames rows → rows_past table past rows ≡ front ++ rest → AscendsPast table past front
rows_past-ascend table past rows [] rest named is = tt
rows_past-ascend table past rows (row ∷ front) rest named is = (
  first_is_past table past (entries rows) row (front ++ rest) named is,
  rows_past-ascend table (name_of row).id rows front rest named (first_and_rest table past (entries rows) row (front ++ rest) (entries_sorted rows) named is),
)

pub page_ascends : (table : Table) (past : ℤ) (rows : Rows) (page : List Row) (limit : ℕ) → StandsUnderNames rows → page ≡ take limit (rows_past table past rows) → AscendsPast table past page
page_ascends table past rows page limit named is =
    rows_past-ascend table past rows page (drop limit (rows_past table past rows)) named
    (sym (take-append-drop limit (rows_past table past rows)) ∙ ap (λ ys. ys ++ drop limit (rows_past table past rows)) (sym is))

-- a page that is not full is all that there is
pub page_whole : (all page : List Row) (limit : ℕ) → page ≡ take limit all → length page < limit → all ≡ page
page_whole all page limit is short =
    let few : min limit (length all) < limit = subst (λ n. n < limit) (ap length is ∙ length-take limit all) short in
    sym (is ∙ take_all limit all (omega (arith, few)))

-- after any page comes what is past its last row
pub page_rest : (table : Table) (past : ℤ) (rows : Rows) (page : List Row) (limit : ℕ) → StandsUnderNames rows → page ≡ take limit (rows_past table past rows) → rows_past table past rows ≡ page ++ rows_past table (last_id past page) rows
page_rest table past rows page limit named is =
    let parts : rows_past table past rows ≡ page ++ drop limit (rows_past table past rows) = sym (take-append-drop limit (rows_past table past rows)) ∙ ap (λ ys. ys ++ drop limit (rows_past table past rows)) (sym is) in
    parts ∙ ap (λ ys. page ++ ys) (rows_past-append table past rows page (drop limit (rows_past table past rows)) named parts)

-- ---- the wanted rows past an id
past_too : (table : Table) (past mid : ℤ) (name : Name) → int_lt past mid ≡ true → is_past table mid name ≡ true → is_past table past name ≡ true
past_too table past mid name over is =
    ap (λ b. b && int_lt past name.id) (first_so _ _ is) ∙ int_chain past mid name.id over (second_so _ _ is)

-- they are any first part of them, and then what is past the last of the part
pub wanted-append : (w : Row → Bool) (table : Table) (past : ℤ) (rows : Rows) (xs front rest : List Row) → StandsUnderNames rows → rows_past table past rows ≡ xs → filter w xs ≡ front ++ rest
    → rest ≡ filter w (rows_past table (last_id past front) rows)
wanted-append w table past rows xs [] rest named is parts = sym parts ∙ ap (filter w) (sym is)
wanted-append w table past rows [] (row ∷ front) rest named is parts = absurd (no_first row (front ++ rest) parts)
wanted-append w table past rows (x ∷ xs) (row ∷ front) rest named is parts =
    let behind = first_and_rest table past (entries rows) x xs (entries_sorted rows) named is in
    elim (w x) as (λ b. cond b (x ∷ filter w xs) (filter w xs) ≡ row ∷ (front ++ rest) → rest ≡ filter w (rows_past table (last_id (name_of row).id front) rows)) [
      | true ↦ λ parts.
          subst (λ (r : Row). rest ≡ filter w (rows_past table (last_id (name_of r).id front) rows)) (same_first parts)
          (wanted-append w table (name_of x).id rows xs front rest named behind (same_rest parts))
      | false ↦ λ parts. wanted-append w table (name_of x).id rows xs (row ∷ front) rest named behind parts
    ] parts

-- they ascend, and so does any first part of them
pub wanted-ascend : (w : Row → Bool) (table : Table) (past : ℤ) (rows : Rows) (xs front rest : List Row) → StandsUnderNames rows → rows_past table past rows ≡ xs → filter w xs ≡ front ++ rest
    → AscendsPast table past front
wanted-ascend w table past rows xs [] rest named is parts = tt
wanted-ascend w table past rows [] (row ∷ front) rest named is parts = absurd (no_first row (front ++ rest) parts)
wanted-ascend w table past rows (x ∷ xs) (row ∷ front) rest named is parts =
    let behind = first_and_rest table past (entries rows) x xs (entries_sorted rows) named is in
    let passes : is_past table past (name_of x) ≡ true = first_is_past table past (entries rows) x xs named is in
    elim (w x) as (λ b. cond b (x ∷ filter w xs) (filter w xs) ≡ row ∷ (front ++ rest) → (is_past table past (name_of row) ≡ true) × AscendsPast table (name_of row).id front) [
      | true ↦ λ parts.
          subst (λ (r : Row). (is_past table past (name_of r) ≡ true) × AscendsPast table (name_of r).id front) (same_first parts)
          (passes, wanted-ascend w table (name_of x).id rows xs front rest named behind (same_rest parts))
      | false ↦ λ parts.
          let later = wanted-ascend w table (name_of x).id rows xs (row ∷ front) rest named behind parts in
          (past_too table past (name_of x).id (name_of row) (second_so _ _ passes) later.0, later.1)
    ] parts

whole_of : (limit : ℕ) (all page : List Row) → page ≡ take limit all → all ≡ page ++ drop limit all
whole_of limit all page is = sym (take-append-drop limit all) ∙ ap (λ ys. ys ++ drop limit all) (sym is)

pub wanted_page : (w : Row → Bool) (table : Table) (past : ℤ) (rows : Rows) (limit : ℕ) (page : List Row) → StandsUnderNames rows → page ≡ take limit (filter w (rows_past table past rows))
    → IsPageOf (λ p. filter w (rows_past table p rows)) past limit page
wanted_page w table past rows limit page named is =
    let all = filter w (rows_past table past rows) in
    let parts = whole_of limit all page is in
    record {
      rows = is;
      whole = page_whole all page limit is;
      rest = parts ∙ ap (λ ys. page ++ ys) (wanted-append w table past rows (rows_past table past rows) page (drop limit all) named refl parts);
    }

pub wanted_page-ascends : (w : Row → Bool) (table : Table) (past : ℤ) (rows : Rows) (limit : ℕ) (page : List Row) → StandsUnderNames rows → page ≡ take limit (filter w (rows_past table past rows)) → AscendsPast table past page
wanted_page-ascends w table past rows limit page named is =
    let all = filter w (rows_past table past rows) in
    wanted-ascend w table past rows (rows_past table past rows) page (drop limit all) named refl (whole_of limit all page is)

pub page_passes : (w : Row → Bool) (limit : ℕ) (xs page : List Row) → page ≡ take limit (filter w xs) → All (λ row. w row ≡ true) page
page_passes w limit xs page is = subst (All (λ row. w row ≡ true)) (sym is) (All-take (λ row. w row ≡ true) limit (filter w xs) (filter_passes w xs))
