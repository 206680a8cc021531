-- Rows that a keeper may put in place of all others: those of pages that come one after the other, those that are no graves, and copies
-- with another number.
use Rattle.std.specs.List.{All, AllByRecursion, IsDistinct, list_all, list_any}
use Rattle.std.specs.Ordering.{eq_by_cmp}
use Rattle.std.specs.Prelude.{Decides, ◌≡◌, ◌==◌, ◌<◌, ◌≤◌, ◌&&◌, ◌||◌, ◌+◌, ℕ, ℤ, pos, ◌≤ℤ◌, ◌<ℤ◌, Bool, true, false, not, cond, is_ok, int_lt, IsTrue, List, [], ◌∷◌, ◌++◌, map, filter}
use Rattle.std.proofs.Common.{refl, sym, ap, subst, ◌∙◌, arith}
use Rattle.std.proofs.lemmas.Bool.{or_parts}
use Rattle.std.proofs.lemmas.Int.{ints}
use Rattle.std.proofs.lemmas.List.Elements.{All-from_recursion, recursion_from_All}
use Rattle.ak_base.proofs.RowFacts.{name_of-with_usn}
use Rattle.ak_base.specs.Names.{name_cmp, table_place}
use Rattle.ak_base.specs.Rows.{IsChecked, name_of, with_usn}
use Rattle.ak_base.specs.Heads.{IsHeadInRange}
use Rattle.ak_base.specs.declared.heads.Head.{Head}
use Rattle.ak_base.specs.declared.names.Name.{Name}
use Rattle.ak_base.specs.declared.names.Table.{Table}
use Rattle.ak_base.specs.declared.rows.Row.{Row}
use Rattle.ak_keep.proofs.RowsByName.{same_of_tied}
use Rattle.ak_keep.specs.Collections.{AscendsPast, is_past, last_id}
use Rattle.ak_keep.specs.declared.walks.Walk.{Walk}
use Rattle.ak_merge.proofs.CheckedRows.{checked_with_usn}
use Rattle.ak_merge.specs.Commits.{uploaded_rows}
use Rattle.ak_session.proofs.Ranges.{all_pass, not_both, passed}
use Rattle.ak_session.specs.Refusals.{has_twins, is_checked, same_names}
use Rattle.ak_session.specs.Uploads.{is_plain}
use Rattle.ak_transfers.specs.UploadParts.{MayBePut, MayBePutBefore}

abbrev same : Name → Name → Bool
same = eq_by_cmp name_cmp

-- a name is that of none of these rows
abbrev IsNoneOf : Name → List Row → Type 0
IsNoneOf name rows = AllByRecursion (λ (other : Name). same name other ≡ false) (map name_of rows)

-- no two of these rows share a name
abbrev AreApart : List Row → Type 0
AreApart rows = IsDistinct same (map name_of rows)

-- the same as `MayBePut`, said row by row
record Fit (rows : List Row) : Type 0 where
  checked : AllByRecursion IsChecked rows
  distinct : AreApart rows

fit : (rows : List Row) → MayBePut rows → Fit rows
fit rows may = record { checked = recursion_from_All IsChecked rows may.checked; distinct = may.distinct }

may_be : (rows : List Row) → Fit rows → MayBePut rows
may_be rows fits = record { checked = All-from_recursion IsChecked rows fits.checked; distinct = fits.distinct }

no_rows : AreApart []
unfolding IsDistinct
no_rows = tt

pub none_may : MayBePut []
none_may = may_be [] (record { checked = tt; distinct = no_rows })

-- ---- rows that are no graves
none_plain : (name : Name) (rows : List Row) → IsNoneOf name rows → IsNoneOf name (filter is_plain rows)
none_plain name [] none = tt
none_plain name (row ∷ more) none =
    elim (is_plain row) as (λ b. IsNoneOf name (cond b (row ∷ filter is_plain more) (filter is_plain more))) [
      | true ↦ (none.0, none_plain name more none.1)
      | false ↦ none_plain name more none.1
    ]

plain_apart : (rows : List Row) → AreApart rows → AreApart (filter is_plain rows)
unfolding IsDistinct
plain_apart [] apart = tt
plain_apart (row ∷ more) apart =
    elim (is_plain row) as (λ b. AreApart (cond b (row ∷ filter is_plain more) (filter is_plain more))) [
      | true ↦ (none_plain (name_of row) more apart.0, plain_apart more apart.1)
      | false ↦ plain_apart more apart.1
    ]

plain_checked : (rows : List Row) → AllByRecursion IsChecked rows → AllByRecursion IsChecked (filter is_plain rows)
plain_checked [] all = tt
plain_checked (row ∷ more) all =
    elim (is_plain row) as (λ b. AllByRecursion IsChecked (cond b (row ∷ filter is_plain more) (filter is_plain more))) [
      | true ↦ (all.0, plain_checked more all.1)
      | false ↦ plain_checked more all.1
    ]

pub plain_may : (rows : List Row) → MayBePut rows → MayBePut (filter is_plain rows)
plain_may rows may =
    let fits = fit rows may in
    may_be (filter is_plain rows) (record { checked = plain_checked rows fits.checked; distinct = plain_apart rows fits.distinct })

-- ---- rows with the number 0
abbrev zeroed : Row → Row
zeroed row = with_usn row (pos 0)

none_zeroed : (name : Name) (rows : List Row) → IsNoneOf name rows → IsNoneOf name (map zeroed rows)
none_zeroed name [] none = tt
none_zeroed name (row ∷ more) none =
    (ap (same name) (name_of-with_usn row (pos 0)) ∙ none.0, none_zeroed name more none.1)

zeroed_apart : (rows : List Row) → AreApart rows → AreApart (map zeroed rows)
unfolding IsDistinct
zeroed_apart [] apart = tt
zeroed_apart (row ∷ more) apart = (
  subst (λ (name : Name). IsNoneOf name (map zeroed more)) (sym (name_of-with_usn row (pos 0))) (none_zeroed (name_of row) more apart.0),
  zeroed_apart more apart.1,
)

zeroed_checked : (rows : List Row) → AllByRecursion IsChecked rows → AllByRecursion IsChecked (map zeroed rows)
zeroed_checked [] all = tt
zeroed_checked (row ∷ more) all =
    (checked_with_usn row (pos 0) (omega (arith, ints)) (omega (arith, ints)) all.0, zeroed_checked more all.1)

pub uploaded_may : (rows : List Row) → MayBePut rows → MayBePut (uploaded_rows rows)
uploaded_may rows may =
    let fits = fit (filter is_plain rows) (plain_may rows may) in
    may_be (uploaded_rows rows) (record {
      checked = zeroed_checked (filter is_plain rows) fits.checked;
      distinct = zeroed_apart (filter is_plain rows) fits.distinct;
    })

-- ---- pages
differ : (x y : Name) → (x ≡ y → ⊥) → same x y ≡ false
differ x y other =
    elim (same x y) as (λ b. same x y ≡ b → b ≡ false) [
      | true ↦ λ is. absurd (other (same_of_tied x y is))
      | false ↦ λ is. refl
    ] refl

other_table : (x y : Name) → table_place x.table < table_place y.table → x ≡ y → ⊥
other_table x y below is =
    let places : table_place x.table ≡ table_place y.table = ap (λ (n : Name). table_place n.table) is in
    omega (arith, below, places)

other_id : (x y : Name) → x.id <ℤ y.id → x ≡ y → ⊥
other_id x y below is =
    let ids : x.id ≡ y.id = ap (λ (n : Name). n.id) is in
    grind (arith, ints, below, ids)

-- a row of a table with an id past another
record IsPast (table : Table) (past : ℤ) (name : Name) : Type 0 where
  place : table_place name.table ≡ table_place table
  later : past <ℤ name.id

past_of : (table : Table) (past : ℤ) (name : Name) → IsTrue (is_past table past name) → IsPast table past name
past_of table past name is = by (table_place name.table == table_place table) (int_lt past name.id) refl refl is
  where
    by : (one two : Bool) → (table_place name.table == table_place table) ≡ one → int_lt past name.id ≡ two → IsTrue (one && two) → IsPast table past name
    by true true first second so = record { place = grind (arith, first); later = grind (arith, ints, second) }
    by true false first second so = absurd (grind (arith, so))
    by false two first second so = absurd (grind (arith, so))

-- each row of a page is past where it begins
all_past : (table : Table) (past : ℤ) (page : List Row) → AscendsPast table past page → AllByRecursion (λ (row : Row). IsPast table past (name_of row)) page
all_past table past [] ascends = tt
all_past table past (row ∷ more) ascends =
    let first = past_of table past (name_of row) ascends.0 in
    (first, further (name_of row).id more first.later (all_past table (name_of row).id more ascends.1))
  where
    further : (id : ℤ) (rows : List Row) → past <ℤ id → AllByRecursion (λ (row : Row). IsPast table id (name_of row)) rows
        → AllByRecursion (λ (row : Row). IsPast table past (name_of row)) rows
    further id [] low all = tt
    further id (row ∷ rows) low all =
        (record { place = all.0.place; later = let later = all.0.later in grind (arith, ints, low, later) }, further id rows low all.1)

none_later : (name : Name) (table : Table) (past : ℤ) (rows : List Row) → name.id ≤ℤ past
    → AllByRecursion (λ (row : Row). IsPast table past (name_of row)) rows → IsNoneOf name rows
none_later name table past [] low all = tt
none_later name table past (row ∷ rows) low all =
    let later = all.0.later in
    (differ name (name_of row) (other_id name (name_of row) (grind (arith, ints, low, later))), none_later name table past rows low all.1)

page_apart : (table : Table) (past : ℤ) (page : List Row) → AscendsPast table past page → AreApart page
unfolding IsDistinct
page_apart table past [] ascends = tt
page_apart table past (row ∷ more) ascends = (
  none_later (name_of row) table (name_of row).id more (omega (arith, ints)) (all_past table (name_of row).id more ascends.1),
  page_apart table (name_of row).id more ascends.1,
)

-- where a walk over a table has come: rows of the tables up to this place, and of this one with ids up to this
record IsPassed (place : ℕ) (past : ℤ) (name : Name) : Type 0 where
  table : table_place name.table ≤ place
  id : table_place name.table ≡ place → name.id ≤ℤ past

abbrev ArePassed : ℕ → ℤ → List Row → Type 0
ArePassed place past rows = AllByRecursion (λ (row : Row). IsPassed place past (name_of row)) rows

none_ahead : (name : Name) (table : Table) (past : ℤ) (page : List Row) → IsPassed (table_place table) past name
    → AllByRecursion (λ (row : Row). IsPast table past (name_of row)) page → IsNoneOf name page
none_ahead name table past [] passed all = tt
none_ahead name table past (row ∷ rows) passed all =
    (differ name (name_of row) other, none_ahead name table past rows passed all.1)
  where
    other : name ≡ name_of row → ⊥
    other is =
        let places : table_place name.table ≡ table_place (name_of row).table = ap (λ (n : Name). table_place n.table) is in
        let ids : name.id ≡ (name_of row).id = ap (λ (n : Name). n.id) is in
        let later = all.0.later in
        let low = passed.id (places ∙ all.0.place) in
        grind (arith, ints, ids, later, low)

none_then : (name : Name) (rows page : List Row) → IsNoneOf name rows → IsNoneOf name page → IsNoneOf name (rows ++ page)
none_then name [] page none more = more
none_then name (row ∷ rows) page none more = (none.0, none_then name rows page none.1 more)

apart_then : (table : Table) (past : ℤ) (rows page : List Row) → AreApart rows → ArePassed (table_place table) past rows
    → AllByRecursion (λ (row : Row). IsPast table past (name_of row)) page → AreApart page → AreApart (rows ++ page)
unfolding IsDistinct
apart_then table past [] page apart passed all more = more
apart_then table past (row ∷ rows) page apart passed all more = (
  none_then (name_of row) rows page apart.0 (none_ahead (name_of row) table past page passed.0 all),
  apart_then table past rows page apart.1 passed.1 all more,
)

checked_then : (rows page : List Row) → AllByRecursion IsChecked rows → AllByRecursion IsChecked page → AllByRecursion IsChecked (rows ++ page)
checked_then [] page all more = more
checked_then (row ∷ rows) page all more = (all.0, checked_then rows page all.1 more)

last_is_high : (table : Table) (past : ℤ) (page : List Row) → AscendsPast table past page → past ≤ℤ last_id past page
last_is_high table past [] ascends = omega (arith, ints)
last_is_high table past (row ∷ more) ascends =
    let first = (past_of table past (name_of row) ascends.0).later in
    let rest = last_is_high table (name_of row).id more ascends.1 in
    grind (arith, ints, first, rest)

page_passed : (table : Table) (past : ℤ) (page : List Row) → AscendsPast table past page → ArePassed (table_place table) (last_id past page) page
page_passed table past [] ascends = tt
page_passed table past (row ∷ more) ascends = (
  record {
    table = let place = (past_of table past (name_of row) ascends.0).place in omega (arith, place);
    id = λ is. last_is_high table (name_of row).id more ascends.1;
  },
  page_passed table (name_of row).id more ascends.1,
)

passed_on : (place : ℕ) (past last : ℤ) (rows : List Row) → past ≤ℤ last → ArePassed place past rows → ArePassed place last rows
passed_on place past last [] low all = tt
passed_on place past last (row ∷ rows) low all = (
  record { table = all.0.table; id = λ is. let own = all.0.id is in grind (arith, ints, own, low) },
  passed_on place past last rows low all.1,
)

passed_then : (place : ℕ) (past : ℤ) (rows page : List Row) → ArePassed place past rows → ArePassed place past page → ArePassed place past (rows ++ page)
passed_then place past [] page all more = more
passed_then place past (row ∷ rows) page all more = (all.0, passed_then place past rows page all.1 more)

-- ---- a walk
-- the rows that were read when a walk over a table has come so far; if it is not done, it goes on past this id
pub record AreRead (table : Table) (past : ℤ) (done : Bool) (rows : List Row) : Type 0 where
  pub may : MayBePut rows
  pub tables : AllByRecursion (λ (row : Row). table_place (name_of row).table ≤ table_place table) rows
  pub passed : done ≡ false → AllByRecursion (λ (row : Row). table_place (name_of row).table ≡ table_place table → (name_of row).id ≤ℤ past) rows

passed_by : (table : Table) (past : ℤ) (rows : List Row) → AllByRecursion (λ (row : Row). table_place (name_of row).table ≤ table_place table) rows
    → AllByRecursion (λ (row : Row). table_place (name_of row).table ≡ table_place table → (name_of row).id ≤ℤ past) rows → ArePassed (table_place table) past rows
passed_by table past [] tables ids = tt
passed_by table past (row ∷ rows) tables ids = (record { table = tables.0; id = ids.0 }, passed_by table past rows tables.1 ids.1)

tables_by : (place : ℕ) (past : ℤ) (rows : List Row) → ArePassed place past rows → AllByRecursion (λ (row : Row). table_place (name_of row).table ≤ place) rows
tables_by place past [] all = tt
tables_by place past (row ∷ rows) all = (all.0.table, tables_by place past rows all.1)

ids_by : (place : ℕ) (past : ℤ) (rows : List Row) → ArePassed place past rows
    → AllByRecursion (λ (row : Row). table_place (name_of row).table ≡ place → (name_of row).id ≤ℤ past) rows
ids_by place past [] all = tt
ids_by place past (row ∷ rows) all = (all.0.id, ids_by place past rows all.1)

-- it begins
pub read_first : (table : Table) (past : ℤ) (done : Bool) (rows : List Row) → MayBePutBefore (table_place table) rows → AreRead table past done rows
read_first table past done rows before = record {
  may = before.may;
  tables = below rows before.before;
  passed = λ going. earlier rows before.before;
}
  where
    below : (list : List Row) → AllByRecursion (λ (row : Row). table_place (name_of row).table < table_place table) list
        → AllByRecursion (λ (row : Row). table_place (name_of row).table ≤ table_place table) list
    below [] all = tt
    below (row ∷ list) all = let low = all.0 in (omega (arith, low), below list all.1)

    earlier : (list : List Row) → AllByRecursion (λ (row : Row). table_place (name_of row).table < table_place table) list
        → AllByRecursion (λ (row : Row). table_place (name_of row).table ≡ table_place table → (name_of row).id ≤ℤ past) list
    earlier [] all = tt
    earlier (row ∷ list) all = (λ is. let low = all.0 in absurd (omega (arith, low, is)), earlier list all.1)

-- a page more was read
pub read_next : (table : Table) (past next : ℤ) (done : Bool) (rows page all : List Row) → AreRead table past false rows → AscendsPast table past page
    → All IsChecked page → (done ≡ false → next ≡ last_id past page) → all ≡ rows ++ page → AreRead table next done all
read_next table past next done rows page all read ascends checked onward is =
    subst (AreRead table next done) (sym is) (record {
      may = may_be (rows ++ page) (record {
        checked = checked_then rows page old.checked (recursion_from_All IsChecked page checked);
        distinct = apart_then table past rows page old.distinct before (all_past table past page ascends) (page_apart table past page ascends);
      });
      tables = tables_by (table_place table) (last_id past page) (rows ++ page) after;
      passed = λ going. subst (λ (id : ℤ). AllByRecursion (λ (row : Row). table_place (name_of row).table ≡ table_place table → (name_of row).id ≤ℤ id) (rows ++ page))
          (sym (onward going)) (ids_by (table_place table) (last_id past page) (rows ++ page) after);
    })
  where
    old : Fit rows
    old = fit rows read.may

    before : ArePassed (table_place table) past rows
    before = passed_by table past rows read.tables (read.passed refl)

    after : ArePassed (table_place table) (last_id past page) (rows ++ page)
    after = passed_then (table_place table) (last_id past page) rows page
        (passed_on (table_place table) past (last_id past page) rows (last_is_high table past page ascends) before) (page_passed table past page ascends)

-- it ends
pub read_last : (table : Table) (past : ℤ) (done : Bool) (rows : List Row) → AreRead table past done rows → MayBePutBefore (table_place table + 1) rows
read_last table past done rows read = record { may = read.may; before = below rows read.tables }
  where
    below : (list : List Row) → AllByRecursion (λ (row : Row). table_place (name_of row).table ≤ table_place table) list
        → AllByRecursion (λ (row : Row). table_place (name_of row).table < table_place table + 1) list
    below [] all = tt
    below (row ∷ list) all = let low = all.0 in (omega (arith, low), below list all.1)

-- ---- what the tests say
none_found : (row : Row) (rows : List Row) → list_any (same_names row) rows ≡ false → IsNoneOf (name_of row) rows
none_found row [] is = tt
none_found row (other ∷ more) is =
    let parts = or_parts (same_names row other) (list_any (same_names row) more) is in
    (parts.0, none_found row more parts.1)

found_none : (row : Row) (rows : List Row) → IsNoneOf (name_of row) rows → list_any (same_names row) rows ≡ false
found_none row [] none = refl
found_none row (other ∷ more) none = ap (λ (b : Bool). b || list_any (same_names row) more) none.0 ∙ found_none row more none.1

-- rows without twins have distinct names, and the other way round
pub no_twins : (rows : List Row) → has_twins same_names rows ≡ false → IsDistinct (eq_by_cmp name_cmp) (map name_of rows)
unfolding IsDistinct
no_twins [] is = tt
no_twins (row ∷ more) is =
    let parts = or_parts (list_any (same_names row) more) (has_twins same_names more) is in
    (none_found row more parts.0, no_twins more parts.1)

pub twinless : (rows : List Row) → IsDistinct (eq_by_cmp name_cmp) (map name_of rows) → has_twins same_names rows ≡ false
unfolding IsDistinct
twinless [] apart = refl
twinless (row ∷ more) apart = ap (λ (b : Bool). b || has_twins same_names more) (found_none row more apart.0) ∙ twinless more apart.1

-- rows that pass the test of each pass their checks, and the other way round
pub all_checked : (rows : List Row) → list_all is_checked rows ≡ true → All IsChecked rows
all_checked rows is = All-from_recursion IsChecked rows (all_pass IsChecked is_checked passed rows is)

pub checked_all : (rows : List Row) → All IsChecked rows → list_all is_checked rows ≡ true
checked_all rows all = by rows (recursion_from_All IsChecked rows all)
  where
    by : (list : List Row) → AllByRecursion IsChecked list → list_all is_checked list ≡ true
    by [] each = refl
    by (row ∷ more) each = ap (λ (b : Bool). b && list_all is_checked more) (ap is_ok each.0) ∙ by more each.1

-- what may be held: rows that pass their checks, no two of one name, under a head in its ranges
abbrev pub Holds : List Row → Head → Type 0
Holds rows head = All IsChecked rows × IsDistinct (eq_by_cmp name_cmp) (map name_of rows) × IsHeadInRange head

false_true : false ≡ true → ⊥
false_true is = grind (arith, is)

pub not_ranged : (rows : List Row) (head : Head) (b : Bool) → Decides b (IsHeadInRange head) → b ≡ false → Decides false (Holds rows head)
not_ranged rows head b says is = (λ no. absurd (false_true no), λ all. absurd (not_both (says.1 all.2) is))

pub not_checked : (rows : List Row) (head : Head) → list_all is_checked rows ≡ false → Decides false (Holds rows head)
not_checked rows head is = (λ no. absurd (false_true no), λ all. absurd (not_both (checked_all rows all.0) is))

pub held_or_twins : (rows : List Row) (head : Head) (found : Bool) → IsHeadInRange head → list_all is_checked rows ≡ true
    → found ≡ has_twins same_names rows → Decides (not found) (Holds rows head)
held_or_twins rows head true fits checked is = (λ no. absurd (false_true no), λ all. absurd (not_both (sym is) (twinless rows all.1)))
held_or_twins rows head false fits checked is = (λ yes. (all_checked rows checked, no_twins rows (sym is), fits), λ all. refl)

-- the same of a walk and its next page
pub walk_next : (table : Table) (old new : Walk) (rows page all : List Row) → old.done ≡ false → old.past.table ≡ table → AreRead table old.past.id old.done rows
    → AscendsPast old.past.table old.past.id page → All IsChecked page → (new.done ≡ false → new.past.id ≡ last_id old.past.id page) → all ≡ rows ++ page
    → AreRead table new.past.id new.done all
walk_next table old new rows page all going same read ascends checked onward is =
    read_next table old.past.id new.past.id new.done rows page all (subst (λ (b : Bool). AreRead table old.past.id b rows) going read)
    (subst (λ (t : Table). AscendsPast t old.past.id page) same ascends) checked onward is
