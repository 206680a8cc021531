-- Rows that were settled under some names: what stands under each name then, that it makes no difference whether rows came before or after,
-- and which rows are still to be sent.
use Rattle.std.specs.Cmp.{eq_by_cmp_equiv, signed_Decides}
use Rattle.std.specs.FinMap.{find, get, insert, entries, entries_sorted, is_sorted, same_map, get-insert, get-entries}
use Rattle.std.specs.FinMap.Entries.{below_all, same_entries}
use Rattle.std.specs.List.{AllByRecursion}
use Rattle.std.specs.Map.{keys_of}
use Rattle.std.specs.Option.{option_map, option_map_or}
use Rattle.std.specs.Ordering.{int_eq, is_lt}
use Rattle.std.specs.Prelude.{◌≡◌, ◌≢◌, ℤ, pos, negsuc, ◌≤ℤ◌, ◌<ℤ◌, ◌==◌, ◌||◌, ◌&&◌, Bool, true, false, T, not, cond, int_lt, if◌then◌else◌, List, [], ◌∷◌, ◌++◌, map, filter, length, Option, Some, None, ⊤}
use Rattle.std.proofs.Common.{refl, sym, ap, subst, ◌∙◌, arith}
use Rattle.std.proofs.lemmas.Int.{ints}
use Rattle.std.proofs.lemmas.List.Elements.{filter-append}
use Rattle.ak_base.proofs.NameOrder.{names_exact}
use Rattle.ak_base.proofs.RowFacts.{usn_of-with_usn}
use Rattle.ak_base.specs.Names.{name_cmp, names_total, table_place}
use Rattle.ak_base.specs.Rows.{name_of, stamp_of, with_usn}
use Rattle.ak_base.specs.Tables.{graves_of}
use Rattle.ak_base.specs.declared.names.Name.{Name}
use Rattle.ak_base.specs.declared.names.Table.{Table}
use Rattle.ak_base.specs.declared.names.Table.TheVariants as tables
use Rattle.ak_base.specs.declared.rows.Row.{Row}
use Rattle.ak_device.specs.Settlings.{names_of, settled_at, settled_under}
use Rattle.ak_keep.proofs.RowsByName.{all_from_gets, same_of_tied}
use Rattle.ak_keep.specs.Collections.{AscendsPast, Rows, is_past, is_pending, row_count, wanted_past}
use Rattle.ak_keep.specs.Graves.{grave_under}
use Rattle.ak_keep.specs.declared.keepers.Wanted.TheVariants.{Unsent}
use Rattle.ak_merge.proofs.PartLaws.{numbered_again}
use Rattle.ak_merge.proofs.TakingLaws.{all_taken_at, beats_numberless, grave_in, is_name, newest_in, received, received_by}
use Rattle.ak_merge.specs.Exchanges.{settled}
use Rattle.ak_merge.specs.Holdings.{AreNamed}
use Rattle.ak_merge.specs.Takings.{all_taken, beats}
use Rattle.ak_merge.specs.declared.sides.Side.{Side}
use Rattle.ak_session.specs.Slices.{wanted_of}
use Rattle.ak_sync_rows.specs.Chunks.{ahead_of, rows_after}

-- ---- what stands under a name
-- whether a name is one of these
abbrev pub is_among : List Name → Name → Bool
is_among [] name = false
is_among (other ∷ more) name = is_name name other || is_among more name

-- what stands there, settled or as it is
abbrev pub settled_if : ℤ → Bool → Option Row → Option Row
settled_if usn b o = if b then option_map (settled usn) o else o

-- a row that has the number is settled
settled_own : (usn : ℤ) (row : Row) → settled usn (with_usn row usn) ≡ with_usn row usn
settled_own usn row =
    elim (is_pending (with_usn row usn)) as (λ b. (if b then with_usn (with_usn row usn) usn else with_usn row usn) ≡ with_usn row usn) [
      | true ↦ numbered_again row usn usn
      | false ↦ refl
    ]

settled_twice : (usn : ℤ) (row : Row) → settled usn (settled usn row) ≡ settled usn row
settled_twice usn row =
    elim (is_pending row) as (λ b. is_pending row ≡ b → settled usn (if b then with_usn row usn else row) ≡ (if b then with_usn row usn else row)) [
      | true ↦ λ _. settled_own usn row
      | false ↦ λ is. ap (λ b. if b then with_usn row usn else row) is
    ] refl

again : (usn : ℤ) (o : Option Row) → option_map (settled usn) (option_map (settled usn) o) ≡ option_map (settled usn) o
again usn None = refl
again usn (Some row) = ap (λ (r : Row). Some r) (settled_twice usn row)

one_cell : (usn : ℤ) (name : Name) (held : Rows) (q : Name) → get (settled_at usn name held) q ≡ settled_if usn (is_name q name) (get held q)
one_cell usn name held q = by (get held name) refl
  where
    none : get held name ≡ None → (b : Bool) → is_name q name ≡ b → get held q ≡ settled_if usn b (get held q)
    none is true same =
        let at : get held q ≡ None = ap (get held) (same_of_tied q name same) ∙ is in
        at ∙ sym (ap (option_map (settled usn)) at)
    none is false apart = refl

    some : (row : Row) → get held name ≡ Some row → (b : Bool) → is_name q name ≡ b
        → (if b then Some (settled usn row) else get held q) ≡ settled_if usn b (get held q)
    some row is true same = sym (ap (option_map (settled usn)) (ap (get held) (same_of_tied q name same) ∙ is))
    some row is false apart = refl

    by : (o : Option Row) → get held name ≡ o
        → get (option_map_or (λ (row : Row). insert held name (settled usn row)) o held) q ≡ settled_if usn (is_name q name) (get held q)
    by None is = none is (is_name q name) refl
    by (Some row) is = get-insert names_total held name (settled usn row) q ∙ some row is (is_name q name) refl

pub all_cells : (usn : ℤ) (names : List Name) (held : Rows) (q : Name) → get (settled_under usn names held) q ≡ settled_if usn (is_among names q) (get held q)
all_cells usn [] held q = refl
all_cells usn (name ∷ more) held q =
    all_cells usn more (settled_at usn name held) q
    ∙ ap (settled_if usn (is_among more q)) (one_cell usn name held q)
    ∙ both (is_name q name) (is_among more q)
  where
    both : (a b : Bool) → settled_if usn b (settled_if usn a (get held q)) ≡ settled_if usn (a || b) (get held q)
    both true true = again usn (get held q)
    both true false = refl
    both false true = refl
    both false false = refl

-- two lists of names, one after the other
pub settled_append : (usn : ℤ) (one two : List Name) (held : Rows) → settled_under usn (one ++ two) held ≡ settled_under usn two (settled_under usn one held)
settled_append usn [] two held = refl
settled_append usn (name ∷ more) two held = settled_append usn more two (settled_at usn name held)

-- ---- before or after rows came
beats_settled : (side : Side) (usn : ℤ) (x y : Row) → beats side (stamp_of (settled usn x)) y ≡ beats side (stamp_of x) y
beats_settled side usn x y = elim (is_pending x) as (λ b. beats side (stamp_of (if b then with_usn x usn else x)) y ≡ beats side (stamp_of x) y) [ true ↦ beats_numberless side x y usn | false ↦ refl ]

received_settled : (side : Side) (usn : ℤ) (x y : Option Row) → received side usn (option_map (settled usn) x) y ≡ option_map (settled usn) (received side usn x y)
received_settled side usn None None = refl
received_settled side usn None (Some y) = ap (λ (r : Row). Some r) (sym (settled_own usn y))
received_settled side usn (Some x) None = refl
received_settled side usn (Some x) (Some y) =
    ap (λ (b : Bool). if b then Some (with_usn y usn) else Some (settled usn x)) (beats_settled side usn x y)
    ∙ by (beats side (stamp_of x) y)
  where
    by : (b : Bool) → (if b then Some (with_usn y usn) else Some (settled usn x)) ≡ option_map (settled usn) (if b then Some (with_usn y usn) else Some x)
    by true = ap (λ (r : Row). Some r) (sym (settled_own usn y))
    by false = refl

received_if : (side : Side) (usn : ℤ) (a : Bool) (x y : Option Row) → received side usn (settled_if usn a x) y ≡ settled_if usn a (received side usn x y)
received_if side usn true x y = received_settled side usn x y
received_if side usn false x y = refl

-- a grave that is held lets nothing in, settled or not
cell_if : (side : Side) (usn : ℤ) (a b : Bool) (x g y h : Option Row)
    → received_by side usn (settled_if usn a x) (settled_if usn b g) y h ≡ settled_if usn a (received_by side usn x g y h)
cell_if side usn true b x g y (Some h) = refl
cell_if side usn false b x g y (Some h) = refl
cell_if side usn a true x (Some g) y None = refl
cell_if side usn a false x (Some g) y None = refl
cell_if side usn a true x None y None = received_if side usn a x y
cell_if side usn a false x None y None = received_if side usn a x y

grave_if : (usn : ℤ) (names : List Name) (held : Rows) (name : Name) (graves : Option Table)
    → (b : Bool) × (grave_in (get (settled_under usn names held)) name graves ≡ settled_if usn b (grave_in (get held) name graves))
grave_if usn names held name None = (false, refl)
grave_if usn names held name (Some table) =
    (is_among names (record { table = table; id = name.id }), all_cells usn names held (record { table = table; id = name.id }))

pub takings_settle : (side : Side) (usn : ℤ) (came : List Row) (names : List Name) (held : Rows)
    → all_taken side usn came (settled_under usn names held) ≡ settled_under usn names (all_taken side usn came held)
takings_settle side usn came names held =
    same_map names_total names_exact (all_taken side usn came (settled_under usn names held)) (settled_under usn names (all_taken side usn came held)) each
  where
    each : (q : Name) → get (all_taken side usn came (settled_under usn names held)) q ≡ get (settled_under usn names (all_taken side usn came held)) q
    each q =
        let grave = grave_if usn names held q (graves_of q.table) in
        all_taken_at side usn came (settled_under usn names held) q
        ∙ ap (λ (o : Option Row). received_by side usn o (grave_under (get (settled_under usn names held)) q) (newest_in side came q) (grave_under (newest_in side came) q))
        (all_cells usn names held q)
        ∙ ap (λ (o : Option Row). received_by side usn (settled_if usn (is_among names q) (get held q)) o (newest_in side came q) (grave_under (newest_in side came) q))
        grave.1
        ∙ cell_if side usn (is_among names q) grave.0 (get held q) (grave_under (get held) q) (newest_in side came q) (grave_under (newest_in side came) q)
        ∙ ap (settled_if usn (is_among names q)) (sym (all_taken_at side usn came held q))
        ∙ sym (all_cells usn names (all_taken side usn came held) q)

-- ---- the entries
abbrev entry_if : ℤ → List Name → Name × Row → Name × Row
entry_if usn names entry = (entry.0, if is_among names entry.0 then settled usn entry.1 else entry.1)

abbrev all_if : ℤ → List Name → List (Name × Row) → List (Name × Row)
all_if usn names es = map (entry_if usn names) es

below_same : (usn : ℤ) (names : List Name) (x : Name) (es : List (Name × Row)) → below_all name_cmp x (all_if usn names es) ≡ below_all name_cmp x es
below_same usn names x [] = refl
below_same usn names x (e ∷ es) = ap (λ (b : Bool). is_lt (name_cmp x e.0) && b) (below_same usn names x es)

sorted_same : (usn : ℤ) (names : List Name) (es : List (Name × Row)) → is_sorted name_cmp (all_if usn names es) ≡ is_sorted name_cmp es
sorted_same usn names [] = refl
sorted_same usn names (e ∷ es) =
    ap (λ (b : Bool). b && is_sorted name_cmp (all_if usn names es)) (below_same usn names e.0 es)
    ∙ ap (λ (b : Bool). below_all name_cmp e.0 es && b) (sorted_same usn names es)

none_if : (usn : ℤ) (a : Bool) → None ≡ settled_if usn a None
none_if usn true = refl
none_if usn false = refl

some_if : (usn : ℤ) (a : Bool) (row : Row) → Some (if a then settled usn row else row) ≡ settled_if usn a (Some row)
some_if usn true row = refl
some_if usn false row = refl

found_if : (usn : ℤ) (names : List Name) (q : Name) (es : List (Name × Row)) → find name_cmp q (all_if usn names es) ≡ settled_if usn (is_among names q) (find name_cmp q es)
found_if usn names q [] = none_if usn (is_among names q)
found_if usn names q (e ∷ es) = by (found_if usn names q es) (is_name q e.0) refl
  where
    by : find name_cmp q (all_if usn names es) ≡ settled_if usn (is_among names q) (find name_cmp q es) → (b : Bool) → is_name q e.0 ≡ b
        → cond b (Some (if is_among names e.0 then settled usn e.1 else e.1)) (find name_cmp q (all_if usn names es))
        ≡ settled_if usn (is_among names q) (cond b (Some e.1) (find name_cmp q es))
    by later true same =
        some_if usn (is_among names e.0) e.1
        ∙ ap (λ (n : Name). settled_if usn (is_among names n) (Some e.1)) (sym (same_of_tied q e.0 same))
    by later false apart = later

pub entries_settled : (usn : ℤ) (names : List Name) (held : Rows) → entries (settled_under usn names held) ≡ all_if usn names (entries held)
entries_settled usn names held =
    same_entries name_cmp names_total names_exact (entries (settled_under usn names held)) (all_if usn names (entries held))
    (entries_sorted (settled_under usn names held))
    (subst T (sym (sorted_same usn names (entries held))) (entries_sorted held))
    (λ q. sym (get-entries (settled_under usn names held) q)
    ∙ all_cells usn names held q
    ∙ ap (settled_if usn (is_among names q)) (get-entries held q)
    ∙ sym (found_if usn names q (entries held)))

-- ---- what is still to be sent
pub not_unsent : (usn : ℤ) → pos 0 ≤ℤ usn → int_eq usn (negsuc 0) ≡ false
not_unsent usn low = by (int_eq usn (negsuc 0)) refl
  where
    by : (b : Bool) → int_eq usn (negsuc 0) ≡ b → b ≡ false
    by true is = let one : usn ≡ negsuc 0 = (signed_Decides usn (negsuc 0)).0 is in absurd (omega (arith, ints, one, low))
    by false is = refl

not_pending : (usn : ℤ) (row : Row) → pos 0 ≤ℤ usn → is_pending (settled usn row) ≡ false
not_pending usn row low =
    elim (is_pending row) as (λ b. is_pending row ≡ b → is_pending (if b then with_usn row usn else row) ≡ false) [
      | true ↦ λ _. ap (λ (n : ℤ). int_eq n (negsuc 0)) (usn_of-with_usn row usn) ∙ not_unsent usn low
      | false ↦ λ is. is
    ] refl

-- whether a row has none of these names
abbrev pub is_left : List Name → Row → Bool
is_left names row = not (is_among names (name_of row))

named_entries : (held : Rows) → AreNamed (get held) → AllByRecursion (λ (entry : Name × Row). name_of entry.1 ≡ entry.0) (entries held)
named_entries held named = all_from_gets (λ (entry : Name × Row). name_of entry.1 ≡ entry.0) held (λ q row is. named q row is)

-- the rows of a table that were not sent yet, of what follows in an order by name
abbrev of_table : Table → ℤ → List (Name × Row) → List (Name × Row)
of_table table past es = filter (λ (entry : Name × Row). is_past table past entry.0) es

abbrev listed : Table → ℤ → List (Name × Row) → List Row
listed table past es = filter is_pending (map (λ (entry : Name × Row). entry.1) (of_table table past es))

listed_left : (usn : ℤ) (names : List Name) (table : Table) (past : ℤ) (es : List (Name × Row)) → pos 0 ≤ℤ usn
    → AllByRecursion (λ (entry : Name × Row). name_of entry.1 ≡ entry.0) es
    → listed table past (all_if usn names es) ≡ filter (is_left names) (listed table past es)
listed_left usn names table past [] low all = refl
listed_left usn names table past (e ∷ es) low all = by (listed_left usn names table past es low all.1) (is_past table past e.0)
  where
    rest : List Row
    rest = listed table past (all_if usn names es)

    before : List Row
    before = listed table past es

    left_is : (a : Bool) → is_among names e.0 ≡ a → is_left names e.1 ≡ not a
    left_is a is = ap (λ (n : Name). not (is_among names n)) all.0 ∙ ap not is

    dropped : is_left names e.1 ≡ false → (w : Bool) → filter (is_left names) before ≡ filter (is_left names) (if w then e.1 ∷ before else before)
    dropped gone true = sym (ap (λ (b : Bool). if b then e.1 ∷ filter (is_left names) before else filter (is_left names) before) gone)
    dropped gone false = refl

    two : rest ≡ filter (is_left names) before → (a : Bool) → is_among names e.0 ≡ a → (w : Bool) → is_pending e.1 ≡ w
        → (if is_pending (if a then settled usn e.1 else e.1) then (if a then settled usn e.1 else e.1) ∷ rest else rest)
        ≡ filter (is_left names) (if w then e.1 ∷ before else before)
    two later true is w pending =
        ap (λ (b : Bool). if b then settled usn e.1 ∷ rest else rest) (not_pending usn e.1 low)
        ∙ later
        ∙ dropped (left_is true is) w
    two later false is true pending =
        ap (λ (b : Bool). if b then e.1 ∷ rest else rest) pending
        ∙ ap (λ (l : List Row). e.1 ∷ l) later
        ∙ sym (ap (λ (b : Bool). if b then e.1 ∷ filter (is_left names) before else filter (is_left names) before) (left_is false is))
    two later false is false pending = ap (λ (b : Bool). if b then e.1 ∷ rest else rest) pending ∙ later

    by : rest ≡ filter (is_left names) before → (b : Bool)
        → filter is_pending (map (λ (entry : Name × Row). entry.1) (if b then entry_if usn names e ∷ of_table table past (all_if usn names es) else of_table table past (all_if usn names es)))
        ≡ filter (is_left names) (filter is_pending (map (λ (entry : Name × Row). entry.1) (if b then e ∷ of_table table past es else of_table table past es)))
    by later true = two later (is_among names e.0) refl (is_pending e.1) refl
    by later false = later

-- of a table those are left whose names are not among these
pub wanted_left : (usn : ℤ) (names : List Name) (table : Table) (past : ℤ) (held : Rows) → pos 0 ≤ℤ usn → AreNamed (get held)
    → wanted_past table Unsent past (settled_under usn names held) ≡ filter (is_left names) (wanted_past table Unsent past held)
wanted_left usn names table past held low named =
    ap (listed table past) (entries_settled usn names held) ∙ listed_left usn names table past (entries held) low (named_entries held named)

joined : (names : List Name) (a b d a2 b2 d2 : List Row) → a2 ≡ filter (is_left names) a → b2 ≡ filter (is_left names) b → d2 ≡ filter (is_left names) d
    → a2 ++ (b2 ++ d2) ≡ filter (is_left names) (a ++ (b ++ d))
joined names a b d a2 b2 d2 one two three =
    ap (λ (l : List Row). l ++ (b2 ++ d2)) one
    ∙ ap (λ (l : List Row). filter (is_left names) a ++ (l ++ d2)) two
    ∙ ap (λ (l : List Row). filter (is_left names) a ++ (filter (is_left names) b ++ l)) three
    ∙ ap (λ (l : List Row). filter (is_left names) a ++ l) (sym (filter-append (is_left names) b d))
    ∙ sym (filter-append (is_left names) a (b ++ d))

-- the same of three tables
pub three_left : (usn : ℤ) (names : List Name) (one two three : Table) (held : Rows) → pos 0 ≤ℤ usn → AreNamed (get held)
    → wanted_of one two three Unsent (settled_under usn names held) ≡ filter (is_left names) (wanted_of one two three Unsent held)
three_left usn names one two three held low named =
    joined names _ _ _ _ _ _ (wanted_left usn names one (pos 0) held low named) (wanted_left usn names two (pos 0) held low named)
    (wanted_left usn names three (pos 0) held low named)

-- and of what lies ahead of a place
pub ahead_left : (usn : ℤ) (names : List Name) (from : Name) (held : Rows) → pos 0 ≤ℤ usn → AreNamed (get held)
    → ahead_of Unsent from (settled_under usn names held) ≡ filter (is_left names) (ahead_of Unsent from held)
ahead_left usn names from held low named = by from.table
  where
    by : (table : Table) → rows_after Unsent table from.id (settled_under usn names held) ≡ filter (is_left names) (rows_after Unsent table from.id held)
    by tables.Review =
        joined names _ _ _ _ _ _ (wanted_left usn names tables.Review from.id held low named) (wanted_left usn names tables.Card (pos 0) held low named)
        (wanted_left usn names tables.Note (pos 0) held low named)
    by tables.Card =
        joined names [] _ _ [] _ _ refl (wanted_left usn names tables.Card from.id held low named) (wanted_left usn names tables.Note (pos 0) held low named)
    by tables.Note = wanted_left usn names tables.Note from.id held low named
    by tables.NoteType = refl
    by tables.Deck = refl
    by tables.Options = refl
    by tables.NoteGrave = refl
    by tables.CardGrave = refl
    by tables.DeckGrave = refl

-- ---- how many rows there are
keys_same : (usn : ℤ) (names : List Name) (es : List (Name × Row)) → keys_of (all_if usn names es) ≡ keys_of es
keys_same usn names [] = refl
keys_same usn names (e ∷ es) = ap (λ (l : List Name). e.0 ∷ l) (keys_same usn names es)

pub counts_settled : (usn : ℤ) (names : List Name) (held : Rows) (table : Table) → row_count table (settled_under usn names held) ≡ row_count table held
counts_settled usn names held table =
    ap (λ (l : List Name). length (filter (λ (name : Name). table_place name.table == table_place table) l))
    (ap (λ (es : List (Name × Row)). keys_of es) (entries_settled usn names held) ∙ keys_same usn names (entries held))

-- ---- rows that have names of their own
-- none of these has the name of a later one
abbrev pub AreApart : List Row → Type 0
AreApart [] = ⊤
AreApart (row ∷ more) = (is_among (names_of more) (name_of row) ≡ false) × AreApart more

neither : (a b : Bool) → a ≡ false → b ≡ false → (a || b) ≡ false
neither a b one two = ap (λ (x : Bool). x || b) one ∙ two

first_not : (a b : Bool) → (a || b) ≡ false → a ≡ false
first_not true b is = is
first_not false b is = refl

second_not : (a b : Bool) → (a || b) ≡ false → b ≡ false
second_not true b is = absurd (grind (arith, is))
second_not false b is = is

both_so : (a b : Bool) → (a && b) ≡ true → b ≡ true
both_so true b is = is
both_so false b is = absurd (grind (arith, is))

not_name : (n m : Name) → n ≢ m → is_name n m ≡ false
not_name n m apart =
    elim (is_name n m) as (λ b. is_name n m ≡ b → b ≡ false) [
      | true ↦ λ is. absurd (apart (same_of_tied n m is))
      | false ↦ λ _. refl
    ] refl

id_below : (one other : ℤ) → int_lt one other ≡ true → one <ℤ other
id_below one other is = omega (arith, ints, is)

-- ids ascend, so a row of a table has another name than those before it
later_apart : (table : Table) (past : ℤ) (n : Name) (rows : List Row) → n.id ≤ℤ past → AscendsPast table past rows → is_among (names_of rows) n ≡ false
later_apart table past n [] low ascends = refl
later_apart table past n (row ∷ rows) low ascends =
    let over : past <ℤ (name_of row).id = id_below past (name_of row).id (both_so (table_place (name_of row).table == table_place table) (int_lt past (name_of row).id) ascends.0) in
    neither (is_name n (name_of row)) (is_among (names_of rows) n)
    (not_name n (name_of row) (λ same. let id : n.id ≡ (name_of row).id = ap (λ (m : Name). m.id) same in omega (arith, ints, low, over, id)))
    (later_apart table (name_of row).id n rows (omega (arith, ints, low, over)) ascends.1)

pub ascending_apart : (table : Table) (past : ℤ) (rows : List Row) → AscendsPast table past rows → AreApart rows
ascending_apart table past [] ascends = tt
ascending_apart table past (row ∷ rows) ascends =
    (later_apart table (name_of row).id (name_of row) rows (omega (arith, ints)) ascends.1, ascending_apart table (name_of row).id rows ascends.1)

-- rows of other tables have other names
pub tables_apart : (n : Name) (rows : List Row) → AllByRecursion (λ (row : Row). (name_of row).table ≢ n.table) rows → is_among (names_of rows) n ≡ false
tables_apart n [] all = refl
tables_apart n (row ∷ rows) all =
    neither (is_name n (name_of row)) (is_among (names_of rows) n)
    (not_name n (name_of row) (λ same. all.0 (ap (λ (m : Name). m.table) (sym same)))) (tables_apart n rows all.1)

among_append : (xs ys : List Row) (n : Name) → is_among (names_of xs) n ≡ false → is_among (names_of ys) n ≡ false → is_among (names_of (xs ++ ys)) n ≡ false
among_append [] ys n one two = two
among_append (x ∷ xs) ys n one two =
    neither (is_name n (name_of x)) (is_among (names_of (xs ++ ys)) n) (first_not (is_name n (name_of x)) (is_among (names_of xs) n) one)
    (among_append xs ys n (second_not (is_name n (name_of x)) (is_among (names_of xs) n) one) two)

pub apart_append : (xs ys : List Row) → AreApart xs → AreApart ys → AllByRecursion (λ (row : Row). is_among (names_of ys) (name_of row) ≡ false) xs → AreApart (xs ++ ys)
apart_append [] ys one two across = two
apart_append (x ∷ xs) ys one two across = (among_append xs ys (name_of x) one.0 across.0, apart_append xs ys one.1 two across.1)

-- so what comes after some of them is left once those are settled
rest_apart : (x : Row) (xs ys : List Row) → is_among (names_of (xs ++ ys)) (name_of x) ≡ false → AllByRecursion (λ (row : Row). is_name (name_of row) (name_of x) ≡ false) ys
rest_apart x [] [] is = tt
rest_apart x [] (y ∷ ys) is = (
  (eq_by_cmp_equiv names_total).symm (name_of y) (name_of x) ∙ first_not (is_name (name_of x) (name_of y)) (is_among (names_of ys) (name_of x)) is,
  rest_apart x [] ys (second_not (is_name (name_of x) (name_of y)) (is_among (names_of ys) (name_of x)) is),
)
rest_apart x (z ∷ xs) ys is = rest_apart x xs ys (second_not (is_name (name_of x) (name_of z)) (is_among (names_of (xs ++ ys)) (name_of x)) is)

both_apart : (x : Row) (xs ys : List Row) → AllByRecursion (λ (row : Row). is_name (name_of row) (name_of x) ≡ false) ys
    → AllByRecursion (λ (row : Row). is_left (names_of xs) row ≡ true) ys → AllByRecursion (λ (row : Row). is_left (names_of (x ∷ xs)) row ≡ true) ys
both_apart x xs [] one two = tt
both_apart x xs (y ∷ ys) one two =
    (ap (λ (b : Bool). not (b || is_among (names_of xs) (name_of y))) one.0 ∙ two.0, both_apart x xs ys one.1 two.1)

all_left : (ys : List Row) → AllByRecursion (λ (row : Row). is_left [] row ≡ true) ys
all_left [] = tt
all_left (y ∷ ys) = (refl, all_left ys)

rest_left : (xs ys : List Row) → AreApart (xs ++ ys) → AllByRecursion (λ (row : Row). is_left (names_of xs) row ≡ true) ys
rest_left [] ys apart = all_left ys
rest_left (x ∷ xs) ys apart = both_apart x xs ys (rest_apart x xs ys apart.0) (rest_left xs ys apart.1)

filter_all : (p : Row → Bool) (rows : List Row) → AllByRecursion (λ (row : Row). p row ≡ true) rows → filter p rows ≡ rows
filter_all p [] all = refl
filter_all p (row ∷ rows) all =
    ap (λ (b : Bool). if b then row ∷ filter p rows else filter p rows) all.0 ∙ ap (λ (l : List Row). row ∷ l) (filter_all p rows all.1)

pub rest_stays : (part rest : List Row) → AreApart (part ++ rest) → filter (is_left (names_of part)) rest ≡ rest
rest_stays part rest apart = filter_all (is_left (names_of part)) rest (rest_left part rest apart)

-- rows of which none has one of these names stay
pub others_stay : (names : List Name) (rows : List Row) → AllByRecursion (λ (row : Row). is_among names (name_of row) ≡ false) rows → filter (is_left names) rows ≡ rows
others_stay names rows all = filter_all (is_left names) rows (each rows all)
  where
    each : (l : List Row) → AllByRecursion (λ (row : Row). is_among names (name_of row) ≡ false) l → AllByRecursion (λ (row : Row). is_left names row ≡ true) l
    each [] all = tt
    each (row ∷ more) all = (ap not all.0, each more all.1)
