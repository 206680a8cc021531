-- The wanted rows of a table never grow by what comes.
use Rattle.ak_base.proofs.NameOrder.{names_exact}
use Rattle.ak_base.proofs.RowFacts.{usn_of-with_usn}
use Rattle.ak_base.specs.Names.{name_cmp, names_total, table_place}
use Rattle.ak_base.specs.Rows.{buried_of, name_of, usn_of, with_usn}
use Rattle.ak_base.specs.declared.names.Name.{Name}
use Rattle.ak_base.specs.declared.names.Table.{Table}
use Rattle.ak_base.specs.declared.rows.Row.{Row}
use Rattle.ak_keep.specs.Collections.{Rows, is_past, is_pending, is_wanted, wanted_past}
use Rattle.ak_keep.specs.declared.keepers.Wanted.{Wanted}
use Rattle.ak_keep.specs.declared.keepers.Wanted.TheVariants.{Unsent}
use Rattle.ak_merge.proofs.PartLaws.{same_place}
use Rattle.ak_merge.specs.declared.sides.Side.{Side}
use Rattle.ak_merge.specs.Takings.{buried, takes, taken, all_taken}
use Rattle.std.proofs.lemmas.List.Elements.{recursion_from_All}
use Rattle.std.specs.Cmp.{eq_by_cmp_equiv, signed_Decides}
use Rattle.std.specs.FinMap.{put, find, get, insert, remove, entries, entries_sorted, entries-insert, entries-from_sorted, from_sorted, get-entries, get-from_sorted, get-remove, same_map}
use Rattle.std.specs.FinMap.Entries.{by_order, where_key, is_sorted-where_key, find-where_key}
use Rattle.std.specs.List.{All, AllByRecursion}
use Rattle.std.specs.Option.{option_map_or}
use Rattle.std.specs.Ordering.{eq_by_cmp}
use Rattle.std.specs.declared.cmp.Ordering.TheVariants.{Less, Equal, Greater}
use Rattle.std.specs.Prelude.{◌≡◌, ◌≢◌, ◌≤◌, ◌==◌, ℕ, suc, ℤ, pos, negsuc, ◌≤ℤ◌, Bool, true, false, not, ◌&&◌, int_lt, if◌then◌else◌, List, [], ◌∷◌, map, filter, length, Option, Some, None}
use Rattle.std.proofs.Common.{refl, sym, ap, subst, ◌∙◌, arith}
use Rattle.std.proofs.lemmas.Int.{ints}

-- ---- counts of entries
-- an entry of the table that is wanted
abbrev counts : Table → Wanted → Name × Row → Bool
counts table want entry = is_past table (pos 0) entry.0 && is_wanted want entry.1

-- how many are
abbrev wanted_count : Table → Wanted → List (Name × Row) → ℕ
wanted_count table want [] = 0
wanted_count table want (e ∷ es) = if counts table want e then suc (wanted_count table want es) else wanted_count table want es

wanted_counted : (table : Table) (want : Wanted) (es : List (Name × Row))
    → length (filter (is_wanted want) (map (λ (entry : Name × Row). entry.1) (filter (λ (entry : Name × Row). is_past table (pos 0) entry.0) es))) ≡ wanted_count table want es
wanted_counted table want [] = refl
wanted_counted table want (e ∷ es) =
    let more = filter (λ (entry : Name × Row). is_past table (pos 0) entry.0) es in
    elim (is_past table (pos 0) e.0) as (λ b. length (filter (is_wanted want) (map (λ (entry : Name × Row). entry.1) (if b then e ∷ more else more)))
    ≡ (if b && is_wanted want e.1 then suc (wanted_count table want es) else wanted_count table want es)) [
      | true ↦ elim (is_wanted want e.1) as (λ b. length (if b then e.1 ∷ filter (is_wanted want) (map (λ (entry : Name × Row). entry.1) more) else filter (is_wanted want) (map (λ (entry : Name × Row). entry.1) more))
          ≡ (if b then suc (wanted_count table want es) else wanted_count table want es)) [
            | true ↦ ap suc (wanted_counted table want es)
            | false ↦ wanted_counted table want es
          ]
      | false ↦ wanted_counted table want es
    ]

either_more : (b : Bool) (m n : ℕ) → m ≤ n → (if b then suc m else m) ≤ (if b then suc n else n)
either_more true m n less = omega (arith, less)
either_more false m n less = less

rest_fewer : (b : Bool) (n : ℕ) → n ≤ (if b then suc n else n)
rest_fewer true n = omega arith
rest_fewer false n = omega arith

-- ---- an entry put in, and one taken out
-- what is put in and not wanted adds nothing
put_fewer : (table : Table) (want : Wanted) (name : Name) (row : Row) (es : List (Name × Row)) → counts table want (name, row) ≡ false
    → wanted_count table want (put name_cmp name row es) ≤ wanted_count table want es
put_fewer table want name row [] none = subst (λ (b : Bool). (if b then 1 else 0) ≤ 0) (sym none) (omega arith)
put_fewer table want name row (e ∷ es) none =
    elim (name_cmp name e.0) as (λ r. name_cmp name e.0 ≡ r → wanted_count table want (by_order r ((name, row) ∷ e ∷ es) ((e.0, row) ∷ es) (e ∷ put name_cmp name row es)) ≤ wanted_count table want (e ∷ es)) [
      | Less ↦ λ _. subst (λ (b : Bool). (if b then suc (wanted_count table want (e ∷ es)) else wanted_count table want (e ∷ es)) ≤ wanted_count table want (e ∷ es)) (sym none) (omega arith)
      | Equal ↦ λ is.
          let own : counts table want (e.0, row) ≡ false = ap (λ (n : Name). counts table want (n, row)) (sym (names_exact name e.0 is)) ∙ none in
          subst (λ (b : Bool). (if b then suc (wanted_count table want es) else wanted_count table want es) ≤ wanted_count table want (e ∷ es)) (sym own) (rest_fewer (counts table want e) (wanted_count table want es))
      | Greater ↦ λ _. either_more (counts table want e) (wanted_count table want (put name_cmp name row es)) (wanted_count table want es) (put_fewer table want name row es none)
    ] refl

kept_fewer : (table : Table) (want : Wanted) (p : Name → Bool) (es : List (Name × Row)) → wanted_count table want (where_key name_cmp p es) ≤ wanted_count table want es
kept_fewer table want p [] = omega arith
kept_fewer table want p (e ∷ es) =
    let rest = kept_fewer table want p es in
    elim (p e.0) as (λ b. wanted_count table want (if b then e ∷ where_key name_cmp p es else where_key name_cmp p es) ≤ wanted_count table want (e ∷ es)) [
      | true ↦ either_more (counts table want e) (wanted_count table want (where_key name_cmp p es)) (wanted_count table want es) rest
      | false ↦ let more = rest_fewer (counts table want e) (wanted_count table want es) in omega (arith, rest, more)
    ]

turned : (b : Bool) (o : Option Row) → (if b then None else o) ≡ (if not b then o else None)
turned true o = refl
turned false o = refl

entries-remove : (rows : Rows) (name : Name) → entries (remove rows name) ≡ where_key name_cmp (λ (x : Name). not (eq_by_cmp name_cmp name x)) (entries rows)
entries-remove rows name =
    let p : Name → Bool = λ (x : Name). not (eq_by_cmp name_cmp name x) in
    let kept : List (Name × Row) = where_key name_cmp p (entries rows) in
    let sorted = is_sorted-where_key name_cmp p (entries rows) (entries_sorted rows) in
    let same : remove rows name ≡ from_sorted {R = name_cmp} kept =
    same_map names_total names_exact (remove rows name) (from_sorted kept) (λ q.
    get-remove names_total rows name q
    ∙ ap (λ (o : Option Row). if eq_by_cmp name_cmp q name then None else o) (get-entries rows q)
    ∙ turned (eq_by_cmp name_cmp q name) (find name_cmp q (entries rows))
    ∙ ap (λ b. if not b then find name_cmp q (entries rows) else None) (sym ((eq_by_cmp_equiv names_total).symm name q))
    ∙ sym (get-from_sorted name_cmp kept q sorted ∙ find-where_key name_cmp p q (λ x tied. ap p (sym (names_exact q x tied))) (entries rows))) in
    ap (λ (m : Rows). entries m) same ∙ entries-from_sorted name_cmp kept sorted

-- ---- one row taken
abbrev count_of : Table → Wanted → Rows → ℕ
count_of table want held = wanted_count table want (entries held)

insert_fewer : (table : Table) (want : Wanted) (name : Name) (row : Row) (held : Rows) → counts table want (name, row) ≡ false → count_of table want (insert held name row) ≤ count_of table want held
insert_fewer table want name row held none =
    subst (λ (es : List (Name × Row)). wanted_count table want es ≤ count_of table want held) (sym (entries-insert names_total held name row)) (put_fewer table want name row (entries held) none)

buried_fewer : (table : Table) (want : Wanted) (row : Row) (held : Rows) → count_of table want (buried row held) ≤ count_of table want held
buried_fewer table want row held =
    elim (buried_of row) as (λ (o : Option Name). count_of table want (option_map_or (λ (name : Name). remove held name) o held) ≤ count_of table want held) [
      | None ↦ omega arith
      | Some name ↦ subst (λ (es : List (Name × Row)). wanted_count table want es ≤ count_of table want held) (sym (entries-remove held name))
          (kept_fewer table want (λ (x : Name). not (eq_by_cmp name_cmp name x)) (entries held))
    ]

taken_fewer : (table : Table) (want : Wanted) (side : Side) (usn : ℤ) (row : Row) (held : Rows) → counts table want (name_of row, with_usn row usn) ≡ false → count_of table want (taken side usn row held) ≤ count_of table want held
taken_fewer table want side usn row held none =
    let rest = buried_fewer table want row held in
    elim (takes side (get held) row) as (λ b. count_of table want (if b then insert (buried row held) (name_of row) (with_usn row usn) else buried row held) ≤ count_of table want held) [
      | true ↦ let one = insert_fewer table want (name_of row) (with_usn row usn) (buried row held) none in omega (arith, one, rest)
      | false ↦ rest
    ]

all_fewer : (table : Table) (want : Wanted) (side : Side) (usn : ℤ) (came : List Row) (held : Rows) → AllByRecursion (λ (row : Row). counts table want (name_of row, with_usn row usn) ≡ false) came
    → count_of table want (all_taken side usn came held) ≤ count_of table want held
all_fewer table want side usn [] held none = omega arith
all_fewer table want side usn (row ∷ more) held none =
    let one = taken_fewer table want side usn row held none.0 in
    let rest = all_fewer table want side usn more (taken side usn row held) none.1 in
    omega (arith, one, rest)

of_counts : (table : Table) (want : Wanted) (after before : Rows) → count_of table want after ≤ count_of table want before
    → length (wanted_past table want (pos 0) after) ≤ length (wanted_past table want (pos 0) before)
of_counts table want after before fewer =
    let one = wanted_counted table want (entries after) in
    let other = wanted_counted table want (entries before) in
    omega (arith, fewer, one, other)

-- ---- the laws
and_false : (a b : Bool) → b ≡ false → (a && b) ≡ false
and_false true b none = none
and_false false b none = refl

never_pending : (usn : ℤ) (row : Row) → pos 0 ≤ℤ usn → is_pending (with_usn row usn) ≡ false
never_pending usn row low =
    elim (is_pending (with_usn row usn)) as (λ b. is_pending (with_usn row usn) ≡ b → b ≡ false) [
      | true ↦ λ pending.
          let one : usn_of (with_usn row usn) ≡ negsuc 0 = (signed_Decides (usn_of (with_usn row usn)) (negsuc 0)).0 pending in
          let two = usn_of-with_usn row usn in
          absurd (omega (arith, ints, one, two, low))
      | false ↦ λ _. refl
    ] refl

none_unsent : (table : Table) (usn : ℤ) (came : List Row) → pos 0 ≤ℤ usn → AllByRecursion (λ (row : Row). counts table Unsent (name_of row, with_usn row usn) ≡ false) came
none_unsent table usn [] low = tt
none_unsent table usn (row ∷ more) low = (and_false (is_past table (pos 0) (name_of row)) (is_pending (with_usn row usn)) (never_pending usn row low), none_unsent table usn more low)

-- what was not sent yet never grows
pub unsent_never_grow : (table : Table) (side : Side) (usn : ℤ) (came : List Row) (held : Rows) → pos 0 ≤ℤ usn
    → length (wanted_past table Unsent (pos 0) (all_taken side usn came held)) ≤ length (wanted_past table Unsent (pos 0) held)
unsent_never_grow table side usn came held low = of_counts table Unsent (all_taken side usn came held) held (all_fewer table Unsent side usn came held (none_unsent table usn came low))

other_table : (table : Table) (want : Wanted) (row : Row) (usn : ℤ) → (name_of row).table ≢ table → counts table want (name_of row, with_usn row usn) ≡ false
other_table table want row usn differ =
    elim (table_place (name_of row).table == table_place table) as (λ b. (table_place (name_of row).table == table_place table) ≡ b → ((b && int_lt (pos 0) (name_of row).id) && is_wanted want (with_usn row usn)) ≡ false) [
      | true ↦ λ same. absurd (differ (same_place (name_of row).table table same))
      | false ↦ λ _. refl
    ] refl

none_of_table : (table : Table) (want : Wanted) (usn : ℤ) (came : List Row) → AllByRecursion (λ (row : Row). (name_of row).table ≢ table) came
    → AllByRecursion (λ (row : Row). counts table want (name_of row, with_usn row usn) ≡ false) came
none_of_table table want usn [] differ = tt
none_of_table table want usn (row ∷ more) differ = (other_table table want row usn differ.0, none_of_table table want usn more differ.1)

-- what is wanted of a table never grows by rows of other tables
pub others_add_none : (table : Table) (want : Wanted) (side : Side) (usn : ℤ) (came : List Row) (held : Rows) → All (λ row. (name_of row).table ≢ table) came
    → length (wanted_past table want (pos 0) (all_taken side usn came held)) ≤ length (wanted_past table want (pos 0) held)
others_add_none table want side usn came held differ =
    of_counts table want (all_taken side usn came held) held (all_fewer table want side usn came held (none_of_table table want usn came (recursion_from_All (λ row. (name_of row).table ≢ table) came differ)))
