-- The entries of rows that were taken, so that examples over a few rows compute.
use Rattle.std.specs.Prelude.{◌≡◌, ℤ, Bool, true, false, not, if◌then◌else◌, List, [], ◌∷◌, Option, Some, None}
use Rattle.std.specs.Cmp.{eq_by_cmp_equiv}
use Rattle.std.specs.FinMap.{put, find, get, insert, remove, entries, entries_sorted, entries-insert, entries-from_sorted, from_sorted, get-entries, get-from_sorted, get-remove, same_map}
use Rattle.std.specs.FinMap.Entries.{where_key, is_sorted-where_key, find-where_key}
use Rattle.std.specs.Option.{option_map_or}
use Rattle.std.specs.Ordering.{eq_by_cmp}
use Rattle.std.proofs.Common.{refl, sym, ap, ◌∙◌}
use Rattle.std.proofs.Math.Path.{fun_ext}
use Rattle.ak_base.proofs.NameOrder.{names_exact}
use Rattle.ak_base.specs.Names.{name_cmp, names_total}
use Rattle.ak_base.specs.Rows.{buried_of, name_of, with_usn}
use Rattle.ak_base.specs.declared.names.Name.{Name}
use Rattle.ak_base.specs.declared.rows.Row.{Row}
use Rattle.ak_keep.specs.Collections.{Rows, Collection}
use Rattle.ak_keep.specs.Graves.{RowsByName}
use Rattle.ak_merge.specs.Takings.{takes, buried, taken, all_taken}
use Rattle.ak_messages.specs.declared.requests.Ask.{Ask}
use Rattle.ak_session.specs.Asks.{all_brought, fold_of}
use Rattle.ak_session.proofs.Folds.{fold_takes_all}
use Rattle.ak_merge.specs.declared.sides.Side.TheVariants.{Server}

abbrev pub Entries : Type 0
Entries = List (Name × Row)

-- the entries without that of this name
abbrev without : Name → Entries → Entries
without name es = where_key name_cmp (λ (x : Name). not (eq_by_cmp name_cmp name x)) es

-- the entries without the row whose grave this is
abbrev buried_in : Row → Entries → Entries
buried_in row es = option_map_or (λ (name : Name). without name es) (buried_of row) es

-- what stands under each name
abbrev pub under : Entries → RowsByName
under es name = find name_cmp name es

-- the entries once this row was taken
abbrev taken_in : ℤ → Row → Entries → Entries
taken_in usn row es = if takes Server (under es) row then put name_cmp (name_of row) (with_usn row usn) (buried_in row es) else buried_in row es

-- once these were
abbrev pub all_taken_in : ℤ → List Row → Entries → Entries
all_taken_in usn [] es = es
all_taken_in usn (row ∷ more) es = all_taken_in usn more (taken_in usn row es)

turned : (b : Bool) (o : Option Row) → (if b then None else o) ≡ (if not b then o else None)
turned true o = refl
turned false o = refl

entries_without : (held : Rows) (name : Name) → entries (remove held name) ≡ without name (entries held)
entries_without held name =
    let p : Name → Bool = λ (x : Name). not (eq_by_cmp name_cmp name x) in
    let kept : List (Name × Row) = where_key name_cmp p (entries held) in
    let sorted = is_sorted-where_key name_cmp p (entries held) (entries_sorted held) in
    let same : remove held name ≡ from_sorted {R = name_cmp} kept =
    same_map names_total names_exact (remove held name) (from_sorted kept) (λ q.
    get-remove names_total held name q
    ∙ ap (λ (o : Option Row). if eq_by_cmp name_cmp q name then None else o) (get-entries held q)
    ∙ turned (eq_by_cmp name_cmp q name) (find name_cmp q (entries held))
    ∙ ap (λ b. if not b then find name_cmp q (entries held) else None) (sym ((eq_by_cmp_equiv names_total).symm name q))
    ∙ sym (get-from_sorted name_cmp kept q sorted ∙ find-where_key name_cmp p q (λ x tied. ap p (sym (names_exact q x tied))) (entries held))) in
    ap (λ (m : Rows). entries m) same ∙ entries-from_sorted name_cmp kept sorted

entries_buried : (row : Row) (held : Rows) → entries (buried row held) ≡ buried_in row (entries held)
entries_buried row held =
    elim (buried_of row) as (λ (o : Option Name). entries (option_map_or (λ (name : Name). remove held name) o held) ≡ option_map_or (λ (name : Name). without name (entries held)) o (entries held)) [
      | None ↦ refl
      | Some name ↦ entries_without held name
    ]

entries_taken : (usn : ℤ) (row : Row) (held : Rows) → entries (taken Server usn row held) ≡ taken_in usn row (entries held)
entries_taken usn row held =
    ap (λ (at : RowsByName). entries (if takes Server at row then insert (buried row held) (name_of row) (with_usn row usn) else buried row held)) (fun_ext (λ name. get-entries held name))
    ∙ elim (takes Server (under (entries held)) row) as (λ b. entries (if b then insert (buried row held) (name_of row) (with_usn row usn) else buried row held)
    ≡ (if b then put name_cmp (name_of row) (with_usn row usn) (buried_in row (entries held)) else buried_in row (entries held))) [
      | true ↦ entries-insert names_total (buried row held) (name_of row) (with_usn row usn) ∙ ap (put name_cmp (name_of row) (with_usn row usn)) (entries_buried row held)
      | false ↦ entries_buried row held
    ]

pub entries_all_taken : (usn : ℤ) (came : List Row) (held : Rows) → entries (all_taken Server usn came held) ≡ all_taken_in usn came (entries held)
entries_all_taken usn [] held = refl
entries_all_taken usn (row ∷ more) held = entries_all_taken usn more (taken Server usn row held) ∙ ap (all_taken_in usn more) (entries_taken usn row held)

-- a map with these entries, which ascend
abbrev pub map_of : Entries → Rows
map_of es = from_sorted {R = name_cmp} es

-- the entries of a fold over such a map
pub fold_entries : (c : Collection) (asked : List Ask) (es : Entries) → entries c.rows ≡ es → entries (fold_of c asked).rows ≡ all_taken_in c.head.usn (all_brought asked).rows es
fold_entries c asked es is =
    ap (λ (held : Collection). entries held.rows) (fold_takes_all c asked) ∙ entries_all_taken c.head.usn (all_brought asked).rows c.rows ∙ ap (all_taken_in c.head.usn (all_brought asked).rows) is

-- what stands in the fold under a name
pub fold_at : (c : Collection) (asked : List Ask) (es : Entries) (name : Name) → entries c.rows ≡ es → get (fold_of c asked).rows name ≡ under (all_taken_in c.head.usn (all_brought asked).rows es) name
fold_at c asked es name is = get-entries (fold_of c asked).rows name ∙ ap (λ (found : Entries). under found name) (fold_entries c asked es is)
