-- What an upload of a device's collection leaves.
use Rattle.std.specs.Prelude.{◌≡◌, ◌==◌, ◌||◌, ℕ, ℤ, pos, Bool, true, false, not, is_some, if◌then◌else◌, T, List, [], ◌∷◌, map, filter, Option, Some, None}
use Rattle.std.specs.Cmp.Lexicographic.{pointwise}
use Rattle.std.specs.FinMap.{find, get, entries, get-entries, get-from_entries}
use Rattle.std.specs.List.{AllByRecursion, list_any}
use Rattle.std.specs.Option.{option_and_then, option_map, option_or}
use Rattle.std.specs.Ordering.{eq_by_cmp}
use Rattle.std.proofs.Common.{refl, sym, ap, ◌∙◌}
use Rattle.ak_base.proofs.RowFacts.{name_of-with_usn}
use Rattle.ak_base.specs.Heads.{tag_names}
use Rattle.ak_base.specs.Names.{name_cmp, names_total}
use Rattle.ak_base.specs.Rows.{buried_of, name_of, with_usn}
use Rattle.ak_base.specs.Tables.{buried_in}
use Rattle.ak_base.specs.declared.heads.Tag.{Tag}
use Rattle.ak_base.specs.declared.names.Name.{Name}
use Rattle.ak_base.specs.declared.rows.Row.{Row}
use Rattle.ak_base.specs.declared.rows.Row.TheVariants as rows
use Rattle.ak_base.proofs.Burials.{grave_table_by}
use Rattle.ak_keep.proofs.RowsByName.{entries_found, same_of_tied}
use Rattle.ak_keep.specs.Collections.{Rows, Collection}
use Rattle.ak_merge.proofs.TagLaws.{tags_are_united}
use Rattle.ak_merge.specs.Commits.{settings_of, uploaded_rows}
use Rattle.ak_merge.specs.Holdings.{AreNamed, row_under, has_tag}
use Rattle.ak_merge.specs.Tags.{has_name}
use Rattle.ak_messages.specs.declared.requests.Ask.{Ask}
use Rattle.ak_messages.specs.declared.requests.Ask.TheVariants as asks
use Rattle.ak_messages.specs.declared.requests.Request.{Request}
use Rattle.ak_session.specs.Asks.{asks_of}
use Rattle.ak_session.specs.Closings.{closed_by}
use Rattle.ak_session.specs.Contents.{closed}
use Rattle.ak_session.specs.Uploads.{is_plain, whole_to_send, without_graves}
use Rattle.ak_session.proofs.Ranges.{not_both}

-- ---- rows
-- a row is a grave exactly if its table is one of graves
abbrev is_grave : Row → Bool
is_grave row = is_some (buried_of row)

grave_by_table : (row : Row) → is_grave row ≡ is_some (buried_in (name_of row).table)
grave_by_table (rows.Note n) = refl
grave_by_table (rows.Card c) = refl
grave_by_table (rows.Review r) = refl
grave_by_table (rows.NoteType t) = refl
grave_by_table (rows.Deck d) = refl
grave_by_table (rows.Options o) = refl
grave_by_table (rows.Grave g) = sym (grave_table_by (λ t. is_some (buried_in t) ≡ true) refl refl refl g.kind)

-- the rows that are no graves have no graves
again : (list : List Row) → filter is_plain (filter is_plain list) ≡ filter is_plain list
again [] = refl
again (row ∷ more) =
    elim (is_plain row) as (λ b. is_plain row ≡ b → filter is_plain (if b then row ∷ filter is_plain more else filter is_plain more) ≡ (if b then row ∷ filter is_plain more else filter is_plain more)) [
      | true ↦ λ is.
          ap (λ (b : Bool). if b then row ∷ filter is_plain (filter is_plain more) else filter is_plain (filter is_plain more)) is
          ∙ ap (λ (l : List Row). row ∷ l) (again more)
      | false ↦ λ _. again more
    ] refl

abbrev entry_of : Row → Name × Row
entry_of row = (name_of row, row)

-- no entry of an upload has the name of a grave
no_graves_found : (name : Name) (list : List Row) → is_some (buried_in name.table) ≡ true → find name_cmp name (map entry_of (uploaded_rows list)) ≡ None
no_graves_found name [] grave = refl
no_graves_found name (row ∷ more) grave =
    elim (is_grave row) as (λ b. is_grave row ≡ b → find name_cmp name (map entry_of (map (λ (row : Row). with_usn row (pos 0)) (if not b then row ∷ filter (λ (row : Row). not (is_grave row)) more else filter (λ (row : Row). not (is_grave row)) more))) ≡ None) [
      | true ↦ λ _. no_graves_found name more grave
      | false ↦ λ is.
          elim (eq_by_cmp name_cmp name (name_of (with_usn row (pos 0)))) as (λ b. eq_by_cmp name_cmp name (name_of (with_usn row (pos 0))) ≡ b → (if b then Some (with_usn row (pos 0)) else find name_cmp name (map entry_of (uploaded_rows more))) ≡ None) [
            | true ↦ λ tied.
                let same : name ≡ name_of row = same_of_tied name (name_of (with_usn row (pos 0))) tied ∙ name_of-with_usn row (pos 0) in
                absurd (not_both (ap (λ (n : Name). is_some (buried_in n.table)) (sym same) ∙ grave) (sym (grave_by_table row) ∙ is))
            | false ↦ λ _. no_graves_found name more grave
          ] refl
    ] refl

-- under any other name an upload has the row that stands there, with the number 0
others_found : (name : Name) (es : List (Name × Row)) → is_some (buried_in name.table) ≡ false → AllByRecursion (λ (entry : Name × Row). name_of entry.1 ≡ entry.0) es
    → find name_cmp name (map entry_of (uploaded_rows (map (λ (entry : Name × Row). entry.1) es))) ≡ option_map (λ (row : Row). with_usn row (pos 0)) (find name_cmp name es)
others_found name [] plain named = refl
others_found name (e ∷ es) plain named =
    elim (is_grave e.1) as (λ b. is_grave e.1 ≡ b → find name_cmp name (map entry_of (map (λ (row : Row). with_usn row (pos 0)) (if not b then e.1 ∷ filter (λ (row : Row). not (is_grave row)) (map (λ (entry : Name × Row). entry.1) es) else filter (λ (row : Row). not (is_grave row)) (map (λ (entry : Name × Row). entry.1) es))))
    ≡ option_map (λ (row : Row). with_usn row (pos 0)) (if eq_by_cmp name_cmp name e.0 then Some e.1 else find name_cmp name es)) [
      | true ↦ λ is.
          elim (eq_by_cmp name_cmp name e.0) as (λ b. eq_by_cmp name_cmp name e.0 ≡ b → find name_cmp name (map entry_of (uploaded_rows (map (λ (entry : Name × Row). entry.1) es))) ≡ option_map (λ (row : Row). with_usn row (pos 0)) (if b then Some e.1 else find name_cmp name es)) [
            | true ↦ λ tied.
                let same : name ≡ name_of e.1 = same_of_tied name e.0 tied ∙ sym named.0 in
                absurd (not_both (sym (grave_by_table e.1) ∙ is) (ap (λ (n : Name). is_some (buried_in n.table)) (sym same) ∙ plain))
            | false ↦ λ _. others_found name es plain named.1
          ] refl
      | false ↦ λ is.
          ap (λ (n : Name). if eq_by_cmp name_cmp name n then Some (with_usn e.1 (pos 0)) else find name_cmp name (map entry_of (uploaded_rows (map (λ (entry : Name × Row). entry.1) es)))) (name_of-with_usn e.1 (pos 0) ∙ named.0)
          ∙ elim (eq_by_cmp name_cmp name e.0) as (λ b. (if b then Some (with_usn e.1 (pos 0)) else find name_cmp name (map entry_of (uploaded_rows (map (λ (entry : Name × Row). entry.1) es)))) ≡ option_map (λ (row : Row). with_usn row (pos 0)) (if b then Some e.1 else find name_cmp name es)) [
            | true ↦ refl
            | false ↦ others_found name es plain named.1
          ]
    ] refl

each_named : (held : Rows) → AreNamed (get held) → (es : List (Name × Row)) → AllByRecursion (λ (entry : Name × Row). get held entry.0 ≡ Some entry.1) es → AllByRecursion (λ (entry : Name × Row). name_of entry.1 ≡ entry.0) es
each_named held named [] all = tt
each_named held named (entry ∷ more) all = (named entry.0 entry.1 all.0, each_named held named more all.1)

-- what stands without the graves, by whether the name is of one
kept_by : (held : Rows) (name : Name) → AreNamed (get held) → (b : Bool) → is_some (buried_in name.table) ≡ b → (o : Option Row) → get held name ≡ o
    → option_and_then (λ (row : Row). if is_some (buried_of row) then None else Some (with_usn row (pos 0))) o ≡ (if b then None else option_map (λ (row : Row). with_usn row (pos 0)) o)
kept_by held name named true is None stands = refl
kept_by held name named false is None stands = refl
kept_by held name named b is (Some row) stands =
    let grave : is_grave row ≡ b = grave_by_table row ∙ ap (λ (n : Name). is_some (buried_in n.table)) (named name row stands) ∙ is in
    ap (λ (g : Bool). if g then None else Some (with_usn row (pos 0))) grave

rows_left : (c : Collection) (name : Name) → AreNamed (row_under c) → find name_cmp name (map entry_of (uploaded_rows (map (λ (entry : Name × Row). entry.1) (entries c.rows)))) ≡ without_graves (row_under c) name
rows_left c name named = by (is_some (buried_in name.table)) refl
  where
    by : (b : Bool) → is_some (buried_in name.table) ≡ b → find name_cmp name (map entry_of (uploaded_rows (map (λ (entry : Name × Row). entry.1) (entries c.rows)))) ≡ without_graves (row_under c) name
    by true is = no_graves_found name (map (λ (entry : Name × Row). entry.1) (entries c.rows)) is ∙ sym (kept_by c.rows name named true is (get c.rows name) refl)
    by false is =
        others_found name (entries c.rows) is (each_named c.rows named (entries c.rows) (entries_found c.rows))
        ∙ ap (option_map (λ (row : Row). with_usn row (pos 0))) (sym (get-entries c.rows name))
        ∙ sym (kept_by c.rows name named false is (get c.rows name) refl)

pub upload_rows : (c committed : Collection) (accepted : List Request) (upload : Request) (now : ℤ) (name : Name) → AreNamed (row_under c) → upload.ask ≡ asks.Upload (whole_to_send c)
    → row_under (closed committed accepted upload now) name ≡ without_graves (row_under c) name
unfolding closed
upload_rows c committed accepted upload now name named is =
    ap (λ (ask : Ask). get (closed_by committed (asks_of accepted) ask now).rows name) is
    ∙ get-from_entries names_total (map entry_of (uploaded_rows (filter is_plain (map (λ (entry : Name × Row). entry.1) (entries c.rows))))) name
    ∙ ap (λ (l : List Row). find name_cmp name (map entry_of (map (λ (row : Row). with_usn row (pos 0)) l))) (again (map (λ (entry : Name × Row). entry.1) (entries c.rows)))
    ∙ rows_left c name named

-- ---- tags
names_found : (tags : List Tag) (name : List ℕ) → has_name (tag_names tags) name ≡ has_tag tags name
names_found [] name = refl
names_found (tag ∷ more) name =
    elim (pointwise ◌==◌ tag.name name) as (λ b. (b || has_name (tag_names more) name) ≡ is_some (option_map (λ (t : Tag). t.usn) (if b then Some tag else Rattle.std.specs.Prelude.find (λ (t : Tag). pointwise ◌==◌ t.name name) more))) [
      | true ↦ refl
      | false ↦ names_found more name
    ]

some_number : (b : Bool) → is_some (if b then Some (pos 0) else None) ≡ b
some_number true = refl
some_number false = refl

pub upload_tags : (c committed : Collection) (accepted : List Request) (upload : Request) (now : ℤ) (name : List ℕ) → upload.ask ≡ asks.Upload (whole_to_send c)
    → has_tag (closed committed accepted upload now).head.tags name ≡ has_tag c.head.tags name
unfolding closed
upload_tags c committed accepted upload now name is =
    ap (λ (ask : Ask). has_tag (closed_by committed (asks_of accepted) ask now).head.tags name) is
    ∙ ap (λ (o : Option ℤ). is_some o) (tags_are_united (pos 0) (tag_names c.head.tags) [] name)
    ∙ some_number (has_name (tag_names c.head.tags) name)
    ∙ names_found c.head.tags name

pub upload_settings : (c committed : Collection) (accepted : List Request) (upload : Request) (now : ℤ) → upload.ask ≡ asks.Upload (whole_to_send c) → settings_of (closed committed accepted upload now).head ≡ settings_of c.head
unfolding closed
upload_settings c committed accepted upload now is = ap (λ (ask : Ask). settings_of (closed_by committed (asks_of accepted) ask now).head) is
