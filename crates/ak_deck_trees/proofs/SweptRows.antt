-- What the rows of a table that meet a test, removed one by one, leave under each name.
use Rattle.std.specs.Prelude.{◌≡◌, pos, Bool, true, false, ◌&&◌, ◌||◌, cond, filter, if◌then◌else◌, List, [], ◌∷◌, ◌++◌, map, Option, Some, None}
use Rattle.std.proofs.Common.{refl, sym, ap, ◌∙◌}
use Rattle.std.proofs.lemmas.Option.{none-some, same_Some}
use Rattle.std.specs.FinMap.{entries, find, get, get-entries}
use Rattle.std.specs.List.{AllByRecursion, list_any}
use Rattle.std.specs.Option.{option_map_or}
use Rattle.std.specs.Ordering.{eq_by_cmp}
use Rattle.ak_base.specs.Names.{name_cmp}
use Rattle.ak_base.specs.Rows.{name_of}
use Rattle.ak_base.specs.declared.names.Name.{Name}
use Rattle.ak_base.specs.declared.names.Table.{Table}
use Rattle.ak_base.specs.declared.rows.Row.{Row}
use Rattle.ak_edit_calls.proofs.Overlaying.{removed_under, rest_of}
use Rattle.ak_deck_trees.specs.DeckDeletions.{swept, swept_one}
use Rattle.ak_edit.specs.Overlays.{Overlay, removed_over, row_over}
use Rattle.ak_keep.proofs.Paging.{picked}
use Rattle.ak_keep.proofs.RowsByName.{all_from_gets, entries_found, same_of_tied}
use Rattle.ak_keep.specs.Collections.{Rows, is_past, rows_past}
use Rattle.ak_merge.proofs.EditFacts.{false_true}
use Rattle.ak_keep.specs.Graves.{RowsByName}
use Rattle.ak_merge.specs.Holdings.{AreNamed}

-- ---- what is removed says nothing besides rows
rest_one : (gone : Row → Bool) (row : Row) (o : Overlay) → rest_of (swept_one gone row o) ≡ rest_of o
rest_one gone row o = elim (gone row) as (λ b. rest_of (if b then removed_over (name_of row) o else o) ≡ rest_of o) [ true ↦ refl | false ↦ refl ]

pub rest_swept : (gone : Row → Bool) (rows : List Row) (o : Overlay) → rest_of (swept gone rows o) ≡ rest_of o
rest_swept gone [] o = refl
rest_swept gone (row ∷ rows) o = rest_swept gone rows (swept_one gone row o) ∙ rest_one gone row o

-- some rows and then others
pub swept-append : (gone : Row → Bool) (front rest : List Row) (o : Overlay) → swept gone (front ++ rest) o ≡ swept gone rest (swept gone front o)
swept-append gone [] rest o = refl
swept-append gone (row ∷ front) rest o = swept-append gone front rest (swept_one gone row o)

-- ---- by names
-- whether a row that goes has the name
abbrev pub names_gone : (Row → Bool) → List Row → Name → Bool
names_gone gone rows name = list_any (λ (row : Row). gone row && eq_by_cmp name_cmp name (name_of row)) rows

either_none : (a b : Bool) (x : Option Row) → cond b None (cond a None x) ≡ cond (a || b) None x
either_none true true x = refl
either_none true false x = refl
either_none false true x = refl
either_none false false x = refl

one_under : (gone : Row → Bool) (row : Row) (o : Overlay) (at : RowsByName) (name : Name)
    → row_over (swept_one gone row o) at name ≡ cond (gone row && eq_by_cmp name_cmp name (name_of row)) None (row_over o at name)
one_under gone row o at name =
    elim (gone row) as (λ b. row_over (if b then removed_over (name_of row) o else o) at name ≡ cond (b && eq_by_cmp name_cmp name (name_of row)) None (row_over o at name)) [
      | true ↦ removed_under o at (name_of row) name
      | false ↦ refl
    ]

pub swept_under : (gone : Row → Bool) (rows : List Row) (o : Overlay) (at : RowsByName) (name : Name)
    → row_over (swept gone rows o) at name ≡ cond (names_gone gone rows name) None (row_over o at name)
swept_under gone [] o at name = refl
swept_under gone (row ∷ rows) o at name =
    swept_under gone rows (swept_one gone row o) at name
    ∙ ap (cond (names_gone gone rows name) None) (one_under gone row o at name)
    ∙ either_none (gone row && eq_by_cmp name_cmp name (name_of row)) (names_gone gone rows name) (row_over o at name)

-- ---- the rows of a table
-- whether what stands under the name is a row of the table that goes
abbrev pub goes_in : (Row → Bool) → Table → Name → Option Row → Bool
goes_in gone table name x = option_map_or (λ (row : Row). is_past table (pos 0) name && gone row) x false

-- an entry under the name of its row
abbrev IsNamed : Name × Row → Type 0
IsNamed entry = name_of entry.1 ≡ entry.0

and_first : (a b : Bool) → (a && b) ≡ true → a ≡ true
and_first true b is = refl
and_first false b is = false_true is

and_second : (a b : Bool) → (a && b) ≡ true → b ≡ true
and_second true b is = is
and_second false b is = false_true is

and_both : (a b : Bool) → a ≡ true → b ≡ true → (a && b) ≡ true
and_both true true one other = refl
and_both true false one other = other
and_both false b one other = one

or_true : (b : Bool) → (b || true) ≡ true
or_true true = refl
or_true false = refl

-- what has the name of a row that goes is such a row
among_found : (gone : Row → Bool) (table : Table) (at : RowsByName) (q : Name) (es : List (Name × Row)) → AllByRecursion (λ e. at e.0 ≡ Some e.1) es → AllByRecursion IsNamed es
    → names_gone gone (picked table (pos 0) es) q ≡ true → goes_in gone table q (at q) ≡ true
among_found gone table at q [] found named is = false_true is
among_found gone table at q (e ∷ es) found named is =
    let more = filter (λ (entry : Name × Row). is_past table (pos 0) entry.0) es in
    elim (is_past table (pos 0) e.0) as (λ b. is_past table (pos 0) e.0 ≡ b → names_gone gone (map (λ (entry : Name × Row). entry.1) (cond b (e ∷ more) more)) q ≡ true → goes_in gone table q (at q) ≡ true) [
      | true ↦ λ inside. elim (gone e.1 && eq_by_cmp name_cmp q (name_of e.1)) as (λ b. (gone e.1 && eq_by_cmp name_cmp q (name_of e.1)) ≡ b → (b || names_gone gone (picked table (pos 0) es) q) ≡ true → goes_in gone table q (at q) ≡ true) [
        | true ↦ λ both _.
            let this : q ≡ e.0 = same_of_tied q (name_of e.1) (and_second (gone e.1) (eq_by_cmp name_cmp q (name_of e.1)) both) ∙ named.0 in
            ap (goes_in gone table q) (ap at this ∙ found.0)
            ∙ and_both (is_past table (pos 0) q) (gone e.1) (ap (is_past table (pos 0)) this ∙ inside) (and_first (gone e.1) (eq_by_cmp name_cmp q (name_of e.1)) both)
        | false ↦ λ _ rest. among_found gone table at q es found.1 named.1 rest
      ] refl
      | false ↦ λ _ rest. among_found gone table at q es found.1 named.1 rest
    ] refl is

-- a row of the table that goes and is found under a name has the name of one of them
among_there : (gone : Row → Bool) (table : Table) (q : Name) (row : Row) (es : List (Name × Row)) → AllByRecursion IsNamed es → find name_cmp q es ≡ Some row
    → is_past table (pos 0) q ≡ true → gone row ≡ true → names_gone gone (picked table (pos 0) es) q ≡ true
among_there gone table q row [] named is inside goes = absurd (none-some row is)
among_there gone table q row (e ∷ es) named is inside goes =
    let more = filter (λ (entry : Name × Row). is_past table (pos 0) entry.0) es in
    elim (eq_by_cmp name_cmp q e.0) as (λ b. eq_by_cmp name_cmp q e.0 ≡ b → cond b (Some e.1) (find name_cmp q es) ≡ Some row → names_gone gone (picked table (pos 0) (e ∷ es)) q ≡ true) [
      | true ↦ λ same this.
          let here : is_past table (pos 0) e.0 ≡ true = ap (is_past table (pos 0)) (sym (same_of_tied q e.0 same)) ∙ inside in
          let gone_here : gone e.1 ≡ true = ap gone (same_Some e.1 row this) ∙ goes in
          let tied : eq_by_cmp name_cmp q (name_of e.1) ≡ true = ap (eq_by_cmp name_cmp q) named.0 ∙ same in
          ap (λ b. names_gone gone (map (λ (entry : Name × Row). entry.1) (cond b (e ∷ more) more)) q) here
          ∙ ap (λ b. b || names_gone gone (picked table (pos 0) es) q) (and_both (gone e.1) (eq_by_cmp name_cmp q (name_of e.1)) gone_here tied)
      | false ↦ λ _ rest.
          let others : names_gone gone (picked table (pos 0) es) q ≡ true = among_there gone table q row es named.1 rest inside goes in
          elim (is_past table (pos 0) e.0) as (λ b. names_gone gone (map (λ (entry : Name × Row). entry.1) (cond b (e ∷ more) more)) q ≡ true) [
            | true ↦ ap (λ b. (gone e.1 && eq_by_cmp name_cmp q (name_of e.1)) || b) others ∙ or_true (gone e.1 && eq_by_cmp name_cmp q (name_of e.1))
            | false ↦ others
          ]
    ] refl is

same_bools : (a b : Bool) → (a ≡ true → b ≡ true) → (b ≡ true → a ≡ true) → a ≡ b
same_bools true b one other = sym (one refl)
same_bools false true one other = other refl
same_bools false false one other = refl

pub goes_in_is : (gone : Row → Bool) (table : Table) (held : Rows) (q : Name) → AreNamed (get held)
    → names_gone gone (rows_past table (pos 0) held) q ≡ goes_in gone table q (get held q)
goes_in_is gone table held q named =
    let all : AllByRecursion IsNamed (entries held) = all_from_gets IsNamed held (λ name row is. named name row is) in
    same_bools (names_gone gone (picked table (pos 0) (entries held)) q) (goes_in gone table q (get held q))
    (among_found gone table (get held) q (entries held) (entries_found held) all)
    (elim (get held q) as (λ (x : Option Row). get held q ≡ x → goes_in gone table q x ≡ true → names_gone gone (picked table (pos 0) (entries held)) q ≡ true) [
      | None ↦ λ _ is. false_true is
      | Some row ↦ λ there is. among_there gone table q row (entries held) all (sym (get-entries held q) ∙ there)
          (and_first (is_past table (pos 0) q) (gone row) is) (and_second (is_past table (pos 0) q) (gone row) is)
    ] refl)
