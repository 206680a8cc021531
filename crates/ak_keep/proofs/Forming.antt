-- What keeps a collection well formed, and what is known of the rows that it gives.
use Rattle.std.specs.Prelude.{◌≡◌, ℕ, ℤ, Bool, true, false, cond, List, map, filter, take, Option, Some, None, IfSome}
use Rattle.std.proofs.lemmas.Option.{none-some, same_Some}
use Rattle.std.proofs.Common.{sym, subst, ◌∙◌}
use Rattle.std.proofs.lemmas.List.Elements.{All-take, All-filter, All-map, All-from_recursion, recursion_from_All}
use Rattle.std.specs.FinMap.{get, insert, empty, entries, get-empty, get-insert, get-from_entries}
use Rattle.std.specs.List.{All, AllByRecursion}
use Rattle.ak_base.specs.Heads.{IsHeadInRange}
use Rattle.ak_base.specs.Names.{name_cmp, names_total}
use Rattle.ak_base.specs.Rows.{IsChecked, name_of}
use Rattle.ak_base.specs.declared.heads.Head.{Head}
use Rattle.ak_base.specs.declared.names.Name.{Name}
use Rattle.ak_base.specs.declared.names.Table.{Table}
use Rattle.ak_base.specs.declared.rows.Row.{Row}
use Rattle.ak_keep.specs.Collections.{Rows, Holding, IsWellFormed, rows_of, is_past, rows_past, wanted_past, is_wanted, with_row, without, made_of}
use Rattle.ak_keep.proofs.RowsByName.{IsNamed, named-empty, named-insert, named-rows_of, all_from_gets, all_find, all_gets, all-remove}
use Rattle.ak_keep.specs.declared.keepers.Wanted.{Wanted}

pub checked_gets : (rows : Rows) (q : Name) (row : Row) → AllByRecursion (λ (entry : Name × Row). IsChecked entry.1) (entries rows) → get rows q ≡ Some row → IsChecked row
checked_gets rows q row h is = all_gets (λ entry. IsChecked entry.1) rows q row h is

checked_from_gets : (rows : Rows) → ((q : Name) (row : Row) → get rows q ≡ Some row → IsChecked row) → AllByRecursion (λ (entry : Name × Row). IsChecked entry.1) (entries rows)
checked_from_gets rows h = all_from_gets (λ entry. IsChecked entry.1) rows h

pub formed-empty : IsWellFormed (record { rows = empty; head = None })
formed-empty = record {
  named = named-empty;
  checked = checked_from_gets empty (λ q row is. absurd (none-some row (sym (get-empty name_cmp q) ∙ is)));
  head = tt;
}

checked_where : (b : Bool) (o : Option Row) (row other : Row) → IsChecked row → (o ≡ Some other → IsChecked other) → cond b (Some row) o ≡ Some other → IsChecked other
checked_where true o row other h k is = subst IsChecked (same_Some row other is) h
checked_where false o row other h k is = k is

pub formed-with_row : (row : Row) (c : Holding) → IsChecked row → IsWellFormed c → IsWellFormed (with_row row c)
formed-with_row row c fine h = record {
  named = named-insert c.rows row h.named;
  checked = checked_from_gets (insert c.rows (name_of row) row) (λ q other is.
      checked_where _ (get c.rows q) row other fine (checked_gets c.rows q other h.checked) (sym (get-insert names_total c.rows (name_of row) row q) ∙ is));
  head = h.head;
}

pub formed-without : (name : Name) (c : Holding) → IsWellFormed c → IsWellFormed (without name c)
formed-without name c h = record {
  named = all-remove IsNamed c.rows name h.named;
  checked = all-remove (λ entry. IsChecked entry.1) c.rows name h.checked;
  head = h.head;
}

pub formed-made_of : (rows : List Row) (head : Head) → All IsChecked rows → IsHeadInRange head → IsWellFormed (made_of rows head)
formed-made_of rows head fine range =
    let es = map (λ (row : Row). (name_of row, row)) rows in
    let all : AllByRecursion (λ (entry : Name × Row). IsChecked entry.1) es = recursion_from_All (λ (entry : Name × Row). IsChecked entry.1) es (All-map (λ (entry : Name × Row). IsChecked entry.1) (λ (row : Row). (name_of row, row)) rows fine) in
    record {
      named = named-rows_of rows;
      checked = checked_from_gets (rows_of rows) (λ q row is. all_find (λ entry. IsChecked entry.1) q row es all (sym (get-from_entries names_total es q) ∙ is));
      head = range;
    }

-- ---- the rows that it gives
pub checked-get : (c : Holding) (q : Name) (found : Option Row) → IsWellFormed c → found ≡ get c.rows q → IfSome found IsChecked
checked-get c q None h is = tt
checked-get c q (Some row) h is = checked_gets c.rows q row h.checked (sym is)

all_checked : (c : Holding) (table : Table) (past : ℤ) → IsWellFormed c → All IsChecked (rows_past table past c.rows)
all_checked c table past h =
    let test : Name × Row → Bool = λ entry. is_past table past entry.0 in
    All-map IsChecked (λ (entry : Name × Row). entry.1) (filter test (entries c.rows))
    (All-filter test (λ (entry : Name × Row). IsChecked entry.1) (entries c.rows) (All-from_recursion (λ (entry : Name × Row). IsChecked entry.1) (entries c.rows) h.checked))

pub checked-page : (c : Holding) (table : Table) (past : ℤ) (limit : ℕ) (page : List Row) → IsWellFormed c → page ≡ take limit (rows_past table past c.rows) → All IsChecked page
checked-page c table past limit page h is =
    subst (All IsChecked) (sym is) (All-take IsChecked limit (rows_past table past c.rows) (all_checked c table past h))

pub checked-wanted : (c : Holding) (table : Table) (want : Wanted) (past : ℤ) (limit : ℕ) (page : List Row) → IsWellFormed c → page ≡ take limit (wanted_past table want past c.rows) → All IsChecked page
checked-wanted c table want past limit page h is =
    subst (All IsChecked) (sym is)
    (All-take IsChecked limit (wanted_past table want past c.rows) (All-filter (is_wanted want) IsChecked (rows_past table past c.rows) (all_checked c table past h)))
