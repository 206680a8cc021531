-- Rows that no device has synced with, under a head that gives 1: a server may hold them.
use Rattle.std.proofs.Common.{◌≡◌, ℕ, pos, false, is_some, List, [], ◌∷◌, map, Option, Some, None, IfSome, refl, sym, ◌∙◌, subst}
use Rattle.std.specs.FinMap.{get, get-from_entries}
use Rattle.std.specs.List.{AllByRecursion}
use Rattle.ak_base.specs.Heads.{IsHeadInRange}
use Rattle.ak_base.specs.Names.{names_total}
use Rattle.ak_base.specs.Rows.{IsChecked, name_of, usn_of}
use Rattle.ak_base.specs.Tables.{graves_of}
use Rattle.ak_base.specs.declared.heads.Head.{Head}
use Rattle.ak_base.specs.declared.heads.Tag.{Tag}
use Rattle.ak_base.specs.declared.names.Name.{Name}
use Rattle.ak_base.specs.declared.names.Table.{Table}
use Rattle.ak_base.specs.declared.rows.Row.{Row}
use Rattle.ak_keep.proofs.RowsByName.{all_find, named-get, named-rows_of}
use Rattle.ak_keep.specs.Collections.{rows_of}
use Rattle.ak_merge.proofs.CommitLaws.{when_some}
use Rattle.ak_merge.proofs.FirstLinks.{openings_are_lawful}
use Rattle.ak_merge.proofs.TakingLaws.{buries, grave_in, its_grave}
use Rattle.ak_merge.specs.Commits.{IsCommitted}
use Rattle.ak_merge.specs.Holdings.{tag_usn}

-- ---- what stands under a name
abbrev entries_of : List Row → List (Name × Row)
entries_of rows = map (λ (row : Row). (name_of row, row)) rows

each_entry : (P : Row → Type 0) (rows : List Row) → AllByRecursion P rows → AllByRecursion (λ (entry : Name × Row). P entry.1) (entries_of rows)
each_entry P [] all = tt
each_entry P (row ∷ rows) all = (all.0, each_entry P rows all.1)

-- what holds of each row holds of whatever stands there
pub each_stands : (P : Row → Type 0) (rows : List Row) → AllByRecursion P rows → (name : Name) (row : Row) → get (rows_of rows) name ≡ Some row → P row
each_stands P rows all name row is =
    all_find (λ (entry : Name × Row). P entry.1) name row (entries_of rows) (each_entry P rows all)
    (sym (get-from_entries names_total (entries_of rows) name) ∙ is)

-- ---- graves and numbers
abbrev pub IsNoGrave : Row → Type 0
IsNoGrave row = (name : Name) → buries row name ≡ false

abbrev pub IsNew : Row → Type 0
IsNew row = usn_of row ≡ pos 0

no_grave : (rows : List Row) → AllByRecursion IsNoGrave rows → (name : Name) (graves : Option Table) → graves_of name.table ≡ graves
    → is_some (grave_in (get (rows_of rows)) name graves) ≡ false
no_grave rows none name None is = refl
no_grave rows none name (Some graves) is =
    let grave : Name = record { table = graves; id = name.id } in
    elim (get (rows_of rows) grave) as (λ (it : Option Row). get (rows_of rows) grave ≡ it → is_some it ≡ false) [
      | None ↦ λ _. refl
      | Some row ↦ λ held.
          let clear : buries row name ≡ false = each_stands IsNoGrave rows none grave row held name in
          let one = its_grave row name graves is (sym (named-get (rows_of rows) grave row (named-rows_of rows) held)) in
          sym one ∙ clear
    ] refl

no_tag : (tags : List Tag) → tags ≡ [] → (name : List ℕ) → IfSome (tag_usn tags name) (λ number. number ≡ pos 0)
no_tag tags none name = subst (λ (tags : List Tag). IfSome (tag_usn tags name) (λ number. number ≡ pos 0)) (sym none) tt

-- ---- all of it
pub new_is_committed : (rows : List Row) (head : Head) → AllByRecursion IsChecked rows → AllByRecursion IsNew rows → AllByRecursion IsNoGrave rows
    → IsHeadInRange head → head.usn ≡ pos 1 → head.tags ≡ [] → IsCommitted (record { rows = rows_of rows; head = head })
new_is_committed rows head checked new none range usn tags =
    openings_are_lawful (record { rows = rows_of rows; head = head })
    (λ name row held. named-get (rows_of rows) name row (named-rows_of rows) held)
    (each_stands IsChecked rows checked) range
    (record {
      rows = λ name. when_some IsNew (get (rows_of rows) name) (each_stands IsNew rows new name);
      tags = no_tag head.tags tags;
      graves = λ name. no_grave rows none name (graves_of name.table) refl;
      usn = usn;
    })
