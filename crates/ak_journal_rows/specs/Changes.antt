-- What a commit changed of a collection, and what changes make of one.
use Rattle.std.specs.Prelude.{◌≡◌, true, is_some, if◌then◌else◌, Bool, Option, List, [], ◌∷◌, map, ℤ, pos, negsuc, None, IfSome}
use Rattle.std.specs.FinMap.{empty, insert, remove}
use Rattle.std.specs.BTreeMap.{is_at}
use Rattle.std.specs.List.{All, AllByRecursion, list_any}
use Rattle.std.specs.List.Sorted.{IsStrictlySortedBy}
use Rattle.std.specs.Option.{option_or}
use Rattle.ak_base.specs.Heads.{IsHeadInRange, IsWithin}
use Rattle.ak_base.specs.Names.{name_cmp}
use Rattle.ak_base.specs.Rows.{IsChecked, name_of}
use Rattle.ak_base.specs.declared.names.Name.{Name}
use Rattle.ak_base.specs.declared.rows.Row.{Row}
use Rattle.ak_keep.specs.Collections.{Holding, Rows}
use Rattle.ak_keep.specs.Entries.{row_at}
use Rattle.ak_journal_rows.specs.declared.changes.Change.{Change}

-- ---- a change
-- a whole number of 64 bits with its sign
abbrev pub IsWord : ℤ → Type 0
IsWord z = IsWithin (negsuc 9_223_372_036_854_775_807) (pos 9_223_372_036_854_775_807) z

-- its id is one
abbrev pub HasWordId : Name → Type 0
HasWordId name = IsWord name.id

-- a name is listed by itself
abbrev pub own_name : Name → Name
own_name name = name

-- each of these has what is asked of it, and their names ascend, none twice
pub record AreListed {A : Type 0} (fits : A → Type 0) (named : A → Name) (entries : List A) : Type 0 where
  pub each : All fits entries
  pub ascending : IsStrictlySortedBy name_cmp (map named entries)

-- the row of this name among these
abbrev pub row_put : List Row → Name → Option Row
row_put put name = row_at (map (λ row. (name_of row, row)) put) name

-- none of these rows has one of these names
abbrev pub AreApart : List Row → List Name → Type 0
AreApart put cut = AllByRecursion (λ name. row_put put name ≡ None) cut

-- names and rows are listed by table and then by id, no name both as cut and as put; the rows and the head are in their ranges; and where
-- all rows were replaced the head was set too
pub record IsOfForm (change : Change) : Type 0 where
  pub cut : AreListed HasWordId own_name change.cut
  pub put : AreListed IsChecked name_of change.put
  pub apart : AreApart change.put change.cut
  pub head : IfSome change.head IsHeadInRange
  pub headed : change.all ≡ true → is_some change.head ≡ true

-- ---- what it makes of a collection
-- without the rows of these names
abbrev pub all_cut : List Name → Rows → Rows
all_cut [] rows = rows
all_cut (name ∷ names) rows = all_cut names (remove rows name)

-- with these rows
abbrev pub all_put : List Row → Rows → Rows
all_put [] rows = rows
all_put (row ∷ more) rows = all_put more (insert rows (name_of row) row)

-- the rows that are left where all were replaced, or not
abbrev pub left_by : Change → Holding → Rows
left_by change held = if change.all then empty else held.rows

-- what a change makes of what was held: nothing is left if all rows were replaced; then names are cut, and then rows are put. A head that
-- was set stands in place of the one before
abbrev pub after_change : Change → Holding → Holding
after_change change held = record {
  rows = all_put change.put (all_cut change.cut (left_by change held));
  head = option_or change.head held.head;
}

-- whether the name is one of these
abbrev pub is_cut : List Name → Name → Bool
is_cut names name = list_any (λ (cut : Name). is_at (name_cmp name) cut) names

-- what a journal without frames holds
abbrev pub nothing_held : Holding
nothing_held = record { rows = empty; head = None }
