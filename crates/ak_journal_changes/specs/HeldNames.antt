-- What of a collection a change tells.
use Rattle.std.specs.Prelude.{◌≡◌, ◌&&◌, if◌then◌else◌, List, [], ◌∷◌, filter, None, is_none}
use Rattle.std.specs.FinMap.{get}
use Rattle.std.specs.List.{cons_option}
use Rattle.ak_base.specs.declared.names.Name.{Name}
use Rattle.ak_base.specs.declared.rows.Row.{Row}
use Rattle.ak_journal_rows.specs.Changes.{is_cut, row_put}
use Rattle.ak_journal_rows.specs.declared.changes.Change.{Change}
use Rattle.ak_keep.specs.Collections.{Holding, Rows}
use Rattle.ak_tables.specs.Tables.{is_among}
use Rattle.ak_tables.specs.declared.touched.Touched.{Touched}

-- the change tells of what was touched, by what is held now: under each touched name the row that is held, or that none is; nothing under
-- any other name; and the head, if it was touched
pub record IsChangeOf (touched : Touched) (now : Holding) (change : Change) : Type 0 where
  pub all : change.all ≡ touched.whole
  pub put : (name : Name) → row_put change.put name ≡ (if is_among touched.names name then get now.rows name else None)
  pub cut : (name : Name) → is_cut change.cut name ≡ (is_among touched.names name && is_none (get now.rows name))
  pub head : change.head ≡ (if touched.head then now.head else None)

-- ---- what the contracts of private functions cite
-- the rows that are held under these names
abbrev pub rows_held : Rows → List Name → List Row
rows_held rows [] = []
rows_held rows (name ∷ names) = cons_option (get rows name) (rows_held rows names)

-- those of the names under which none is held
abbrev pub names_free : Rows → List Name → List Name
names_free rows names = filter (λ name. is_none (get rows name)) names
