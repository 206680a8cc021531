-- Ways to build an edit, one change at a time, and when an edit that is admitted stays so.
use Rattle.std.specs.Prelude.{◌≡◌, ℕ, Bool, true, false, if◌then◌else◌, List, [], ◌++◌, Some, None}
use Rattle.std.specs.Option.{option_and_then, option_map}
use Rattle.std.specs.Ordering.{eq_by_cmp}
use Rattle.ak_base.specs.Names.{name_cmp}
use Rattle.ak_base.specs.Rows.{name_of}
use Rattle.ak_base.specs.declared.heads.Conf.{Conf}
use Rattle.ak_base.specs.declared.names.Name.{Name}
use Rattle.ak_base.specs.declared.names.Table.TheVariants as tables
use Rattle.ak_base.specs.declared.rows.Row.{Row}
use Rattle.ak_keep.specs.Collections.{Collection}
use Rattle.ak_merge.specs.Edits.{Edit}
use Rattle.ak_keep.specs.Graves.{is_dead}
use Rattle.ak_merge.specs.Holdings.{row_under}

-- the edit that leaves all of a collection as it is
abbrev pub unedited : Collection → Edit
unedited c = record { rows = row_under c; conf = c.head.conf; tags = []; schema = false }

-- with this row under its name
abbrev pub with_row : Row → Edit → Edit
with_row row edit = record edit { rows = λ (name : Name). if eq_by_cmp name_cmp name (name_of row) then Some row else edit.rows name }

-- with nothing under this name
abbrev pub without_row : Name → Edit → Edit
without_row gone edit = record edit { rows = λ (name : Name). if eq_by_cmp name_cmp name gone then None else edit.rows name }

-- without the rows that meet a test
abbrev pub without_rows : (Row → Bool) → Edit → Edit
without_rows gone edit = record edit { rows = λ (name : Name). option_and_then (λ (row : Row). if gone row then None else Some row) (edit.rows name) }

-- with each row changed by this function, which leaves alone what is not to change
abbrev pub with_rows_mapped : (Row → Row) → Edit → Edit
with_rows_mapped change edit = record edit { rows = λ (name : Name). option_map change (edit.rows name) }

-- with these tags held too
abbrev pub with_tags : List (List ℕ) → Edit → Edit
with_tags names edit = record edit { tags = edit.tags ++ names }

-- with these settings
abbrev pub with_conf : Conf → Edit → Edit
with_conf conf edit = record edit { conf = conf }

-- with another schema
abbrev pub with_schema : Edit → Edit
with_schema edit = record edit { schema = true }

-- an edit of c may put this row: a new one takes no name whose grave is held, and a review that is held stays as it is
pub record MayPut (c : Collection) (row : Row) : Type 0 where
  pub free : row_under c (name_of row) ≡ None → is_dead (row_under c) (name_of row) ≡ false
  pub review : (name_of row).table ≡ tables.Review → row_under c (name_of row) ≡ None

-- an edit of c may remove what has this name: no review that is held, and a note type or options that are held only if it changes the
-- schema
pub record MayRemove (c : Collection) (schema : Bool) (name : Name) : Type 0 where
  pub review : name.table ≡ tables.Review → row_under c name ≡ None
  pub note_type : schema ≡ false → name.table ≡ tables.NoteType → row_under c name ≡ None
  pub options : schema ≡ false → name.table ≡ tables.Options → row_under c name ≡ None

-- a function by which an edit may change rows: each keeps its name, and a review stays as it is
pub record MayMap (change : Row → Row) : Type 0 where
  pub name : (row : Row) → name_of (change row) ≡ name_of row
  pub review : (row : Row) → (name_of row).table ≡ tables.Review → change row ≡ row

-- a test of the rows that an edit may remove: no review meets it, and a note type or options only if it changes the schema
pub record MaySweep (schema : Bool) (gone : Row → Bool) : Type 0 where
  pub review : (row : Row) → (name_of row).table ≡ tables.Review → gone row ≡ false
  pub note_type : (row : Row) → schema ≡ false → (name_of row).table ≡ tables.NoteType → gone row ≡ false
  pub options : (row : Row) → schema ≡ false → (name_of row).table ≡ tables.Options → gone row ≡ false
