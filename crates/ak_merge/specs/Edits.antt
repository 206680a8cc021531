-- What an edit leaves: stamps, usns, graves, tags and moments, and the step that its undo puts back.
use Rattle.ak_base.specs.Rows.{with_stamp, with_usn, stamp_of}
use Rattle.ak_base.specs.Contents.{same_but_stamp_and_usn}
use Rattle.ak_base.specs.Tables.{grave_code, buried_name}
use Rattle.ak_keep.specs.Collections.{Collection}
use Rattle.std.specs.Prelude.{◌≡◌, ◌≢◌, ℕ, ℤ, pos, negsuc, ◌+ℤ◌, Bool, true, false, not, IsTrue, if◌then◌else◌, List, Option, Some, None, ◌⊎◌}
use Rattle.std.specs.Int.{int_max}
use Rattle.std.specs.Int.RustNames.{int_div}
use Rattle.std.specs.Option.{option_map, option_map_or}
use Rattle.ak_base.specs.declared.heads.Conf.{Conf}
use Rattle.ak_base.specs.declared.heads.Tag.{Tag}
use Rattle.ak_base.specs.declared.names.Name.{Name}
use Rattle.ak_base.specs.declared.names.Table.TheVariants as tables
use Rattle.ak_base.specs.declared.rows.Row.{Row}
use Rattle.ak_base.specs.declared.rows.Row.TheVariants as rows
use Rattle.ak_merge.specs.Tags.{has_name, tags_taken}
use Rattle.ak_keep.specs.Graves.{RowsByName, is_dead}
use Rattle.ak_merge.specs.Holdings.{name_in, row_under, AreNamed, has_tag}

-- what an edit asks for: what is to stand under each name but the graves', the settings, the names of the tags that are to be
-- held, and whether it changes the schema
pub record Edit : Type 0 where
  pub rows : RowsByName
  pub conf : Conf
  pub tags : List (List ℕ)
  pub schema : Bool

-- ---- stamps and moments
-- the row with this stamp, not sent yet
abbrev pub edited : ℤ → Row → Row
edited stamp row = with_usn (with_stamp row stamp) (negsuc 0)

-- the greater of now and the old one plus 1: what a stamp or a moment becomes
abbrev pub advanced : ℤ → ℤ → ℤ
advanced now old = int_max now (old +ℤ pos 1)

-- the second in which a moment lies, which is in milliseconds and at least 0
abbrev pub second_of : ℤ → ℤ
second_of at = int_div at (pos 1000)

-- ---- rows
-- whether an edit changes what stands under the name of a row, of what stood there and what is to stand there
abbrev pub changes_row : Option Row → Option Row → Bool
changes_row None None = false
changes_row None (Some made) = true
changes_row (Some before) None = true
changes_row (Some before) (Some made) = not (same_but_stamp_and_usn made before)

-- what an edit leaves under the name of a row: a new row has the stamp of now, one whose fields are as before is as it was, another
-- has the stamp that the one before rises to
abbrev pub edited_row : ℤ → Option Row → Option Row → Option Row
edited_row second None None = None
edited_row second None (Some made) = Some (edited second made)
edited_row second (Some before) None = None
edited_row second (Some before) (Some made) = if same_but_stamp_and_usn made before then Some before else Some (edited (advanced second (stamp_of before)) made)

-- ---- graves
-- whether a row goes
abbrev pub goes : Option Row → Option Row → Bool
goes None made = false
goes (Some before) None = true
goes (Some before) (Some made) = false

-- the grave that a row of this name leaves, not sent yet
abbrev pub grave_left : Name → Option Row
grave_left name = option_map (λ (kind : ℤ). rows.Grave (record { usn = negsuc 0; oid = name.id; kind = kind })) (grave_code name.table)

-- ---- every name
-- whether an edit changes what stands under a name: of a grave's name, whether the row goes
abbrev pub changes_under : RowsByName → RowsByName → Name → Bool
changes_under before made name = option_map_or (λ (row : Name). goes (before row) (made row)) (buried_name name) (changes_row (before name) (made name))

-- what an edit leaves under a name: under a grave's, the grave of the row if that goes, else what stood there
abbrev pub edited_under : ℤ → RowsByName → RowsByName → RowsByName
edited_under second before made name =
    option_map_or (λ (row : Name). if goes (before row) (made row) then grave_left row else before name) (buried_name name)
    (edited_row second (before name) (made name))

-- ---- the edit
-- what an edit may ask for
pub record Admits (c : Collection) (edit : Edit) : Type 0 where
  -- each row is to stand under its own name
  pub named : AreNamed edit.rows
  -- a new row takes no name whose grave is held
  pub free : (name : Name) (row : Row) → row_under c name ≡ None → edit.rows name ≡ Some row → is_dead (row_under c) name ≡ false
  -- the reviews that are held stay as they are
  pub reviews : (id : ℤ) (row : Row) → row_under c (name_in tables.Review id) ≡ Some row → edit.rows (name_in tables.Review id) ≡ Some row
  -- note types and options rows go only if the schema changes, since they leave no graves
  pub types : (id : ℤ) → edit.schema ≡ false → edit.rows (name_in tables.NoteType id) ≡ None → row_under c (name_in tables.NoteType id) ≡ None
  pub options : (id : ℤ) → edit.schema ≡ false → edit.rows (name_in tables.Options id) ≡ None → row_under c (name_in tables.Options id) ≡ None

-- an edit changes something: a row, the tags, the settings or the schema
abbrev pub DoesChange : Collection → Edit → Type 0
DoesChange before edit =
    ((name : Name) × IsTrue (changes_under (row_under before) edit.rows name))
    ⊎ ((tag : List ℕ) × IsTrue (has_name edit.tags tag) × (has_tag before.head.tags tag ≡ false))
    ⊎ (edit.conf ≢ before.head.conf)
    ⊎ IsTrue edit.schema

-- nothing changed at all, or something did and the moment rose
abbrev pub HasMoved : ℤ → Collection → Edit → Collection → Type 0
HasMoved at before edit after = (after ≡ before) ⊎ (DoesChange before edit × (after.head.moment ≡ advanced at before.head.moment))

-- what an edit leaves at this moment
pub record IsEdited (at : ℤ) (before : Collection) (edit : Edit) (after : Collection) : Type 0 where
  pub rows : (name : Name) → row_under after name ≡ edited_under (second_of at) (row_under before) edit.rows name
  -- each tag that is new was not sent yet
  pub tags : after.head.tags ≡ tags_taken (negsuc 0) edit.tags before.head.tags
  pub conf : after.head.conf ≡ edit.conf
  -- the schema moment rises if the edit changes the schema, and only there
  pub schema : after.head.schema ≡ (if edit.schema then advanced at before.head.schema else before.head.schema)
  -- the moment rises if anything changed
  pub moved : HasMoved at before edit after
  -- the rest of the head stays
  pub crt : after.head.crt ≡ before.head.crt
  pub usn : after.head.usn ≡ before.head.usn
  pub last_sync : after.head.last_sync ≡ before.head.last_sync

-- the schema moment that an edit at this moment gives is not that of the server's collection
abbrev pub GivesFreshSchema : ℤ → Collection → Collection → Type 0
GivesFreshSchema at c s = advanced at c.head.schema ≢ s.head.schema

-- ---- the step of an edit
-- what stood before under exactly the names that it changed, and the settings and the tags before
pub record Reversal : Type 0 where
  pub rows : Name → Option (Option Row)
  pub conf : Conf
  pub tags : List Tag

-- what an undo of this edit puts back
abbrev pub reversal_of : Collection → Edit → Reversal
reversal_of before edit = record {
  rows = λ (name : Name). if changes_under (row_under before) edit.rows name then Some (row_under before name) else None;
  conf = before.head.conf;
  tags = before.head.tags;
}
