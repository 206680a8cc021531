-- What an undo leaves, and when it may be done: which steps fit a server's collection, and which lists of steps suit a device's.
use Rattle.ak_merge.specs.Edits.{Edit, Admits, DoesChange, IsEdited, GivesFreshSchema, reversal_of, edited, advanced, second_of, Reversal}
use Rattle.ak_keep.specs.Graves.{RowsByName}
use Rattle.ak_merge.specs.Holdings.{AreNamed, row_under, IsSingle, tag_usn, has_tag}
use Rattle.ak_merge.specs.Links.{AreLinked}
use Rattle.ak_keep.specs.Collections.{Collection}
use Rattle.ak_base.specs.Tables.{graves_of, has_stamps}
use Rattle.ak_base.specs.Contents.{same_but_stamp_and_usn}
use Rattle.std.specs.Prelude.{◌≡◌, ◌≢◌, ℕ, ℤ, negsuc, ◌≤ℤ◌, ◌<ℤ◌, Bool, true, false, not, IsTrue, List, [], ◌∷◌, take, Option, Some, None, IfSome, is_some, ◌⊎◌}
use Rattle.std.specs.Option.{option_and_then, option_map_or, unwrap_or}
use Rattle.ak_base.specs.Rows.{name_of, stamp_of, usn_of}
use Rattle.ak_base.specs.declared.heads.Tag.{Tag}
use Rattle.ak_base.specs.declared.names.Name.{Name}
use Rattle.ak_base.specs.declared.names.Table.{Table}
use Rattle.ak_base.specs.declared.rows.Row.{Row}

-- ---- the undo
-- the greatest of now, the stamp before the step plus 1 and, if the row is held, its present stamp plus 1
abbrev pub undone_stamp : ℤ → Row → Option Row → ℤ
undone_stamp second before None = advanced second (stamp_of before)
undone_stamp second before (Some present) = advanced (advanced second (stamp_of before)) (stamp_of present)

-- what an undo leaves under a name, of the step's entry and what stands there: what the step left alone stays, what it added goes,
-- and the row that it changed or removed is back, not sent yet
abbrev pub undone_row : ℤ → Option (Option Row) → Option Row → Option Row
undone_row second None present = present
undone_row second (Some None) present = None
undone_row second (Some (Some before)) present = Some (edited (undone_stamp second before present) before)

-- what an undo of the step leaves at this moment
pub record IsUndone (at : ℤ) (c : Collection) (step : Reversal) (after : Collection) : Type 0 where
  pub rows : (name : Name) → row_under after name ≡ undone_row (second_of at) (step.rows name) (row_under c name)
  -- the settings and the tags are those before the step
  pub conf : after.head.conf ≡ step.conf
  pub tags : after.head.tags ≡ step.tags
  -- the moment rises, and the rest of the head stays
  pub moment : after.head.moment ≡ advanced at c.head.moment
  pub schema : after.head.schema ≡ c.head.schema
  pub usn : after.head.usn ≡ c.head.usn
  pub last_sync : after.head.last_sync ≡ c.head.last_sync
  pub crt : after.head.crt ≡ c.head.crt

-- nothing on either side, or rows that are equal in every column but the stamp and the usn
abbrev pub same_fields : Option Row → Option Row → Bool
same_fields None None = true
same_fields None (Some y) = false
same_fields (Some x) None = false
same_fields (Some x) (Some y) = same_but_stamp_and_usn x y

-- a collection is as one was, stamps and usns of rows aside
pub record IsBack (was back : Collection) : Type 0 where
  pub rows : (name : Name) → IsTrue (same_fields (row_under was name) (row_under back name))
  pub tags : back.head.tags ≡ was.head.tags
  pub conf : back.head.conf ≡ was.head.conf
  pub crt : back.head.crt ≡ was.head.crt

-- ---- steps that fit a server's collection
-- how a step fits a server's collection of the same schema moment, u being the device's usn
pub record StepFitsParts (u : ℤ) (step : Reversal) (s : Collection) : Type 0 where
  -- it is at most the server's
  pub usn : u ≤ℤ s.head.usn
  -- the server holds with a usn below it no row and no grave that the step added
  pub added : (name : Name) → step.rows name ≡ Some None → IfSome (row_under s name) (λ row. u ≤ℤ usn_of row)
  -- the server holds with a usn below it no tag that the step's tags lack
  pub tags : (name : List ℕ) → has_tag step.tags name ≡ false → IfSome (tag_usn s.head.tags name) (λ number. u ≤ℤ number)
  -- of a row that the step changed or removed, the server holds with a usn below it none with a greater stamp than before the step
  pub older : (name : Name) (before : Row) → step.rows name ≡ Some (Some before) → IfSome (row_under s name) (λ row. usn_of row <ℤ u → stamp_of row ≤ℤ stamp_of before)

-- the schema moments differ, or all of that holds
abbrev pub StepFits : Collection → Reversal → Collection → Type 0
StepFits c step s = (c.head.schema ≢ s.head.schema) ⊎ StepFitsParts c.head.usn step s

-- ---- lists of steps that suit a collection
-- whether the step added the grave of this name; the row that it holds under the name is then one that it removed, else one that it changed
abbrev pub adds_grave : Reversal → Name → Bool
adds_grave step name =
    option_map_or (λ (before : Option Row). not (is_some before))
    (option_and_then (λ (graves : Table). step.rows (record { table = graves; id = name.id })) (graves_of name.table)) false

-- a tag of the list is one of the step's, with the usn that it has there, or was not sent yet
abbrev pub IsTagKept : Option ℤ → Option ℤ → Type 0
IsTagKept before number = (before ≡ number) ⊎ ((before ≡ None) × (number ≡ Some (negsuc 0)))

-- how the latest step suits what stands under the names of a collection, and its tags
pub record StepSuits (step : Reversal) (at : RowsByName) (tags : List Tag) : Type 0 where
  -- the rows that it holds are notes, cards, note types, decks and options rows, each under its name
  pub named : (name : Name) (before : Row) → step.rows name ≡ Some (Some before) → name_of before ≡ name
  pub kinds : (name : Name) (before : Row) → step.rows name ≡ Some (Some before) → IsTrue (has_stamps name.table)
  -- each row that it changed is held
  pub changed : (name : Name) (before : Row) → step.rows name ≡ Some (Some before) → adds_grave step name ≡ false → IsTrue (is_some (at name))
  -- each row that it removed is not held, and its grave is among those that the step added
  pub removed : (name : Name) (before : Row) → step.rows name ≡ Some (Some before) → IsTrue (adds_grave step name) → at name ≡ None
  -- each grave that it added is of such a removed row
  pub graves : (name : Name) → IsTrue (adds_grave step name) → (before : Row) × (step.rows name ≡ Some (Some before))
  -- each row and grave that it added is held
  pub added : (name : Name) → step.rows name ≡ Some None → IsTrue (is_some (at name))
  -- its tags are those of the collection without some that were not sent yet
  pub tags_kept : (name : List ℕ) → IsTagKept (tag_usn step.tags name) (tag_usn tags name)

-- what stands under each name when the step's rows are put back and the rows and graves that it added are gone
abbrev pub put_back : Reversal → RowsByName → RowsByName
put_back step at name = unwrap_or (step.rows name) (at name)

-- the steps, the latest first, suit what stands under the names of a collection, and its tags: no row stands beside its own grave, the
-- latest step suits it, and the other steps suit what is there when that step is put back
abbrev pub StepsSuit : List Reversal → RowsByName → List Tag → Type 0
StepsSuit [] at tags = IsSingle at
StepsSuit (step ∷ steps) at tags = IsSingle at × StepSuits step at tags × StepsSuit steps (put_back step at) step.tags

-- ---- the list after an edit
-- nothing changed, and the list is the same
pub record IsListKept (c after : Collection) (steps now : List Reversal) : Type 0 where
  pub unchanged : after ≡ c
  pub list : now ≡ steps

-- the edit changes the schema, and the list is empty
pub record IsListEmptied (edit : Edit) (now : List Reversal) : Type 0 where
  pub schema : IsTrue edit.schema
  pub list : now ≡ []

-- the edit leaves the schema and changes something: its step comes first, and the latest 30 steps stay
pub record IsListPushed (c : Collection) (edit : Edit) (steps now : List Reversal) : Type 0 where
  pub schema : edit.schema ≡ false
  pub changes : DoesChange c edit
  pub list : now ≡ take 30 (reversal_of c edit ∷ steps)

-- what the undo list of c becomes by an edit that leaves after
abbrev pub IsListAfter : Collection → Edit → Collection → List Reversal → List Reversal → Type 0
IsListAfter c edit after steps now = IsListKept c after steps now ⊎ IsListEmptied edit now ⊎ IsListPushed c edit steps now

-- ---- edits, in one word
-- c becomes after at this moment by this edit, which it admits
pub record IsEdit (at : ℤ) (c : Collection) (edit : Edit) (after : Collection) : Type 0 where
  pub admits : Admits c edit
  pub leaves : IsEdited at c edit after

-- what an edit keeps: names, and that no row stands beside its grave; and if it leaves the schema, every link with a server's collection s,
-- that earlier steps and the step that its undo puts back fit s, and that the undo list with that step suits what is left. After another
-- schema the two are linked if the new moment is not s's
pub record KeepsAll (at : ℤ) (c : Collection) (edit : Edit) (after : Collection) : Type 0 where
  pub named : AreNamed (row_under after)
  pub single : IsSingle (row_under c) → IsSingle (row_under after)
  pub linked : (s : Collection) → edit.schema ≡ false → AreLinked c s → AreLinked after s
  pub parted : (s : Collection) → edit.schema ≡ true → GivesFreshSchema at c s → AreLinked after s
  pub fits : (s : Collection) → edit.schema ≡ false → AreLinked c s → StepFits after (reversal_of c edit) s
  pub older : (s : Collection) (step : Reversal) → edit.schema ≡ false → StepFits c step s → StepFits after step s
  pub suits : (steps : List Reversal) → edit.schema ≡ false → StepsSuit steps (row_under c) c.head.tags
      → StepsSuit (reversal_of c edit ∷ steps) (row_under after) after.head.tags
