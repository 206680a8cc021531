-- The step of an edit fits each collection with which the device was linked, and the list with it suits what the edit leaves.
use Rattle.ak_keep.specs.Graves.{RowsByName, grave_under, is_dead}
use Rattle.ak_merge.specs.Holdings.{name_in, AreNamed, row_under, IsSingle, tag_usn}
use Rattle.ak_keep.specs.Collections.{Collection}
use Rattle.ak_base.specs.Tables.{has_stamps}
use Rattle.std.specs.Prelude.{◌≡◌, ℕ, ℤ, ◌≤ℤ◌, ◌<ℤ◌, Bool, true, false, not, IsTrue, List, Option, Some, None, IfSome, is_some}
use Rattle.std.proofs.Common.{cond, inl, inr, refl, sym, ap, subst, ◌∙◌}
use Rattle.std.specs.Option.{option_map_or}
use Rattle.ak_base.specs.Rows.{name_of, stamp_of, usn_of}
use Rattle.ak_base.specs.declared.heads.Tag.{Tag}
use Rattle.ak_base.specs.declared.names.Name.{Name}
use Rattle.ak_base.specs.declared.names.Table.{Table}
use Rattle.ak_base.specs.declared.names.Table.TheVariants as tables
use Rattle.ak_base.specs.declared.rows.Row.{Row}
use Rattle.ak_merge.proofs.EditFacts.{either_way, false_true, none_held, LinkedParts, parts_of}
use Rattle.ak_merge.specs.Tags.{has_name}
use Rattle.ak_merge.specs.Links.{AreLinked}
use Rattle.ak_merge.specs.Edits.{Edit, second_of, edited_row, goes, grave_left, edited_under, changes_row, changes_under, Admits, IsEdited, reversal_of}
use Rattle.ak_merge.specs.Undoing.{StepFitsParts, StepFits, adds_grave, IsTagKept, StepSuits, put_back}
use Rattle.ak_merge.proofs.EditCells.{edited_tag, edited_grave, untaken, unshared, untagged, taken_older, entry_of, new_if, review_stays, grave_added, grave_added_left, held_after, gone_after, gone_entry, stays_held, new_after, kept_tag, back_row, back_grave}
use Rattle.ak_merge.proofs.EditLaws.{free_if, schema_kept}

module _ (second : ℤ) (c : Collection) (edit : Edit) (admits : Admits c edit) (same : edit.schema ≡ false) where
  -- what stands under a name after the edit
  abbrev edited_rows : RowsByName
  edited_rows = edited_under second (row_under c) edit.rows

  -- ---- the step
  -- a row of the five tables with stamps changes by itself
  changes_stamped : (table : Table) (id : ℤ) → IsTrue (has_stamps table)
      → changes_under (row_under c) edit.rows (name_in table id) ≡ changes_row (row_under c (name_in table id)) (edit.rows (name_in table id))
  changes_stamped tables.Note id has = refl
  changes_stamped tables.Card id has = refl
  changes_stamped tables.NoteType id has = refl
  changes_stamped tables.Deck id has = refl
  changes_stamped tables.Options id has = refl
  changes_stamped tables.Review id has = false_true has
  changes_stamped tables.NoteGrave id has = false_true has
  changes_stamped tables.CardGrave id has = false_true has
  changes_stamped tables.DeckGrave id has = false_true has

  -- under the name of a grave that is held no row goes
  grave_stays : {X : Type 0} (name row : Name) (before : Row) → (is_some (row_under c name) ≡ true → row_under c row ≡ None)
      → cond (goes (row_under c row) (edit.rows row)) (Some (row_under c name)) None ≡ Some (Some before) → X
  grave_stays name row before single is =
      let entry = entry_of (goes (row_under c row) (edit.rows row)) (row_under c name) (Some before) is in
      false_true (sym (ap (λ (x : Option Row). goes x (edit.rows row)) (single (ap is_some entry.1))) ∙ entry.0)

  -- the rows that the step holds are of the five tables with stamps
  step_kinds : IsSingle (row_under c) → (table : Table) (id : ℤ) (before : Row) → (reversal_of c edit).rows (name_in table id) ≡ Some (Some before) → IsTrue (has_stamps table)
  step_kinds single tables.Note id before is = refl
  step_kinds single tables.Card id before is = refl
  step_kinds single tables.NoteType id before is = refl
  step_kinds single tables.Deck id before is = refl
  step_kinds single tables.Options id before is = refl
  step_kinds single tables.Review id before is =
      let entry = entry_of (changes_row (row_under c (name_in tables.Review id)) (edit.rows (name_in tables.Review id))) (row_under c (name_in tables.Review id)) (Some before) is in
      review_stays (row_under c (name_in tables.Review id)) (edit.rows (name_in tables.Review id)) before entry.1 (admits.reviews id before entry.1) entry.0
  step_kinds single tables.NoteGrave id before is = grave_stays (name_in tables.NoteGrave id) (name_in tables.Note id) before (single (name_in tables.Note id)) is
  step_kinds single tables.CardGrave id before is = grave_stays (name_in tables.CardGrave id) (name_in tables.Card id) before (single (name_in tables.Card id)) is
  step_kinds single tables.DeckGrave id before is = grave_stays (name_in tables.DeckGrave id) (name_in tables.Deck id) before (single (name_in tables.Deck id)) is

  -- ---- the step suits what the edit leaves
  step_named : AreNamed (row_under c) → (name : Name) (before : Row) → (reversal_of c edit).rows name ≡ Some (Some before) → name_of before ≡ name
  step_named named name before is = named name before (entry_of (changes_under (row_under c) edit.rows name) (row_under c name) (Some before) is).1

  -- the grave of a row that stood and goes is among those that the step added
  changed_held : (name : Name) (before : Row) (g : Option Row) → (is_some g ≡ true → row_under c name ≡ None)
      → cond (changes_row (row_under c name) (edit.rows name)) (Some (row_under c name)) None ≡ Some (Some before)
      → option_map_or (λ (grave : Option Row). not (is_some grave)) (cond (goes (row_under c name) (edit.rows name)) (Some g) None) false ≡ false
      → IsTrue (is_some (edited_row second (row_under c name) (edit.rows name)))
  changed_held name before g single is stays =
      let here : row_under c name ≡ Some before = (entry_of (changes_row (row_under c name) (edit.rows name)) (row_under c name) (Some before) is).1 in
      let none : is_some g ≡ false = either_way (is_some g) (λ held. none_held (sym (single held) ∙ here)) (λ none. none) in
      held_after second (row_under c name) (edit.rows name) before here (sym (grave_added (goes (row_under c name) (edit.rows name)) g none) ∙ stays)

  kept_held : (name : Name) (before : Row) → (edit.rows name ≡ None → row_under c name ≡ None)
      → cond (changes_row (row_under c name) (edit.rows name)) (Some (row_under c name)) None ≡ Some (Some before)
      → IsTrue (is_some (edited_row second (row_under c name) (edit.rows name)))
  kept_held name before stays is =
      held_after second (row_under c name) (edit.rows name) before (entry_of (changes_row (row_under c name) (edit.rows name)) (row_under c name) (Some before) is).1
      (stays_held (row_under c name) (edit.rows name) stays)

  step_changed : IsSingle (row_under c) → (table : Table) (id : ℤ) (before : Row) → (reversal_of c edit).rows (name_in table id) ≡ Some (Some before)
      → adds_grave (reversal_of c edit) (name_in table id) ≡ false → IsTrue (is_some (edited_rows (name_in table id)))
  step_changed single tables.Note id before is stays = changed_held (name_in tables.Note id) before (row_under c (name_in tables.NoteGrave id)) (single (name_in tables.Note id)) is stays
  step_changed single tables.Card id before is stays = changed_held (name_in tables.Card id) before (row_under c (name_in tables.CardGrave id)) (single (name_in tables.Card id)) is stays
  step_changed single tables.Deck id before is stays = changed_held (name_in tables.Deck id) before (row_under c (name_in tables.DeckGrave id)) (single (name_in tables.Deck id)) is stays
  step_changed single tables.NoteType id before is stays = kept_held (name_in tables.NoteType id) before (admits.types id same) is
  step_changed single tables.Options id before is stays = kept_held (name_in tables.Options id) before (admits.options id same) is
  step_changed single tables.Review id before is stays = false_true (step_kinds single tables.Review id before is)
  step_changed single tables.NoteGrave id before is stays = false_true (step_kinds single tables.NoteGrave id before is)
  step_changed single tables.CardGrave id before is stays = false_true (step_kinds single tables.CardGrave id before is)
  step_changed single tables.DeckGrave id before is stays = false_true (step_kinds single tables.DeckGrave id before is)

  -- where the step added the grave of a name, its row goes
  buried_goes : (table : Table) (id : ℤ) → IsTrue (adds_grave (reversal_of c edit) (name_in table id)) → goes (row_under c (name_in table id)) (edit.rows (name_in table id)) ≡ true
  buried_goes tables.Note id is = grave_added_left (goes (row_under c (name_in tables.Note id)) (edit.rows (name_in tables.Note id))) (row_under c (name_in tables.NoteGrave id)) is
  buried_goes tables.Card id is = grave_added_left (goes (row_under c (name_in tables.Card id)) (edit.rows (name_in tables.Card id))) (row_under c (name_in tables.CardGrave id)) is
  buried_goes tables.Deck id is = grave_added_left (goes (row_under c (name_in tables.Deck id)) (edit.rows (name_in tables.Deck id))) (row_under c (name_in tables.DeckGrave id)) is
  buried_goes tables.NoteType id is = false_true is
  buried_goes tables.Options id is = false_true is
  buried_goes tables.Review id is = false_true is
  buried_goes tables.NoteGrave id is = false_true is
  buried_goes tables.CardGrave id is = false_true is
  buried_goes tables.DeckGrave id is = false_true is

  -- and only rows with stamps have graves
  buried_stamped : (table : Table) (id : ℤ) → IsTrue (adds_grave (reversal_of c edit) (name_in table id)) → IsTrue (has_stamps table)
  buried_stamped tables.Note id is = refl
  buried_stamped tables.Card id is = refl
  buried_stamped tables.Deck id is = refl
  buried_stamped tables.NoteType id is = refl
  buried_stamped tables.Options id is = refl
  buried_stamped tables.Review id is = is
  buried_stamped tables.NoteGrave id is = is
  buried_stamped tables.CardGrave id is = is
  buried_stamped tables.DeckGrave id is = is

  -- what the edit leaves under the name of a row of the five tables with stamps
  edited_stamped : (table : Table) (id : ℤ) → IsTrue (has_stamps table) → edited_rows (name_in table id) ≡ edited_row second (row_under c (name_in table id)) (edit.rows (name_in table id))
  edited_stamped tables.Note id has = refl
  edited_stamped tables.Card id has = refl
  edited_stamped tables.Deck id has = refl
  edited_stamped tables.NoteType id has = refl
  edited_stamped tables.Options id has = refl
  edited_stamped tables.Review id has = false_true has
  edited_stamped tables.NoteGrave id has = false_true has
  edited_stamped tables.CardGrave id has = false_true has
  edited_stamped tables.DeckGrave id has = false_true has

  step_removed : (name : Name) → IsTrue (adds_grave (reversal_of c edit) name) → edited_rows name ≡ None
  step_removed name buried =
      edited_stamped name.table name.id (buried_stamped name.table name.id buried)
      ∙ gone_after second (row_under c name) (edit.rows name) (buried_goes name.table name.id buried)

  step_graves : (name : Name) → IsTrue (adds_grave (reversal_of c edit) name) → (before : Row) × ((reversal_of c edit).rows name ≡ Some (Some before))
  step_graves name buried =
      let gone = gone_entry (row_under c name) (edit.rows name) (buried_goes name.table name.id buried) in
      (gone.0, ap (λ (t : Bool). cond t (Some (row_under c name)) None) (changes_stamped name.table name.id (buried_stamped name.table name.id buried)) ∙ gone.1)

  row_added : (name : Name) → cond (changes_row (row_under c name) (edit.rows name)) (Some (row_under c name)) None ≡ Some None → IsTrue (is_some (edited_row second (row_under c name) (edit.rows name)))
  row_added name is =
      let entry = entry_of (changes_row (row_under c name) (edit.rows name)) (row_under c name) None is in
      new_after second (row_under c name) (edit.rows name) entry.1 entry.0

  grave_added_held : (name row : Name) → IsTrue (is_some (grave_left row)) → cond (goes (row_under c row) (edit.rows row)) (Some (row_under c name)) None ≡ Some None
      → IsTrue (is_some (edited_grave (grave_left row) (row_under c row) (edit.rows row) (row_under c name)))
  grave_added_held name row left is =
      let entry = entry_of (goes (row_under c row) (edit.rows row)) (row_under c name) None is in
      ap (λ (t : Bool). is_some (cond t (grave_left row) (row_under c name))) entry.0 ∙ left

  added_held : (table : Table) (id : ℤ) → (reversal_of c edit).rows (name_in table id) ≡ Some None → IsTrue (is_some (edited_rows (name_in table id)))
  added_held tables.Note id is = row_added (name_in tables.Note id) is
  added_held tables.Card id is = row_added (name_in tables.Card id) is
  added_held tables.Review id is = row_added (name_in tables.Review id) is
  added_held tables.NoteType id is = row_added (name_in tables.NoteType id) is
  added_held tables.Deck id is = row_added (name_in tables.Deck id) is
  added_held tables.Options id is = row_added (name_in tables.Options id) is
  added_held tables.NoteGrave id is = grave_added_held (name_in tables.NoteGrave id) (name_in tables.Note id) refl is
  added_held tables.CardGrave id is = grave_added_held (name_in tables.CardGrave id) (name_in tables.Card id) refl is
  added_held tables.DeckGrave id is = grave_added_held (name_in tables.DeckGrave id) (name_in tables.Deck id) refl is

  -- where the step is put back, the same names are held as before
  back_at : (table : Table) (id : ℤ) → is_some (put_back (reversal_of c edit) edited_rows (name_in table id)) ≡ is_some (row_under c (name_in table id))
  back_at tables.Note id = back_row second (row_under c (name_in tables.Note id)) (edit.rows (name_in tables.Note id))
  back_at tables.Card id = back_row second (row_under c (name_in tables.Card id)) (edit.rows (name_in tables.Card id))
  back_at tables.Review id = back_row second (row_under c (name_in tables.Review id)) (edit.rows (name_in tables.Review id))
  back_at tables.NoteType id = back_row second (row_under c (name_in tables.NoteType id)) (edit.rows (name_in tables.NoteType id))
  back_at tables.Deck id = back_row second (row_under c (name_in tables.Deck id)) (edit.rows (name_in tables.Deck id))
  back_at tables.Options id = back_row second (row_under c (name_in tables.Options id)) (edit.rows (name_in tables.Options id))
  back_at tables.NoteGrave id =
      back_grave (goes (row_under c (name_in tables.Note id)) (edit.rows (name_in tables.Note id))) (grave_left (name_in tables.Note id)) (row_under c (name_in tables.NoteGrave id))
  back_at tables.CardGrave id =
      back_grave (goes (row_under c (name_in tables.Card id)) (edit.rows (name_in tables.Card id))) (grave_left (name_in tables.Card id)) (row_under c (name_in tables.CardGrave id))
  back_at tables.DeckGrave id =
      back_grave (goes (row_under c (name_in tables.Deck id)) (edit.rows (name_in tables.Deck id))) (grave_left (name_in tables.Deck id)) (row_under c (name_in tables.DeckGrave id))

  pub step_back : (name : Name) → is_some (put_back (reversal_of c edit) edited_rows name) ≡ is_some (row_under c name)
  step_back name = back_at name.table name.id

  pub step_suits : AreNamed (row_under c) → IsSingle (row_under c) → (tags : List Tag)
      → ((name : List ℕ) → tag_usn tags name ≡ edited_tag (tag_usn c.head.tags name) (has_name edit.tags name)) → StepSuits (reversal_of c edit) edited_rows tags
  step_suits named single tags are = record {
    named = step_named named;
    kinds = λ name before is. step_kinds single name.table name.id before is;
    changed = λ name before is stays. step_changed single name.table name.id before is stays;
    removed = λ name before is buried. step_removed name buried;
    graves = step_graves;
    added = λ name is. added_held name.table name.id is;
    tags_kept = λ name. subst (IsTagKept (tag_usn c.head.tags name)) (sym (are name)) (kept_tag (tag_usn c.head.tags name) (has_name edit.tags name));
  }

  module _ (s : Collection) (l : LinkedParts c.head.usn (row_under c) (tag_usn c.head.tags) s) where
    -- ---- the step fits
    stamped_added : (name : Name) → IsTrue (has_stamps name.table) → (reversal_of c edit).rows name ≡ Some None → IfSome (row_under s name) (λ row. c.head.usn ≤ℤ usn_of row)
    stamped_added name has is =
        let entry = entry_of (changes_under (row_under c) edit.rows name) (row_under c name) None is in
        let new : is_some (edit.rows name) ≡ true =
        new_if (row_under c name) (edit.rows name) entry.1 (sym (changes_stamped name.table name.id has) ∙ entry.0) in
        untaken c.head.usn (row_under c name) (grave_under (row_under c) name) (row_under s name) entry.1
        (free_if (row_under c name) (edit.rows name) (is_dead (row_under c) name) (admits.free name) entry.1 new) (l.taken name has)

    shared_added : (name : Name) → has_stamps name.table ≡ false → (reversal_of c edit).rows name ≡ Some None → IfSome (row_under s name) (λ row. c.head.usn ≤ℤ usn_of row)
    shared_added name none is =
        let entry = entry_of (changes_under (row_under c) edit.rows name) (row_under c name) None is in
        unshared c.head.usn (row_under c name) (row_under s name) entry.1 (l.shared name none)

    step_added : (name : Name) → (reversal_of c edit).rows name ≡ Some None → IfSome (row_under s name) (λ row. c.head.usn ≤ℤ usn_of row)
    step_added name is = either_way (has_stamps name.table) (λ has. stamped_added name has is) (λ none. shared_added name none is)

    step_older : (name : Name) (before : Row) → (reversal_of c edit).rows name ≡ Some (Some before)
        → IfSome (row_under s name) (λ row. usn_of row <ℤ c.head.usn → stamp_of row ≤ℤ stamp_of before)
    step_older name before is =
        let entry = entry_of (changes_under (row_under c) edit.rows name) (row_under c name) (Some before) is in
        taken_older c.head.usn (row_under c name) (grave_under (row_under c) name) (row_under s name) before entry.1 (l.own_single name)
        (l.taken name (step_kinds l.own_single name.table name.id before is))

    step_parts : StepFitsParts c.head.usn (reversal_of c edit) s
    step_parts = record {
      usn = l.usn;
      added = step_added;
      tags = λ tag. untagged c.head.usn (tag_usn c.head.tags tag) (tag_usn s.head.tags tag) (l.tags tag);
      older = step_older;
    }

-- the step of an edit that leaves the schema fits every collection of a server with which the device was linked
pub steps_fit : (at : ℤ) (c after s : Collection) (edit : Edit) → Admits c edit → edit.schema ≡ false → IsEdited at c edit after → AreLinked c s → StepFits after (reversal_of c edit) s
steps_fit at c after s edit admits same is_edited (inl differ) = inl (λ equal. differ (sym (schema_kept at c after edit same is_edited) ∙ equal))
steps_fit at c after s edit admits same is_edited (inr parts) =
    inr (subst (λ (u : ℤ). StepFitsParts u (reversal_of c edit) s) (sym is_edited.usn) (step_parts (second_of at) c edit admits same s (parts_of c s parts)))
