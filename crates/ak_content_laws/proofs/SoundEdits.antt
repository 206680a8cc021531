-- An edit that asks for sound rows leaves a sound collection, and so does its undo if the one before was sound.
use Rattle.std.specs.Prelude.{◌≡◌, ℕ, zero, suc, ℤ, pos, negsuc, Bool, true, false, not, cond, IsTrue, if◌then◌else◌, List, [], ◌∷◌, take, Option, Some, None}
use Rattle.std.specs.Option.{unwrap_or}
use Rattle.std.proofs.Common.{inl, inr, refl, sym, ap, subst, ◌∙◌}
use Rattle.ak_base.proofs.SameRows.{fields_exactly}
use Rattle.ak_base.specs.Contents.{same_but_stamp_and_usn}
use Rattle.ak_base.specs.Rows.{stamp_of}
use Rattle.ak_base.specs.declared.names.Name.{Name}
use Rattle.ak_base.specs.declared.names.Table.TheVariants as tables
use Rattle.ak_base.specs.declared.rows.Row.{Row}
use Rattle.ak_base.specs.declared.rows.Row.TheVariants as rows
use Rattle.ak_keep.specs.Collections.{Collection}
use Rattle.ak_keep.specs.Graves.{RowsByName}
use Rattle.ak_merge.specs.Edits.{Edit, IsEdited, Reversal, advanced, changes_row, changes_under, edited, edited_row, edited_under, reversal_of, second_of}
use Rattle.ak_merge.specs.Holdings.{name_in, row_under}
use Rattle.ak_merge.specs.Soundness.{IsSound}
use Rattle.ak_merge.specs.Undoing.{IsListAfter, IsUndone, put_back, undone_row, undone_stamp}
use Rattle.ak_content_laws.proofs.Shapes.{AreAlike, alike_turned, shape, sound_alike, whole_alike}
use Rattle.ak_content_laws.specs.SoundCalls.{AreSoundBack, IsSoundInRange}

-- ---- rows
pub shape_edited : (stamp : ℤ) (row : Row) → shape (Some (edited stamp row)) ≡ shape (Some row)
shape_edited stamp (rows.Note n) = refl
shape_edited stamp (rows.Card c) = refl
shape_edited stamp (rows.Review r) = refl
shape_edited stamp (rows.NoteType t) = refl
shape_edited stamp (rows.Deck d) = refl
shape_edited stamp (rows.Options o) = refl
shape_edited stamp (rows.Grave g) = refl

shape_same : (a b : Row) → IsTrue (same_but_stamp_and_usn a b) → shape (Some a) ≡ shape (Some b)
shape_same a b same =
    sym (shape_edited (pos 0) a) ∙ ap (λ (row : Row). shape (Some row)) ((fields_exactly a b (pos 0) (negsuc 0)).0 same) ∙ shape_edited (pos 0) b

shape_row : (second : ℤ) (x m : Option Row) → shape (edited_row second x m) ≡ shape m
shape_row second None None = refl
shape_row second None (Some made) = shape_edited second made
shape_row second (Some before) None = refl
shape_row second (Some before) (Some made) =
    elim (same_but_stamp_and_usn made before) as (λ b. same_but_stamp_and_usn made before ≡ b → shape (cond b (Some before) (Some (edited (advanced second (stamp_of before)) made))) ≡ shape (Some made)) [
      | true ↦ λ same. sym (shape_same made before same)
      | false ↦ λ _. shape_edited (advanced second (stamp_of before)) made
    ] refl

-- what an edit leaves is alike to what it asks for
pub edited_alike : (at : ℤ) (c after : Collection) (edit : Edit) → IsEdited at c edit after → AreAlike (row_under after) edit.rows
edited_alike at c after edit is = record {
  card = λ id. ap shape (is.rows (name_in tables.Card id)) ∙ shape_row (second_of at) (row_under c (name_in tables.Card id)) (edit.rows (name_in tables.Card id));
  note = λ id. ap shape (is.rows (name_in tables.Note id)) ∙ shape_row (second_of at) (row_under c (name_in tables.Note id)) (edit.rows (name_in tables.Note id));
  type = λ id. ap shape (is.rows (name_in tables.NoteType id)) ∙ shape_row (second_of at) (row_under c (name_in tables.NoteType id)) (edit.rows (name_in tables.NoteType id));
}

pub edit_leaves_sound : (at : ℤ) (c after : Collection) (edit : Edit) → IsEdited at c edit after → IsSound edit.rows → IsSound (row_under after)
edit_leaves_sound at c after edit is sound = sound_alike edit.rows (row_under after) (alike_turned (row_under after) edit.rows (edited_alike at c after edit is)) sound

pub edit_leaves_whole : (at : ℤ) (c after : Collection) (edit : Edit) → IsEdited at c edit after → IsSoundInRange edit.rows → IsSoundInRange (row_under after)
edit_leaves_whole at c after edit is whole = whole_alike edit.rows (row_under after) (alike_turned (row_under after) edit.rows (edited_alike at c after edit is)) whole

pub edit_asked_sound : (at : ℤ) (c after : Collection) (edit : Edit) → IsEdited at c edit after → IsSound (row_under after) → IsSound edit.rows
edit_asked_sound at c after edit is sound = sound_alike (row_under after) edit.rows (edited_alike at c after edit is) sound

-- ---- steps that are put back
shape_back : (second : ℤ) (x m : Option Row) → shape (unwrap_or (if changes_row x m then Some x else None) (edited_row second x m)) ≡ shape x
shape_back second None None = refl
shape_back second None (Some made) = refl
shape_back second (Some before) None = refl
shape_back second (Some before) (Some made) =
    elim (same_but_stamp_and_usn made before) as (λ b. shape (unwrap_or (cond (not b) (Some (Some before)) None) (cond b (Some before) (Some (edited (advanced second (stamp_of before)) made)))) ≡ shape (Some before)) [
      | true ↦ refl
      | false ↦ refl
    ]

back_at : (at : ℤ) (c after : Collection) (edit : Edit) (name : Name) → IsEdited at c edit after → edited_under (second_of at) (row_under c) edit.rows name ≡ edited_row (second_of at) (row_under c name) (edit.rows name)
    → changes_under (row_under c) edit.rows name ≡ changes_row (row_under c name) (edit.rows name) → shape (put_back (reversal_of c edit) (row_under after) name) ≡ shape (row_under c name)
back_at at c after edit name is plain changes =
    ap (λ (b : Bool). shape (unwrap_or (if b then Some (row_under c name) else None) (row_under after name))) changes
    ∙ ap (λ (x : Option Row). shape (unwrap_or (if changes_row (row_under c name) (edit.rows name) then Some (row_under c name) else None) x)) (is.rows name ∙ plain)
    ∙ shape_back (second_of at) (row_under c name) (edit.rows name)

-- what the step of an edit puts back is alike to what stood before
pub back_alike : (at : ℤ) (c after : Collection) (edit : Edit) → IsEdited at c edit after → AreAlike (put_back (reversal_of c edit) (row_under after)) (row_under c)
back_alike at c after edit is = record {
  card = λ id. back_at at c after edit (name_in tables.Card id) is refl refl;
  note = λ id. back_at at c after edit (name_in tables.Note id) is refl refl;
  type = λ id. back_at at c after edit (name_in tables.NoteType id) is refl refl;
}

shape_undone : (second : ℤ) (e : Option (Option Row)) (x : Option Row) → shape (undone_row second e x) ≡ shape (unwrap_or e x)
shape_undone second None x = refl
shape_undone second (Some None) x = refl
shape_undone second (Some (Some before)) x = shape_edited (undone_stamp second before x) before

-- an undo leaves what its step puts back
pub undone_alike : (at : ℤ) (c after : Collection) (step : Reversal) → IsUndone at c step after → AreAlike (put_back step (row_under c)) (row_under after)
undone_alike at c after step is = record {
  card = λ id. sym (ap shape (is.rows (name_in tables.Card id)) ∙ shape_undone (second_of at) (step.rows (name_in tables.Card id)) (row_under c (name_in tables.Card id)));
  note = λ id. sym (ap shape (is.rows (name_in tables.Note id)) ∙ shape_undone (second_of at) (step.rows (name_in tables.Note id)) (row_under c (name_in tables.Note id)));
  type = λ id. sym (ap shape (is.rows (name_in tables.NoteType id)) ∙ shape_undone (second_of at) (step.rows (name_in tables.NoteType id)) (row_under c (name_in tables.NoteType id)));
}

shape_put : (e : Option (Option Row)) (x y : Option Row) → shape x ≡ shape y → shape (unwrap_or e x) ≡ shape (unwrap_or e y)
shape_put None x y same = same
shape_put (Some before) x y same = refl

put_alike : (step : Reversal) (a b : RowsByName) → AreAlike a b → AreAlike (put_back step a) (put_back step b)
put_alike step a b like = record {
  card = λ id. shape_put (step.rows (name_in tables.Card id)) (a (name_in tables.Card id)) (b (name_in tables.Card id)) (like.card id);
  note = λ id. shape_put (step.rows (name_in tables.Note id)) (a (name_in tables.Note id)) (b (name_in tables.Note id)) (like.note id);
  type = λ id. shape_put (step.rows (name_in tables.NoteType id)) (a (name_in tables.NoteType id)) (b (name_in tables.NoteType id)) (like.type id);
}

-- ---- lists of steps
pub sound_now : (steps : List Reversal) (at : RowsByName) → AreSoundBack steps at → IsSoundInRange at
sound_now [] at sound = sound
sound_now (step ∷ steps) at sound = sound.0

pub sound_back_alike : (steps : List Reversal) (a b : RowsByName) → AreAlike a b → AreSoundBack steps a → AreSoundBack steps b
sound_back_alike [] a b like sound = whole_alike a b like sound
sound_back_alike (step ∷ steps) a b like sound =
    (whole_alike a b like sound.0, sound_back_alike steps (put_back step a) (put_back step b) (put_alike step a b like) sound.1)

sound_first : (n : ℕ) (steps : List Reversal) (at : RowsByName) → AreSoundBack steps at → AreSoundBack (take n steps) at
sound_first zero steps at sound = sound_now steps at sound
sound_first (suc n) [] at sound = sound
sound_first (suc n) (step ∷ steps) at sound = (sound.0, sound_first n steps (put_back step at) sound.1)

-- an edit that asks for sound rows keeps that all undos leave sound ones
pub edit_keeps_sound : (at : ℤ) (c after : Collection) (edit : Edit) (steps now : List Reversal) → IsEdited at c edit after → IsListAfter c edit after steps now → IsSoundInRange edit.rows
    → AreSoundBack steps (row_under c) → AreSoundBack now (row_under after)
edit_keeps_sound at c after edit steps now is list asked sound = by_list list
  where
    left : IsSoundInRange (row_under after)
    left = edit_leaves_whole at c after edit is asked

    back : AreSoundBack steps (put_back (reversal_of c edit) (row_under after))
    back =
        let there : RowsByName = put_back (reversal_of c edit) (row_under after) in
        sound_back_alike steps (row_under c) there (alike_turned there (row_under c) (back_alike at c after edit is)) sound

    by_list : IsListAfter c edit after steps now → AreSoundBack now (row_under after)
    by_list (inl kept) =
        subst (λ (l : List Reversal). AreSoundBack l (row_under after)) (sym kept.list)
        (subst (λ (d : Collection). AreSoundBack steps (row_under d)) (sym kept.unchanged) sound)
    by_list (inr (inl emptied)) = subst (λ (l : List Reversal). AreSoundBack l (row_under after)) (sym emptied.list) left
    by_list (inr (inr pushed)) =
        subst (λ (l : List Reversal). AreSoundBack l (row_under after)) (sym pushed.list)
        (sound_first 30 (reversal_of c edit ∷ steps) (row_under after) (left, back))

-- an undo keeps it
pub undo_keeps_sound : (at : ℤ) (c after : Collection) (step : Reversal) (steps : List Reversal) → IsUndone at c step after → AreSoundBack (step ∷ steps) (row_under c) → AreSoundBack steps (row_under after)
undo_keeps_sound at c after step steps is sound = sound_back_alike steps (put_back step (row_under c)) (row_under after) (undone_alike at c after step is) sound.1
