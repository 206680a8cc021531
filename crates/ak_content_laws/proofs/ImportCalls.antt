-- Notes that are imported leave sound rows: the rows are sound after each record, since it asks for what a call of its own would.
use Rattle.std.specs.Prelude.{◌≡◌, ℕ, ℤ, true, false, cond, List, [], ◌∷◌, map, Option, Some, None}
use Rattle.std.specs.FinMap.{get, get-insert, insert}
use Rattle.std.specs.Ordering.{eq_by_cmp}
use Rattle.std.proofs.Common.{inl, inr, refl, sym, ap, subst, ◌∙◌}
use Rattle.std.proofs.lemmas.Option.{same_Some}
use Rattle.ak_base.specs.Names.{name_cmp, names_total}
use Rattle.ak_base.specs.Rows.{name_of}
use Rattle.ak_base.specs.declared.cards.Card.{Card}
use Rattle.ak_base.specs.declared.rows.Row.{Row}
use Rattle.ak_base.specs.declared.rows.Row.TheVariants as rows
use Rattle.ak_imports.proofs.Making.{with_row_put}
use Rattle.ak_imports.specs.Imports.{AreRecordsDone, IsFoundDone, IsImported, IsRecordDone, Progress, arrival_of, edit_of_record, edit_to, new_note, start_of, with_made}
use Rattle.ak_imports.specs.KeptRows.{rows_with}
use Rattle.ak_imports.specs.OwnTests.{rows_made}
use Rattle.ak_imports.specs.declared.imports.Import.{Import}
use Rattle.ak_imports.specs.declared.imports.Imported.{Imported}
use Rattle.ak_imports.specs.declared.records.Record.{Record}
use Rattle.ak_keep.proofs.RowsByName.{same_of_tied}
use Rattle.ak_keep.specs.Collections.{Collection, Rows}
use Rattle.ak_keep.specs.Keepers.{Keeping}
use Rattle.ak_merge.specs.Edits.{Edit}
use Rattle.ak_merge.specs.Holdings.{AreNamed, row_under}
use Rattle.ak_notes.specs.MadeNotes.{made_edit, with_cards}
use Rattle.ak_notes.specs.declared.made_notes.MadeNote.{MadeNote}
use Rattle.ak_notes.specs.declared.note_edits.NoteEdit.{NoteEdit}
use Rattle.ak_undo.specs.declared.steps.Step.{Step}
use Rattle.ak_content_laws.proofs.Keepings.{finished_keeps, sound_held}
use Rattle.ak_content_laws.proofs.NoteCalls.{addition_sound, note_edit_sound}
use Rattle.ak_content_laws.specs.SoundCalls.{HoldsSound, IsSoundInRange}

-- ---- the rows that are made
cards_put : (cards : List Card) (q : Collection) (tags : List (List ℕ))
    → with_cards cards (edit_to q tags) ≡ edit_to (record q { rows = rows_with (map (λ (card : Card). rows.Card card) cards) q.rows }) tags
cards_put [] q tags = refl
cards_put (card ∷ cards) q tags =
    ap (with_cards cards) (with_row_put (rows.Card card) q tags)
    ∙ cards_put cards (record q { rows = insert q.rows (name_of (rows.Card card)) (rows.Card card) }) tags

-- the edit of a call asks for the rows that the import goes on with
pub made_rows : (tags : List (List ℕ)) (made : MadeNote) (q : Collection) → (made_edit tags made q).rows ≡ row_under (with_made made q)
made_rows tags made q =
    let noted : Collection = record q { rows = insert q.rows (name_of (rows.Note made.note)) (rows.Note made.note) } in
    ap (λ (e : Edit). e.rows) (ap (with_cards made.cards) (with_row_put (rows.Note made.note) q []) ∙ cards_put made.cards noted [])

-- a row that is put under its name leaves each row under its own
named_put : (held : Rows) (row : Row) → AreNamed (get held) → AreNamed (get (insert held (name_of row) row))
named_put held row named name found is =
    elim (eq_by_cmp name_cmp name (name_of row)) as (λ b. eq_by_cmp name_cmp name (name_of row) ≡ b → cond b (Some row) (get held name) ≡ Some found → name_of found ≡ name) [
      | true ↦ λ tied here. ap name_of (sym (same_Some row found here)) ∙ sym (same_of_tied name (name_of row) tied)
      | false ↦ λ _ was. named name found was
    ] refl (sym (get-insert names_total held (name_of row) row name) ∙ is)

named_rows : (made : List Row) (held : Rows) → AreNamed (get held) → AreNamed (get (rows_with made held))
named_rows [] held named = named
named_rows (row ∷ others) held named = named_rows others (insert held (name_of row) row) (named_put held row named)

-- ---- record by record
-- what the records so far made is sound, and each of its rows stands under its own name
pub record IsSoundSoFar (c : Collection) : Type 0 where
  pub named : AreNamed (row_under c)
  pub sound : IsSoundInRange (row_under c)

made_keeps : (tags : List (List ℕ)) (made : MadeNote) (c : Collection) → IsSoundSoFar c → IsSoundInRange (made_edit tags made c).rows → IsSoundSoFar (with_made made c)
made_keeps tags made c so_far asked = record {
  named = named_rows (rows_made made) c.rows so_far.named;
  sound = subst IsSoundInRange (made_rows tags made c) asked;
}

record_keeps : (given : Import) (at : ℤ) (r : Record) (p q : Progress) → IsRecordDone (arrival_of given at) r p q → IsSoundSoFar p.collection → IsSoundSoFar q.collection
record_keeps given at r p q done so_far = elim done.0 as (λ (o : Option ℤ). IsFoundDone (arrival_of given at) r o p q → IsSoundSoFar q.collection) [
  | None ↦ λ is. subst (λ (x : Progress). IsSoundSoFar x.collection) (sym is.after)
      (made_keeps r.tags is.made p.collection so_far (addition_sound at (new_note (arrival_of given at) r) p.collection is.made is.is.is so_far.sound))
  | Some id ↦ λ is. elim is.2 [
    | inl same ↦ subst (λ (x : Progress). IsSoundSoFar x.collection) (sym same.1) so_far
    | inr other ↦
        let edit : NoteEdit = edit_of_record id r in
        subst (λ (x : Progress). IsSoundSoFar x.collection) (sym other.1.after)
        (made_keeps edit.tags other.1.made p.collection so_far (note_edit_sound at edit p.collection other.1.made so_far.named other.1.is.is so_far.sound))
  ]
] done.2

records_keep : (given : Import) (at : ℤ) (records : List Record) (p q : Progress) → AreRecordsDone (arrival_of given at) records p q → IsSoundSoFar p.collection → IsSoundSoFar q.collection
records_keep given at [] p q are so_far = subst (λ (x : Progress). IsSoundSoFar x.collection) (sym are) so_far
records_keep given at (r ∷ others) p q are so_far = records_keep given at others are.0 q are.2 (record_keeps given at r p are.0 are.1 so_far)

-- ---- the call
pub notes_imported : (at : ℤ) (given : Import) (before now : Keeping) (steps left : List Step) (counts : Imported) (held : HoldsSound before steps) → IsImported at given held.c before now steps left counts
    → HoldsSound now left
notes_imported at given before now steps left counts held done =
    let first : IsSoundSoFar held.c = record { named = done.done.named; sound = sound_held before steps held } in
    finished_keeps at (edit_to done.end.collection done.end.tags) before now steps left held done.done
    (records_keep given at given.records (start_of held.c) done.end done.each first).sound
