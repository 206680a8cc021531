-- What records make may be asked of the collection: it is admitted record by record.
use Rattle.std.specs.Prelude.{◌≡◌, ℕ, ℤ, Bool, true, false, ◌||◌, cond, is_some, List, [], ◌∷◌, ◌++◌, map, Option, Some, None}
use Rattle.std.proofs.Common.{refl, sym, ap, subst, inl, inr, ◌∙◌}
use Rattle.std.specs.FinMap.{get, get-insert, insert}
use Rattle.std.specs.List.{AllByRecursion}
use Rattle.std.specs.Option.{option_and_then}
use Rattle.std.specs.Ordering.{eq_by_cmp}
use Rattle.ak_base.specs.Names.{name_cmp, names_total, next_name}
use Rattle.ak_base.specs.Rows.{name_of}
use Rattle.ak_base.specs.Tables.{graves_of}
use Rattle.ak_base.specs.declared.cards.Card.{Card}
use Rattle.ak_base.specs.declared.names.Name.{Name}
use Rattle.ak_base.specs.declared.names.Table.{Table}
use Rattle.ak_base.specs.declared.names.Table.TheVariants as tables
use Rattle.ak_base.specs.declared.notes.Note.{Note}
use Rattle.ak_base.specs.declared.rows.Row.{Row}
use Rattle.ak_base.specs.declared.rows.Row.TheVariants as rows
use Rattle.ak_edit_calls.specs.NewNames.{AreMadeOf, first_name}
use Rattle.ak_imports.proofs.LeastNotes.{row_of_note}
use Rattle.ak_imports.proofs.Making.{GivesIds, same_name, with_row_put}
use Rattle.ak_imports.specs.Imports.{AreRecordsDone, IsAddedOf, IsFoundDone, IsRecordDone, IsUpdatedOf, Progress, edit_of_record, edit_to, start_of, with_made}
use Rattle.ak_imports.specs.KeptRows.{rows_with}
use Rattle.ak_imports.specs.OwnTests.{rows_made}
use Rattle.ak_imports.specs.declared.imports.Arrival.{Arrival}
use Rattle.ak_imports.specs.declared.records.Record.{Record}
use Rattle.ak_keep.specs.Collections.{Collection, Rows}
use Rattle.ak_keep.specs.FreeNames.{is_used}
use Rattle.ak_keep.specs.Graves.{RowsByName, is_dead}
use Rattle.ak_merge.proofs.EditBuildingLaws.{puts_are_admitted, settings_are_admitted, tags_are_admitted, unedited_is_admitted}
use Rattle.ak_merge.proofs.EditFacts.{true_false}
use Rattle.ak_merge.specs.EditBuilding.{MayPut}
use Rattle.ak_merge.specs.Edits.{Admits}
use Rattle.ak_merge.specs.Holdings.{AreNamed, name_in, row_under}
use Rattle.ak_notes.specs.declared.made_notes.MadeNote.{MadeNote}
use Rattle.ak_notes.specs.declared.note_edits.NoteEdit.{NoteEdit}

-- ---- names
first_of : (a b : Bool) → (a || b) ≡ false → a ≡ false
first_of true b is = is
first_of false b is = refl

second_of_both : (a b : Bool) → (a || b) ≡ false → b ≡ false
second_of_both true b is = true_false is
second_of_both false b is = is

neither : (a b : Bool) → a ≡ false → b ≡ false → (a || b) ≡ false
neither true b one other = one
neither false b one other = other

row_before : (held : Rows) (row : Row) (name : Name) → is_some (get (insert held (name_of row) row) name) ≡ false → is_some (get held name) ≡ false
row_before held row name none =
    elim (eq_by_cmp name_cmp name (name_of row)) as (λ b. is_some (cond b (Some row) (get held name)) ≡ false → is_some (get held name) ≡ false) [
      | true ↦ λ is. true_false is
      | false ↦ λ is. is
    ] (sym (ap is_some (get-insert names_total held (name_of row) row name)) ∙ none)

-- a name that is free after a row came was free before
free_before : (held : Rows) (row : Row) (name : Name) → is_used (get (insert held (name_of row) row)) name ≡ false → is_used (get held) name ≡ false
free_before held row name free =
    let now : RowsByName = get (insert held (name_of row) row) in
    neither (is_some (get held name)) (is_dead (get held) name)
    (row_before held row name (first_of (is_some (now name)) (is_dead now name) free))
    (elim (graves_of name.table) as (λ (o : Option Table). is_some (option_and_then (λ (graves : Table). now (record { table = graves; id = name.id })) o) ≡ false
    → is_some (option_and_then (λ (graves : Table). get held (record { table = graves; id = name.id })) o) ≡ false) [
      | None ↦ λ is. is
      | Some graves ↦ λ is. row_before held row (record { table = graves; id = name.id }) is
    ] (second_of_both (is_some (now name)) (is_dead now name) free))

abbrev pub KeepsNames : Collection → Rows → Type 0
KeepsNames c held = (name : Name) → is_used (get held) name ≡ false → is_used (row_under c) name ≡ false

pub rows_keep : (c : Collection) (made : List Row) (held : Rows) → KeepsNames c held → KeepsNames c (rows_with made held)
rows_keep c [] held keeps = keeps
rows_keep c (row ∷ others) held keeps = rows_keep c others (insert held (name_of row) row) (λ name free. keeps name (free_before held row name free))

-- ---- rows
may_put : (c : Collection) (row : Row) (name : Name) → name_of row ≡ name → is_used (row_under c) name ≡ false → ((name_of row).table ≡ tables.Review → ⊥) → MayPut c row
may_put c row name of free other = record {
  free = λ _. subst (λ (n : Name). is_dead (row_under c) n ≡ false) (sym of) (second_of_both (is_some (row_under c name)) (is_dead (row_under c) name) free);
  review = λ is. absurd (other is);
}

cards_may : (c : Collection) (held : Rows) (IsMade : ℤ → ℤ → Card → Type 0) (first : Name) (ords : List ℤ) (cards : List Card) → first.table ≡ tables.Card → KeepsNames c held → AreMadeOf (is_used (get held)) IsMade first ords cards → GivesIds IsMade
    → AllByRecursion (MayPut c) (map (λ (card : Card). rows.Card card) cards)
cards_may c held IsMade first [] cards of keeps are ids = subst (λ (l : List Card). AllByRecursion (MayPut c) (map (λ (card : Card). rows.Card card) l)) (sym are) tt
cards_may c held IsMade first (ord ∷ ords) cards of keeps are ids =
    let name : Name = are.0 in
    let card : Card = are.2 in
    let here : name_of (rows.Card card) ≡ name = same_name tables.Card card.id name (are.1.table ∙ of) (ids ord name.id card are.3) in
    subst (λ (l : List Card). AllByRecursion (MayPut c) (map (λ (x : Card). rows.Card x) l)) (sym are.5) (
      may_put c (rows.Card card) name here (keeps name are.1.free) (λ is. cc),
      cards_may c held IsMade (next_name name) ords are.4 (are.1.table ∙ of) keeps are.6 ids,
    )

rows_admitted : (c q : Collection) (tags : List (List ℕ)) (made : List Row) → AllByRecursion (MayPut c) made → Admits c (edit_to q tags) → Admits c (edit_to (record q { rows = rows_with made q.rows }) tags)
rows_admitted c q tags [] may admits = admits
rows_admitted c q tags (row ∷ others) may admits =
    rows_admitted c (record q { rows = insert q.rows (name_of row) row }) tags others may.1
    (subst (Admits c) (with_row_put row q tags) (puts_are_admitted c (edit_to q tags) row admits may.0))

-- ---- one record
-- what the records so far made is admitted, and no name that the collection uses is free in it
pub record IsAdmitted (c : Collection) (p : Progress) : Type 0 where
  pub admits : Admits c (edit_to p.collection p.tags)
  pub keeps : KeepsNames c p.collection.rows

made_admitted : (c q : Collection) (tags names : List (List ℕ)) (made : MadeNote) → AllByRecursion (MayPut c) (rows_made made) → Admits c (edit_to q tags) → Admits c (edit_to (with_made made q) (tags ++ names))
made_admitted c q tags names made may admits =
    tags_are_admitted c (edit_to (with_made made q) tags) names
    (settings_are_admitted c (edit_to (record q { rows = rows_with (rows_made made) q.rows }) tags) made.conf (rows_admitted c q tags (rows_made made) may admits))

added_may : (arrival : Arrival) (r : Record) (c q : Collection) (made : MadeNote) → KeepsNames c q.rows → IsAddedOf arrival r q made → AllByRecursion (MayPut c) (rows_made made)
added_may arrival r c q made keeps added =
    let adds = added.is.is in
    let here : name_of (rows.Note made.note) ≡ adds.name = same_name tables.Note made.note.id adds.name adds.free.table (ap (λ (n : Note). n.id) adds.under.note) in (
      may_put c (rows.Note made.note) adds.name here (keeps adds.name adds.free.free) (λ is. cc),
      cards_may c q.rows _ (first_name tables.Card arrival.at) _ made.cards refl keeps adds.under.cards.made (λ ord id card is. ap (λ (x : Card). x.id) is),
    )

updated_may : (at : ℤ) (given : NoteEdit) (c q : Collection) (tags : List (List ℕ)) (made : MadeNote) → Admits c (edit_to q tags) → KeepsNames c q.rows → IsUpdatedOf at given q made → AllByRecursion (MayPut c) (rows_made made)
updated_may at given c q tags made admits keeps updated =
    let edits = updated.is.is.is in
    let was : Note = updated.is.note in
    let name : Name = name_in tables.Note given.note in
    let found : row_under q name ≡ Some (rows.Note was) = row_of_note (row_under q name) was updated.is.there in
    let here : name_of (rows.Note made.note) ≡ name = ap (λ (n : Note). name_in tables.Note n.id) edits.texts ∙ admits.named name (rows.Note was) found in (
      record {
        free = λ none. subst (λ (n : Name). is_dead (row_under c) n ≡ false) (sym here) (admits.free name (rows.Note was) (sym (ap (row_under c) here) ∙ none) found);
        review = λ is. absurd (cc);
      },
      cards_may c q.rows _ (first_name tables.Card at) _ made.cards refl keeps edits.cards (λ ord id card is. ap (λ (x : Card). x.id) is),
    )

record_admitted : (arrival : Arrival) (r : Record) (c : Collection) (p q : Progress) → IsRecordDone arrival r p q → IsAdmitted c p → IsAdmitted c q
record_admitted arrival r c p q done admitted = elim done.0 as (λ (o : Option ℤ). IsFoundDone arrival r o p q → IsAdmitted c q) [
  | None ↦ λ is. subst (IsAdmitted c) (sym is.after) (record {
    admits = made_admitted c p.collection p.tags r.tags is.made (added_may arrival r c p.collection is.made admitted.keeps is.is) admitted.admits;
    keeps = rows_keep c (rows_made is.made) p.collection.rows admitted.keeps;
  })
  | Some id ↦ λ is. elim is.2 [
    | inl same ↦ subst (IsAdmitted c) (sym same.1) (record { admits = admitted.admits; keeps = admitted.keeps })
    | inr other ↦
        let made = other.1.made in
        let given : NoteEdit = edit_of_record id r in
        subst (IsAdmitted c) (sym other.1.after) (record {
          admits = made_admitted c p.collection p.tags given.tags made (updated_may arrival.at given c p.collection p.tags made admitted.admits admitted.keeps other.1.is) admitted.admits;
          keeps = rows_keep c (rows_made made) p.collection.rows admitted.keeps;
        })
  ]
] done.2

records_admitted : (arrival : Arrival) (records : List Record) (c : Collection) (p q : Progress) → AreRecordsDone arrival records p q → IsAdmitted c p → IsAdmitted c q
records_admitted arrival [] c p q are admitted = subst (IsAdmitted c) (sym are) admitted
records_admitted arrival (r ∷ others) c p q are admitted = records_admitted arrival others c are.0 q are.2 (record_admitted arrival r c p are.0 are.1 admitted)

-- the edit of an import is admitted
pub imports_are_admitted : (arrival : Arrival) (records : List Record) (c : Collection) (end : Progress) → AreNamed (row_under c) → AreRecordsDone arrival records (start_of c) end → Admits c (edit_to end.collection end.tags)
imports_are_admitted arrival records c end named are =
    (records_admitted arrival records c (start_of c) end are (record { admits = unedited_is_admitted c named; keeps = λ name free. free })).admits
