-- What is made of a record, over what the records before it made: it passes the tests at the end, and the changes ask for it.
use Rattle.std.specs.Prelude.{◌≡◌, ℕ, ℤ, pos, Bool, true, false, ◌||◌, is_some, List, [], ◌∷◌, ◌++◌, map, Option, Some, None}
use Rattle.std.proofs.Common.{refl, sym, ap, subst, inl, inr, ◌∙◌, append_assoc, append-nil}
use Rattle.std.proofs.Math.Path.{fun_ext}
use Rattle.std.specs.FinMap.{get, get-insert, insert}
use Rattle.std.specs.List.{AllByRecursion}
use Rattle.ak_base.specs.Heads.{IsMoment, IsWithin}
use Rattle.ak_base.specs.Limits.{last_stamp}
use Rattle.ak_base.specs.Names.{names_total, next_name}
use Rattle.ak_base.specs.Rows.{name_of}
use Rattle.ak_base.specs.declared.cards.Card.{Card}
use Rattle.ak_base.specs.declared.names.Name.{Name}
use Rattle.ak_base.specs.declared.names.Table.{Table}
use Rattle.ak_base.specs.declared.names.Table.TheVariants as tables
use Rattle.ak_base.specs.declared.notes.Note.{Note}
use Rattle.ak_base.specs.declared.rows.Row.{Row}
use Rattle.ak_base.specs.declared.rows.Row.TheVariants as rows
use Rattle.ak_edit.proofs.Building.{put_asked}
use Rattle.ak_edit.specs.Overlays.{Overlay, conf_over, edit_of, put_over, tag_over}
use Rattle.ak_edit.specs.Plans.{stamp_made}
use Rattle.ak_edit_calls.specs.NewNames.{AreMadeOf, first_name}
use Rattle.ak_imports.proofs.LeastNotes.{row_of_note}
use Rattle.ak_imports.proofs.OwnTesting.{AreTested, tested}
use Rattle.ak_imports.proofs.Passing.{none_before, rows_passed}
use Rattle.ak_imports.specs.Imports.{IsAddedOf, IsUpdatedOf, Progress, edit_to, made_after, trial_of, with_made}
use Rattle.ak_imports.specs.KeptRows.{rows_with}
use Rattle.ak_imports.specs.OwnTests.{is_without, rows_made}
use Rattle.ak_imports.specs.UnderWay.{ArePassed, IsPassedRow, IsPassedUnder, KeepsStamp}
use Rattle.ak_imports.specs.declared.imports.Arrival.{Arrival}
use Rattle.ak_imports.specs.declared.imports.Outcome.{Outcome}
use Rattle.ak_imports.specs.declared.records.Record.{Record}
use Rattle.ak_keep.proofs.RowsByName.{none_of}
use Rattle.ak_keep.specs.Collections.{Collection, Rows}
use Rattle.ak_keep.specs.FreeNames.{IsFree, is_used}
use Rattle.ak_keep.specs.Graves.{is_dead}
use Rattle.ak_merge.specs.EditBuilding.{with_row}
use Rattle.ak_merge.specs.Edits.{Edit, advanced, second_of}
use Rattle.ak_merge.specs.Holdings.{AreNamed, name_in, row_under}
use Rattle.ak_notes.specs.MadeNotes.{cards_over, made_over, tags_over}
use Rattle.ak_notes.specs.declared.made_notes.MadeNote.{MadeNote}
use Rattle.ak_notes.specs.declared.note_edits.NoteEdit.{NoteEdit}

-- ---- rows that are new
-- a free name has no row
pub unused : (held : Rows) (name : Name) → is_used (get held) name ≡ false → get held name ≡ None
unused held name free = none_of (get held name) (first_false (is_some (get held name)) (is_dead (get held) name) free)
  where
    first_false : (a b : Bool) → (a || b) ≡ false → a ≡ false
    first_false true b is = is
    first_false false b is = refl

new_passes : (at : ℤ) (before : Option Row) (row : Row) → before ≡ None → IsWithin (pos 0) last_stamp (second_of at) → IsPassedRow at before row
new_passes at before row none second = record {
  stamp = subst (λ (o : Option Row). IsWithin (pos 0) last_stamp (stamp_made (second_of at) o (Some row))) (sym none) second;
  keeps = subst (λ (o : Option Row). KeepsStamp o row) (sym none) tt;
}

abbrev PassedRows : ℤ → Collection → Rows → Type 0
PassedRows at c held = (name : Name) → IsPassedUnder at (row_under c name) (get held name)

-- a row under a name that is free
free_passes : (at : ℤ) (c : Collection) (held : Rows) (first name : Name) (row : Row) → PassedRows at c held → IsFree (is_used (get held)) first name → name_of row ≡ name
    → IsWithin (pos 0) last_stamp (second_of at) → IsPassedRow at (row_under c (name_of row)) row
free_passes at c held first name row passed free of second =
    new_passes at (row_under c (name_of row)) row
    (ap (row_under c) of ∙ none_before at (row_under c name) (get held name) (unused held name free.free) (passed name)) second

pub same_name : (table : Table) (id : ℤ) (name : Name) → name.table ≡ table → id ≡ name.id → name_in table id ≡ name
same_name table id name of is = ap (λ (t : Table). name_in t id) (sym of) ∙ ap (name_in name.table) is

-- what makes a card gives it its id
abbrev pub GivesIds : (ℤ → ℤ → Card → Type 0) → Type 0
GivesIds IsMade = (ord id : ℤ) (card : Card) → IsMade ord id card → card.id ≡ id

cards_pass : (at : ℤ) (c : Collection) (held : Rows) (IsMade : ℤ → ℤ → Card → Type 0) (first : Name) (ords : List ℤ) (cards : List Card) → first.table ≡ tables.Card → PassedRows at c held
    → AreMadeOf (is_used (get held)) IsMade first ords cards → GivesIds IsMade → IsWithin (pos 0) last_stamp (second_of at)
    → AllByRecursion (λ (row : Row). IsPassedRow at (row_under c (name_of row)) row) (map (λ (card : Card). rows.Card card) cards)
cards_pass at c held IsMade first [] cards of passed are ids second =
    subst (λ (l : List Card). AllByRecursion (λ (row : Row). IsPassedRow at (row_under c (name_of row)) row) (map (λ (card : Card). rows.Card card) l)) (sym are) tt
cards_pass at c held IsMade first (ord ∷ ords) cards of passed are ids second =
    let name : Name = are.0 in
    let card : Card = are.2 in
    let here : name_of (rows.Card card) ≡ name = same_name tables.Card card.id name (are.1.table ∙ of) (ids ord name.id card are.3) in
    subst (λ (l : List Card). AllByRecursion (λ (row : Row). IsPassedRow at (row_under c (name_of row)) row) (map (λ (x : Card). rows.Card x) l)) (sym are.5) (
      free_passes at c held first name (rows.Card card) passed are.1 here second,
      cards_pass at c held IsMade (next_name name) ords are.4 (are.1.table ∙ of) passed are.6 ids second,
    )

-- where there are no cards nothing has to pass
some_cards_pass : (at : ℤ) (c : Collection) (held : Rows) (IsMade : ℤ → ℤ → Card → Type 0) (first : Name) (ords : List ℤ) (cards : List Card) → first.table ≡ tables.Card → PassedRows at c held
    → AreMadeOf (is_used (get held)) IsMade first ords cards → GivesIds IsMade → (is_without cards ≡ false → IsWithin (pos 0) last_stamp (second_of at))
    → AllByRecursion (λ (row : Row). IsPassedRow at (row_under c (name_of row)) row) (map (λ (card : Card). rows.Card card) cards)
some_cards_pass at c held IsMade first ords [] of passed are ids second = tt
some_cards_pass at c held IsMade first ords (card ∷ cards) of passed are ids second =
    cards_pass at c held IsMade first ords (card ∷ cards) of passed are ids (second refl)

-- ---- a note that is added
pub added_passes : (arrival : Arrival) (r : Record) (c : Collection) (p : Progress) (how : Outcome) (made : MadeNote) → ArePassed arrival.at c p → IsAddedOf arrival r p.collection made
    → ArePassed arrival.at c (made_after how r.tags made p)
added_passes arrival r c p how made passed added =
    let adds = added.is.is in
    let test : AreTested (trial_of true arrival.at p.collection) made = tested (trial_of true arrival.at p.collection) made added.tested in
    let here : name_of (rows.Note made.note) ≡ adds.name = same_name tables.Note made.note.id adds.name adds.free.table (ap (λ (n : Note). n.id) adds.under.note) in
    record {
      rows = rows_passed arrival.at c (rows_made made) p.collection.rows passed.rows (
        free_passes arrival.at c p.collection.rows (first_name tables.Note arrival.at) adds.name (rows.Note made.note) passed.rows adds.free here test.note,
        some_cards_pass arrival.at c p.collection.rows _ (first_name tables.Card arrival.at) _ made.cards refl passed.rows adds.under.cards.made (λ ord id card is. ap (λ (x : Card). x.id) is) test.cards,
      );
      moved = inr (subst (λ (m : ℤ). IsMoment (advanced arrival.at m)) passed.moment test.moment);
      moment = passed.moment;
    }

-- ---- a note that is updated
-- it keeps the stamp of the note that was there, which the collection had or which is new too
kept_passes : (at : ℤ) (before : Option Row) (was note : Note) → note.stamp ≡ was.stamp → IsPassedUnder at before (Some (rows.Note was))
    → IsWithin (pos 0) last_stamp (advanced (second_of at) note.stamp) → IsPassedRow at before (rows.Note note)
kept_passes at before was note same passed test = elim passed [
  | inl is ↦ subst (λ (o : Option Row). IsPassedRow at o (rows.Note note)) (sym is) (record {
    stamp = subst (λ (s : ℤ). IsWithin (pos 0) last_stamp (advanced (second_of at) s)) same test;
    keeps = same;
  })
  | inr made ↦ over_made at before was note same made test
]
  where
    over_made : (at : ℤ) (before : Option Row) (was note : Note) → note.stamp ≡ was.stamp → IsPassedRow at before (rows.Note was)
        → IsWithin (pos 0) last_stamp (advanced (second_of at) note.stamp) → IsPassedRow at before (rows.Note note)
    over_made at None was note same made test = record { stamp = made.stamp; keeps = tt }
    over_made at (Some b) was note same made test = record {
      stamp = subst (λ (s : ℤ). IsWithin (pos 0) last_stamp (advanced (second_of at) s)) (same ∙ made.keeps) test;
      keeps = same ∙ made.keeps;
    }

pub updated_passes : (at : ℤ) (given : NoteEdit) (c : Collection) (p : Progress) (how : Outcome) (made : MadeNote) → AreNamed (row_under p.collection) → ArePassed at c p → IsUpdatedOf at given p.collection made
    → ArePassed at c (made_after how given.tags made p)
updated_passes at given c p how made named passed updated =
    let edits = updated.is.is.is in
    let was : Note = updated.is.note in
    let test : AreTested (trial_of false at p.collection) made = tested (trial_of false at p.collection) made updated.tested in
    let name : Name = name_in tables.Note given.note in
    let found : row_under p.collection name ≡ Some (rows.Note was) = row_of_note (row_under p.collection name) was updated.is.there in
    let here : name_of (rows.Note made.note) ≡ name = ap (λ (n : Note). name_in tables.Note n.id) edits.texts ∙ named name (rows.Note was) found in
    let stood : IsPassedUnder at (row_under c name) (Some (rows.Note was)) = subst (IsPassedUnder at (row_under c name)) found (passed.rows name) in
    let note : IsPassedRow at (row_under c name) (rows.Note made.note) = kept_passes at (row_under c name) was made.note (ap (λ (n : Note). n.stamp) edits.texts) stood test.note in
    record {
      rows = rows_passed at c (rows_made made) p.collection.rows passed.rows (
        subst (λ (n : Name). IsPassedRow at (row_under c n) (rows.Note made.note)) (sym here) note,
        some_cards_pass at c p.collection.rows _ (first_name tables.Card at) _ made.cards refl passed.rows edits.cards (λ ord id card is. ap (λ (x : Card). x.id) is) test.cards,
      );
      moved = inr (subst (λ (m : ℤ). IsMoment (advanced at m)) passed.moment test.moment);
      moment = passed.moment;
    }

-- ---- the changes
pub with_row_put : (row : Row) (q : Collection) (tags : List (List ℕ)) → with_row row (edit_to q tags) ≡ edit_to (record q { rows = insert q.rows (name_of row) row }) tags
with_row_put row q tags =
    ap (λ (at : Name → Option Row). let e : Edit = record (edit_to q tags) { rows = at } in e) (fun_ext (λ (name : Name). sym (get-insert names_total q.rows (name_of row) row name)))

put_asks : (row : Row) (o : Overlay) (c q : Collection) (tags : List (List ℕ)) → edit_of o c ≡ edit_to q tags → edit_of (put_over row o) c ≡ edit_to (record q { rows = insert q.rows (name_of row) row }) tags
put_asks row o c q tags is = put_asked c o row ∙ ap (with_row row) is ∙ with_row_put row q tags

cards_ask : (cards : List Card) (o : Overlay) (c q : Collection) (tags : List (List ℕ)) → edit_of o c ≡ edit_to q tags
    → edit_of (cards_over cards o) c ≡ edit_to (record q { rows = rows_with (map (λ (card : Card). rows.Card card) cards) q.rows }) tags
cards_ask [] o c q tags is = is
cards_ask (card ∷ cards) o c q tags is =
    cards_ask cards (put_over (rows.Card card) o) c (record q { rows = insert q.rows (name_of (rows.Card card)) (rows.Card card) }) tags (put_asks (rows.Card card) o c q tags is)

tags_ask : (names : List (List ℕ)) (o : Overlay) (c q : Collection) (tags : List (List ℕ)) → edit_of o c ≡ edit_to q tags → edit_of (tags_over names o) c ≡ edit_to q (tags ++ names)
tags_ask [] o c q tags is = is ∙ ap (edit_to q) (sym (append-nil tags))
tags_ask (name ∷ names) o c q tags is =
    let one : edit_of (tag_over name o) c ≡ edit_to q (tags ++ name ∷ []) = ap (λ (e : Edit). let f : Edit = record e { tags = e.tags ++ name ∷ [] } in f) is in
    tags_ask names (tag_over name o) c q (tags ++ name ∷ []) one ∙ ap (edit_to q) (append_assoc tags (name ∷ []) names)

-- they ask for what was made of one more record
pub made_asks : (names : List (List ℕ)) (made : MadeNote) (o : Overlay) (c q : Collection) (tags : List (List ℕ)) → edit_of o c ≡ edit_to q tags
    → edit_of (made_over names made o) c ≡ edit_to (with_made made q) (tags ++ names)
made_asks names made o c q tags is =
    let noted : Overlay = put_over (rows.Note made.note) o in
    let put : Collection = record q { rows = rows_with (rows_made made) q.rows } in
    let rows_asked : edit_of (cards_over made.cards noted) c ≡ edit_to put tags =
    cards_ask made.cards noted c (record q { rows = insert q.rows (name_of (rows.Note made.note)) (rows.Note made.note) }) tags (put_asks (rows.Note made.note) o c q tags is) in
    let settled : edit_of (conf_over made.conf (cards_over made.cards noted)) c ≡ edit_to (with_made made q) tags = ap (λ (e : Edit). let f : Edit = record e { conf = made.conf } in f) rows_asked in
    tags_ask names (conf_over made.conf (cards_over made.cards noted)) c (with_made made q) tags settled
