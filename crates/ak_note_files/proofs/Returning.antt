-- Notes that are exported come back by an import.
use Rattle.std.specs.Prelude.{◌≡◌, ◌⊎◌, ℕ, ℤ, pos, Bool, List, [], ◌∷◌, length, map, Option, Some}
use Rattle.std.proofs.Common.{refl, sym, ap, subst, ◌∙◌}
use Rattle.std.proofs.Math.Path.{fun_ext}
use Rattle.std.proofs.lemmas.List.{length-map}
use Rattle.std.proofs.lemmas.List.Splits.{join_with_byte-slice_split}
use Rattle.std.proofs.lemmas.Option.{none-some}
use Rattle.std.specs.List.{AllByRecursion}
use Rattle.ak_base.specs.declared.notes.Note.{Note}
use Rattle.ak_csv.proofs.OneReading.{one_reading}
use Rattle.ak_csv.proofs.ReadAgain.{AreCounted, all_records, read_again, rows_again}
use Rattle.ak_csv.specs.CsvTexts.{AreRows}
use Rattle.ak_csv.specs.NoteRecords.{columns_of, notes_text}
use Rattle.ak_csv.specs.NotesAgain.{record_of_note}
use Rattle.ak_csv.specs.RecordRows.{record_of, rows_fault}
use Rattle.ak_csv.specs.declared.csv_faults.CsvFault.{CsvFault}
use Rattle.ak_imports.proofs.NewNotes.{new_guids_are_added, same_texts}
use Rattle.ak_imports.proofs.TakingAll.{held_at}
use Rattle.ak_imports.proofs.Tellings.{told_at}
use Rattle.ak_imports.specs.Imports.{IsImported}
use Rattle.ak_imports.specs.KeptRows.{HoldsCollection}
use Rattle.ak_imports.specs.NewNotes.{AreAllAdded, AreNewGuids, AreTextsOf, HaveCome, StoredTexts, texts_of_note, texts_of_record}
use Rattle.ak_imports.specs.NotesOfTypes.{notes_of_type}
use Rattle.ak_imports.specs.declared.imports.Imported.{Imported}
use Rattle.ak_keep.specs.Collections.{Collection, Rows}
use Rattle.ak_keep.specs.Keepers.{Keeping}
use Rattle.ak_keep.specs.Lookups.{note_at}
use Rattle.ak_note_files.specs.Exports.{export_text, text_of_notes}
use Rattle.ak_note_files.specs.Imports.{Imports, RefusesRecords, import_of}
use Rattle.ak_note_files.specs.Returns.{HaveReturned, MayBeRead, MayReturn, MayReturnTo}
use Rattle.ak_note_files.specs.Rules.{AreRulesFor, guids_of_others, is_among, own_type}
use Rattle.ak_note_files.specs.declared.places.ImportPlace.{ImportPlace}
use Rattle.ak_undo.specs.declared.steps.Step.{Step}

-- ---- the export is read
-- a type that is held has the text of its notes
text_is : (note_type : ℤ) (here : Rows) (text : List ℕ) (count : Option ℕ) (fields : ℕ) → text_of_notes count note_type here ≡ text → count ≡ Some fields → text ≡ notes_text fields (notes_of_type note_type here)
text_is note_type here text count fields is counted = sym is ∙ ap (λ (fields : Option ℕ). text_of_notes fields note_type here) counted

-- no record of the export breaks a rule
pub breaks_no_rule : (note_type : ℤ) (here : Rows) (c : Collection) (k : Keeping) (fault : CsvFault) → HoldsCollection k c → MayBeRead note_type here c.rows
    → RefusesRecords note_type (Some (export_text note_type here)) k fault → ⊥
breaks_no_rule note_type here c k fault holds may refuses =
    let notes : List Note = notes_of_type note_type here in
    let is_other : List ℕ → Bool = λ guid. is_among guid (guids_of_others (own_type note_type c.rows) c.rows) in
    let text : refuses.text ≡ notes_text may.fields notes = text_is note_type here refuses.text _ may.fields refuses.input.0 may.counted in
    let rules : AreRulesFor note_type c.rows refuses.fields refuses.is_other = told_at k c (λ h. AreRulesFor note_type h.rows refuses.fields refuses.is_other) holds refuses.rules in
    let others : refuses.is_other ≡ is_other = fun_ext rules.others in
    let again = read_again may.fields is_other notes may.notes may.plain in
    let rows : refuses.first.rows ≡ again.rows =
    one_reading (notes_text may.fields notes) refuses.first.rows again.rows (subst (λ (t : List ℕ). AreRows t refuses.first.rows) text refuses.first.read) again.read in
    none-some fault (sym again.faultless ∙ ap (rows_fault (Some may.fields) is_other 1) (sym rows) ∙ ap (λ (f : List ℕ → Bool). rows_fault (Some may.fields) f 1 refuses.first.rows) (sym others)
    ∙ ap (λ (n : Option ℕ). rows_fault n refuses.is_other 1 refuses.first.rows) (sym (rules.counted ∙ may.same)) ∙ refuses.first.first)

-- ---- its notes come back
all_counted : (fields : ℕ) (notes : List Note) → AllByRecursion (MayReturn fields) notes → AreCounted fields notes
all_counted fields [] all = tt
all_counted fields (note ∷ notes) all = (all.0.counted, all_counted fields notes all.1)

-- the records of notes have the texts that the notes store
texts_again : (fields : ℕ) (notes : List Note) → AllByRecursion (MayReturn fields) notes → map texts_of_record (map record_of_note notes) ≡ map texts_of_note notes
texts_again fields [] all = refl
texts_again fields (note ∷ notes) all =
    let one : texts_of_record (record_of_note note) ≡ texts_of_note note = same_texts (texts_of_record (record_of_note note)) (texts_of_note note) refl (join_with_byte-slice_split 31 note.flds) all.0.tags in
    ap (λ (texts : StoredTexts). texts ∷ map texts_of_record (map record_of_note notes)) one
    ∙ ap (λ (others : List StoredTexts). texts_of_note note ∷ others) (texts_again fields notes all.1)

-- an export is read as the records of its notes
records_again : (note_type : ℤ) (here there : Rows) (place : ImportPlace) (at : ℤ) (k now : Keeping) (steps later : List Step) (counts : Imported) → MayReturnTo note_type here there
    → (is : Imports place at (Some (export_text note_type here)) k now steps later counts) → is.records ≡ map record_of_note (notes_of_type note_type here)
records_again note_type here there place at k now steps later counts may is =
    let notes : List Note = notes_of_type note_type here in
    let text : is.read.text ≡ notes_text may.fields notes = text_is note_type here is.read.text _ may.fields is.read.input.0 may.counted in
    let rows : is.read.read.rows ≡ map (columns_of may.fields) notes =
    one_reading (notes_text may.fields notes) is.read.read.rows (map (columns_of may.fields) notes) (subst (λ (t : List ℕ). AreRows t is.read.read.rows) text is.read.read.read) (rows_again may.fields notes may.plain) in
    is.read.read.are ∙ ap (map record_of) rows ∙ sym (all_records may.fields notes (all_counted may.fields notes may.notes))

pub notes_return : (note_type deck at : ℤ) (here : Rows) (c : Collection) (k now : Keeping) (steps later : List Step) (counts : Imported) → HoldsCollection k c → MayReturnTo note_type here c.rows
    → Imports (record { note_type = note_type; deck = deck }) at (Some (export_text note_type here)) k now steps later counts → HaveReturned note_type here c k now counts
notes_return note_type deck at here c k now steps later counts holds may is =
    let place : ImportPlace = record { note_type = note_type; deck = deck } in
    let notes : List Note = notes_of_type note_type here in
    let records : is.records ≡ map record_of_note notes = records_again note_type here c.rows place at k now steps later counts may is in
    let done : IsImported at (import_of place is.records) c k now steps later counts =
    held_at k c (λ c. IsImported at (import_of place is.records) c k now steps later counts) holds is.done in
    let all : AreAllAdded note_type c.rows done.done.after.rows is.records counts =
    new_guids_are_added at (import_of place is.records) c k now steps later counts done (subst (AreNewGuids c.rows) (sym records) may.fresh) in
    let texts : map texts_of_record is.records ≡ map texts_of_note notes = ap (map texts_of_record) records ∙ texts_again may.fields notes may.notes in
    record {
      after = done.done.after;
      held = done.done.held;
      come = subst (HaveCome note_type c.rows done.done.after.rows (pos 0)) texts all.come;
      kept = all.kept;
      only = λ id note is. subst (λ (l : List StoredTexts). (note_at c.rows id ≡ Some note) ⊎ AreTextsOf note l) texts (all.only id note is);
      added = all.added ∙ ap length records ∙ length-map notes record_of_note;
      updated = all.updated;
      same = all.same;
    }
