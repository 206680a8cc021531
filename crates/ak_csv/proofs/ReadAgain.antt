-- What notes are written as is read as their records.
use Rattle.std.proofs.Common.{◌≡◌, ℕ, ◌+◌, Bool, List, [], ◌∷◌, ◌++◌, Some, None, refl, sym, ap, ◌∙◌, subst, append_assoc, map, arith}
use Rattle.std.proofs.lemmas.Bool.{eq-eqb}
use Rattle.std.specs.List.{AllByRecursion}
use Rattle.std.specs.Prelude.{length}
use Rattle.csv.proofs.RoundTrip.{read-write-many}
use Rattle.csv.specs.Machine.{next_record}
use Rattle.csv.specs.Reading.{Reached, default_config, strip_bom}
use Rattle.csv.specs.Writing.{default_writer, field_text, fields_text, is_blank, row_text}
use Rattle.csv.specs.declared.parser.State.TheVariants as states
use Rattle.ak_base.specs.NoteTexts.{fields_in, tags_in}
use Rattle.ak_base.specs.declared.notes.Note.{Note}
use Rattle.ak_csv.proofs.Fitting.{fitted_length, fitted_whole}
use Rattle.ak_csv.proofs.Marks.{strip_field}
use Rattle.ak_csv.proofs.Rules.{row_passes}
use Rattle.ak_csv.proofs.Words.{are_tags, tags_again}
use Rattle.ak_csv.specs.CsvTexts.{AreRows}
use Rattle.ak_csv.specs.NoteRecords.{columns_of, fitted, notes_text, tags_column}
use Rattle.ak_csv.specs.NotesAgain.{AreReadAgain, BeginsPlainly, IsReadable, record_of_note}
use Rattle.ak_csv.specs.RecordRows.{IsShaped, record_of, rows_fault}
use Rattle.ak_imports.specs.declared.records.Record.{Record}

-- ---- the rows
rows_reached : (fields : ℕ) (notes : List Note)
    → Reached default_config states.StartRecord (notes_text fields notes) (map (columns_of fields) notes) states.StartRecord []
unfolding Reached
rows_reached fields [] = (refl, refl)
rows_reached fields (note ∷ notes) = (
  (columns_of fields note, states.StartRecord, notes_text fields notes),
  read-write-many note.guid (tags_column note) (fitted fields (fields_in note.flds)) (notes_text fields notes),
  refl,
  rows_reached fields notes,
)

-- a note's bytes begin with its guid and a comma
behind_guid : (first second : List ℕ) (others : List (List ℕ)) (tail : List ℕ)
    → row_text default_writer (first ∷ second ∷ others) ++ tail
    ≡ field_text default_writer first ++ (44 ∷ ((field_text default_writer second ++ fields_text default_writer others) ++ (10 ∷ tail)))
unfolding is_blank fields_text
behind_guid first second others tail =
    append_assoc (field_text default_writer first ++ (44 ∷ (field_text default_writer second ++ fields_text default_writer others))) (10 ∷ []) tail
    ∙ append_assoc (field_text default_writer first) (44 ∷ (field_text default_writer second ++ fields_text default_writer others)) (10 ∷ tail)

plain_text : (fields : ℕ) (notes : List Note) → BeginsPlainly notes → strip_bom (notes_text fields notes) ≡ notes_text fields notes
unfolding strip_bom
plain_text fields [] plain = refl
plain_text fields (note ∷ notes) plain =
    let others = fitted fields (fields_in note.flds) in
    let cut = behind_guid note.guid (tags_column note) others (notes_text fields notes) in
    let rest = (field_text default_writer (tags_column note) ++ fields_text default_writer others) ++ (10 ∷ notes_text fields notes) in
    ap strip_bom cut ∙ strip_field note.guid rest plain ∙ sym cut

-- the rows of the notes are read
pub rows_again : (fields : ℕ) (notes : List Note) → BeginsPlainly notes → AreRows (notes_text fields notes) (map (columns_of fields) notes)
unfolding next_record
rows_again fields notes plain = (
  states.StartRecord,
  [],
  subst (λ (text : List ℕ). Reached default_config states.StartRecord text (map (columns_of fields) notes) states.StartRecord [])
      (sym (plain_text fields notes plain)) (rows_reached fields notes),
  refl,
)

-- ---- the records
one_record : (fields : ℕ) (note : Note) → length (fields_in note.flds) ≡ fields → record_of (columns_of fields note) ≡ record_of_note note
one_record fields note counted =
    let tags = tags_again (tags_in note.tags) (are_tags note.tags) in
    let whole : fitted fields (fields_in note.flds) ≡ fields_in note.flds =
    ap (λ (count : ℕ). fitted count (fields_in note.flds)) (sym counted) ∙ fitted_whole (fields_in note.flds) in
    ap (λ (ts : List (List ℕ)). record { guid = note.guid; tags = ts; fields = fitted fields (fields_in note.flds) }) tags
    ∙ ap (λ (fs : List (List ℕ)). record { guid = note.guid; tags = tags_in note.tags; fields = fs }) whole

-- the notes have as many fields as their type
abbrev pub AreCounted : ℕ → List Note → Type 0
AreCounted fields notes = AllByRecursion (λ (note : Note). length (fields_in note.flds) ≡ fields) notes

pub all_records : (fields : ℕ) (notes : List Note) → AreCounted fields notes
    → map record_of_note notes ≡ map record_of (map (columns_of fields) notes)
all_records fields [] all = refl
all_records fields (note ∷ notes) all =
    ap (λ (r : Record). r ∷ map record_of_note notes) (sym (one_record fields note all.0))
    ∙ ap (λ (rs : List Record). record_of (columns_of fields note) ∷ rs) (all_records fields notes all.1)

-- ---- the rules
is_shaped : (fields : ℕ) (is_other : List ℕ → Bool) (note : Note) → IsReadable fields is_other note → IsShaped (Some fields) (columns_of fields note)
is_shaped fields is_other note h = record {
  columns = eq-eqb (length (columns_of fields note)) (fields + 2) (omega (arith, fitted_length fields (fields_in note.flds)));
  named = h.named;
}

no_fault : (fields number : ℕ) (is_other : List ℕ → Bool) (notes : List Note) → AllByRecursion (IsReadable fields is_other) notes
    → rows_fault (Some fields) is_other number (map (columns_of fields) notes) ≡ None
no_fault fields number is_other [] all = refl
no_fault fields number is_other (note ∷ notes) all =
    let passes = row_passes (Some fields) is_other number (columns_of fields note) (is_shaped fields is_other note all.0) all.0.text all.0.own in
    rw passes (no_fault fields (number + 1) is_other notes all.1)

all_counted : (fields : ℕ) (is_other : List ℕ → Bool) (notes : List Note) → AllByRecursion (IsReadable fields is_other) notes → AreCounted fields notes
all_counted fields is_other [] all = tt
all_counted fields is_other (note ∷ notes) all = (all.0.counted, all_counted fields is_other notes all.1)

pub read_again : AreReadAgain
read_again fields is_other notes all plain = record {
  rows = map (columns_of fields) notes;
  read = rows_again fields notes plain;
  faultless = no_fault fields 1 is_other notes all;
  are = all_records fields notes (all_counted fields is_other notes all);
}
