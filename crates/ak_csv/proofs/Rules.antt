-- The fault of a row, by the tests that it passed.
use Rattle.std.proofs.Common.{inl, inr, ◌⊎◌, subst, ◌≡◌, ℕ, Bool, true, false, List, [], ◌∷◌, Option, Some, None, refl, sym, ap, ◌∙◌}
use Rattle.std.proofs.lemmas.Bool.{and_parts, cases_Bool}
use Rattle.std.proofs.lemmas.Str.{IsUtf8-from_is_utf8, is_utf8-from_IsUtf8}
use Rattle.std.specs.List.{list_all}
use Rattle.std.specs.Prelude.{Result, Ok, Err, IfErr, IfOk}
use Rattle.std.specs.Str.{is_utf8}
use Rattle.csv.specs.Records.{AllText}
use Rattle.ak_csv.specs.RecordRows.{Columns, IsShaped, guid_of, record_of, row_fault}
use Rattle.ak_csv.specs.declared.csv_faults.CsvFault.{CsvFault}
use Rattle.ak_csv.specs.declared.csv_faults.CsvFault.TheVariants as faults
use Rattle.ak_imports.specs.declared.records.Record.{Record}

pub all_texts : (row : Columns) → AllText row → list_all is_utf8 row ≡ true
unfolding AllText
all_texts [] h = refl
all_texts (column ∷ row) h = rw (is_utf8-from_IsUtf8 column h.0) (all_texts row h.1)

pub texts_all : (row : Columns) → list_all is_utf8 row ≡ true → AllText row
unfolding AllText
texts_all [] h = tt
texts_all (column ∷ row) h = let p = and_parts (is_utf8 column) (list_all is_utf8 row) h in (IsUtf8-from_is_utf8 column p.0, texts_all row p.1)

pub no_texts : (row : Columns) → (AllText row → ⊥) → list_all is_utf8 row ≡ false
no_texts row h = elim (cases_Bool (list_all is_utf8 row)) [ inl all ↦ absurd (h (texts_all row all)) | inr some ↦ some ]

pub row_passes : (fields : Option ℕ) (is_other : List ℕ → Bool) (number : ℕ) (row : Columns) → IsShaped fields row
    → list_all is_utf8 row ≡ true → is_other (guid_of row) ≡ false → row_fault fields is_other number row ≡ None
row_passes fields is_other number row shaped text own = rw (shaped.columns, shaped.named, text, own) refl

pub row_of_other : (fields : Option ℕ) (is_other : List ℕ → Bool) (number : ℕ) (row : Columns) → IsShaped fields row
    → list_all is_utf8 row ≡ true → is_other (guid_of row) ≡ true → row_fault fields is_other number row ≡ Some (faults.OtherType number)
row_of_other fields is_other number row shaped text other = rw (shaped.columns, shaped.named, text, other) refl

pub row_of_no_text : (fields : Option ℕ) (is_other : List ℕ → Bool) (number : ℕ) (row : Columns) → IsShaped fields row
    → (AllText row → ⊥) → row_fault fields is_other number row ≡ Some (faults.Csv number)
row_of_no_text fields is_other number row shaped none = rw (shaped.columns, shaped.named, no_texts row none) refl

-- a row of texts that was read, or refused for the type of its guid
pub texts_read : (fields : Option ℕ) (is_other : List ℕ → Bool) (number : ℕ) (row texts : Columns) (result : Result Record CsvFault)
    → texts ≡ row → IsShaped fields row → AllText texts
    → IfOk result (λ made. (is_other (guid_of texts) ≡ false) × (made ≡ record_of texts))
    → IfOk result (λ made. (row_fault fields is_other number row ≡ None) × (made ≡ record_of row))
texts_read fields is_other number row texts (Ok made) same shaped all read =
    let text = all_texts row (subst AllText same all) in
    (row_passes fields is_other number row shaped text (ap (λ (r : Columns). is_other (guid_of r)) (sym same) ∙ read.0), read.1 ∙ ap record_of same)
texts_read fields is_other number row texts (Err fault) same shaped all read = tt

pub texts_refused : (fields : Option ℕ) (is_other : List ℕ → Bool) (number : ℕ) (row texts : Columns) (result : Result Record CsvFault)
    → texts ≡ row → IsShaped fields row → AllText texts
    → IfErr result (λ fault. (fault ≡ faults.Memory) ⊎ (is_other (guid_of texts) ≡ true) × (fault ≡ faults.OtherType number))
    → IfErr result (λ fault. (fault ≡ faults.Memory) ⊎ (row_fault fields is_other number row ≡ Some fault))
texts_refused fields is_other number row texts (Ok made) same shaped all refused = tt
texts_refused fields is_other number row texts (Err fault) same shaped all (inl memory) = inl memory
texts_refused fields is_other number row texts (Err fault) same shaped all (inr (other, is)) =
    let text = all_texts row (subst AllText same all) in
    inr (row_of_other fields is_other number row shaped text (ap (λ (r : Columns). is_other (guid_of r)) (sym same) ∙ other) ∙ ap Some (sym is))
