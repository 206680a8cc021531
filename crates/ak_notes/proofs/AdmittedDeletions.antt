-- The edit that deletes notes is admitted.
use Rattle.std.specs.Prelude.{◌≡◌, ℤ, Bool, false, List}
use Rattle.std.proofs.Common.{refl, sym, subst}
use Rattle.ak_base.specs.Rows.{name_of}
use Rattle.ak_base.specs.declared.names.Table.{Table}
use Rattle.ak_base.specs.declared.names.Table.TheVariants as tables
use Rattle.ak_base.specs.declared.rows.Row.{Row}
use Rattle.ak_base.specs.declared.rows.Row.TheVariants as rows
use Rattle.ak_edit_calls.specs.Calls.{has_id}
use Rattle.ak_keep.specs.Collections.{Collection}
use Rattle.ak_merge.proofs.EditBuildingLaws.{unedited_is_admitted}
use Rattle.ak_merge.proofs.Sweeps.{sweeps_are_admitted}
use Rattle.ak_merge.specs.EditBuilding.{MaySweep, unedited}
use Rattle.ak_merge.specs.Edits.{Admits}
use Rattle.ak_merge.specs.Holdings.{AreNamed, row_under}
use Rattle.ak_notes.specs.Deletions.{deletion, is_of_note}

-- neither a note nor a card
abbrev StaysWhole : Table → Type 0
StaysWhole table = (table ≡ tables.Note → ⊥) × (table ≡ tables.Card → ⊥)

other_stays : (test : ℤ → Bool) (row : Row) → StaysWhole (name_of row).table → is_of_note test row ≡ false
other_stays test (rows.Note note) other = absurd (other.0 refl)
other_stays test (rows.Card card) other = absurd (other.1 refl)
other_stays test (rows.Review review) other = refl
other_stays test (rows.NoteType note_type) other = refl
other_stays test (rows.Deck deck) other = refl
other_stays test (rows.Options options) other = refl
other_stays test (rows.Grave grave) other = refl

apart : (table : Table) (row : Row) (test : ℤ → Bool) → StaysWhole table → (name_of row).table ≡ table → is_of_note test row ≡ false
apart table row test stays is = other_stays test row (subst StaysWhole (sym is) stays)

pub deletions_are_admitted : (notes : List ℤ) (c : Collection) → AreNamed (row_under c) → Admits c (deletion notes c)
deletions_are_admitted notes c named =
    let may : MaySweep false (is_of_note (has_id notes)) = record {
      review = λ row is. apart tables.Review row (has_id notes) ((λ e. cc), (λ e. cc)) is;
      note_type = λ row _ is. apart tables.NoteType row (has_id notes) ((λ e. cc), (λ e. cc)) is;
      options = λ row _ is. apart tables.Options row (has_id notes) ((λ e. cc), (λ e. cc)) is;
    } in
    sweeps_are_admitted c (unedited c) (is_of_note (has_id notes)) (unedited_is_admitted c named) may
