-- The edit that deletes a deck is admitted.
use Rattle.std.specs.Prelude.{◌≡◌, ℕ, ℤ, false, List}
use Rattle.std.proofs.Common.{refl, sym, subst}
use Rattle.ak_base.specs.Rows.{name_of}
use Rattle.ak_base.specs.declared.names.Table.{Table}
use Rattle.ak_base.specs.declared.names.Table.TheVariants as tables
use Rattle.ak_base.specs.declared.rows.Row.{Row}
use Rattle.ak_base.specs.declared.rows.Row.TheVariants as rows
use Rattle.ak_deck_trees.specs.DeckDeletions.{deck_deletion}
use Rattle.ak_deck_trees.specs.Trees.{goes_with}
use Rattle.ak_edit_calls.specs.DeckPaths.{path_at}
use Rattle.ak_keep.specs.Collections.{Collection, Rows}
use Rattle.ak_merge.proofs.EditBuildingLaws.{unedited_is_admitted}
use Rattle.ak_merge.proofs.Sweeps.{sweeps_are_admitted}
use Rattle.ak_merge.specs.EditBuilding.{MaySweep, unedited}
use Rattle.ak_merge.specs.Edits.{Admits}
use Rattle.ak_merge.specs.Holdings.{AreNamed, row_under}

-- neither a note nor a card nor a deck
record StaysWhole (table : Table) : Type 0 where
  note : table ≡ tables.Note → ⊥
  card : table ≡ tables.Card → ⊥
  deck : table ≡ tables.Deck → ⊥

other_stays : (root : List ℕ) (held : Rows) (row : Row) → StaysWhole (name_of row).table → goes_with root held row ≡ false
other_stays root held (rows.Note note) other = absurd (other.note refl)
other_stays root held (rows.Card card) other = absurd (other.card refl)
other_stays root held (rows.Deck deck) other = absurd (other.deck refl)
other_stays root held (rows.Review review) other = refl
other_stays root held (rows.NoteType note_type) other = refl
other_stays root held (rows.Options options) other = refl
other_stays root held (rows.Grave grave) other = refl

apart : (root : List ℕ) (held : Rows) (table : Table) (row : Row) → StaysWhole table → (name_of row).table ≡ table → goes_with root held row ≡ false
apart root held table row stays is = other_stays root held row (subst StaysWhole (sym is) stays)

pub deck_deletions_are_admitted : (deck : ℤ) (c : Collection) → AreNamed (row_under c) → Admits c (deck_deletion deck c)
deck_deletions_are_admitted deck c named =
    let root : List ℕ = path_at c.rows deck in
    let may : MaySweep false (goes_with root c.rows) = record {
      review = λ row is. apart root c.rows tables.Review row (record { note = λ e. cc; card = λ e. cc; deck = λ e. cc }) is;
      note_type = λ row _ is. apart root c.rows tables.NoteType row (record { note = λ e. cc; card = λ e. cc; deck = λ e. cc }) is;
      options = λ row _ is. apart root c.rows tables.Options row (record { note = λ e. cc; card = λ e. cc; deck = λ e. cc }) is;
    } in
    sweeps_are_admitted c (unedited c) (goes_with root c.rows) (unedited_is_admitted c named) may
