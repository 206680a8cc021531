-- Edits that change cards one by one, or one row, are admitted.
use Rattle.std.specs.Prelude.{◌≡◌, ℤ, Bool, true, false, if◌then◌else◌, List, Option, Some, None}
use Rattle.std.proofs.Common.{refl, sym, ap, ◌∙◌}
use Rattle.std.proofs.lemmas.Option.{none-some}
use Rattle.std.specs.Option.{option_map_or}
use Rattle.ak_base.specs.Rows.{name_of}
use Rattle.ak_base.specs.declared.cards.Card.{Card}
use Rattle.ak_base.specs.declared.names.Name.{Name}
use Rattle.ak_base.specs.declared.names.Table.TheVariants as tables
use Rattle.ak_base.specs.declared.rows.Row.{Row}
use Rattle.ak_base.specs.declared.rows.Row.TheVariants as rows
use Rattle.ak_edit_calls.specs.Calls.{has_id}
use Rattle.ak_edit_calls.specs.CardEdits.{KeepsIds, card_edit, changed_if}
use Rattle.ak_edit_calls.specs.RowEdits.{MayChange, row_change, row_edit}
use Rattle.ak_keep.specs.Collections.{Collection}
use Rattle.ak_merge.proofs.EditBuildingLaws.{maps_are_admitted, puts_are_admitted, unedited_is_admitted}
use Rattle.ak_merge.specs.EditBuilding.{MayMap, MayPut, unedited}
use Rattle.ak_merge.specs.Edits.{Admits}
use Rattle.ak_merge.specs.Holdings.{AreNamed, name_in, row_under}

named_same : (test : ℤ → Bool) (change : Card → Card) (row : Row) → KeepsIds change → name_of (changed_if test change row) ≡ name_of row
named_same test change (rows.Card card) keeps =
    ap (name_in tables.Card) (elim (test card.id) as (λ b. (if b then change card else card).id ≡ card.id) [ true ↦ keeps card | false ↦ refl ])
named_same test change (rows.Note note) keeps = refl
named_same test change (rows.Review review) keeps = refl
named_same test change (rows.NoteType note_type) keeps = refl
named_same test change (rows.Deck deck) keeps = refl
named_same test change (rows.Options options) keeps = refl
named_same test change (rows.Grave grave) keeps = refl

review_same : (test : ℤ → Bool) (change : Card → Card) (row : Row) → (name_of row).table ≡ tables.Review → changed_if test change row ≡ row
review_same test change (rows.Card card) is = absurd (cc)
review_same test change (rows.Note note) is = refl
review_same test change (rows.Review review) is = refl
review_same test change (rows.NoteType note_type) is = refl
review_same test change (rows.Deck deck) is = refl
review_same test change (rows.Options options) is = refl
review_same test change (rows.Grave grave) is = refl

pub card_edits_are_admitted : (change : Card → Card) (cards : List ℤ) (c : Collection) → KeepsIds change → AreNamed (row_under c) → Admits c (card_edit change cards c)
card_edits_are_admitted change cards c keeps named =
    let may : MayMap (changed_if (has_id cards) change) = record {
      name = λ row. named_same (has_id cards) change row keeps;
      review = λ row is. review_same (has_id cards) change row is;
    } in
    maps_are_admitted c (unedited c) (changed_if (has_id cards) change) (unedited_is_admitted c named) may

-- ---- one row
-- a row that is held may be put as it is changed
changed_may : (of : Name) (change : Row → Row) (c : Collection) (row : Row) → MayChange of change → row_under c of ≡ Some row → name_of row ≡ of → MayPut c (change row)
changed_may of change c row may held bears =
    let is : name_of (change row) ≡ of = may.name row ∙ bears in
    record {
      free = λ none. absurd (none-some row (sym none ∙ ap (row_under c) is ∙ held));
      review = λ review. absurd (may.review (sym (ap (λ (n : Name). n.table) is) ∙ review));
    }

held_admitted : (of : Name) (change : Row → Row) (c : Collection) (x : Option Row) → MayChange of change → AreNamed (row_under c) → row_under c of ≡ x
    → Admits c (option_map_or (λ (row : Row). row_edit (change row) c) x (unedited c))
held_admitted of change c None may named held = unedited_is_admitted c named
held_admitted of change c (Some row) may named held =
    puts_are_admitted c (unedited c) (change row) (unedited_is_admitted c named) (changed_may of change c row may held (named of row held))

pub row_changes_are_admitted : (of : Name) (change : Row → Row) (c : Collection) → MayChange of change → AreNamed (row_under c) → Admits c (row_change of change c)
row_changes_are_admitted of change c may named = held_admitted of change c (row_under c of) may named refl

pub row_edits_are_admitted : (row : Row) (c : Collection) → MayPut c row → AreNamed (row_under c) → Admits c (row_edit row c)
row_edits_are_admitted row c may named = puts_are_admitted c (unedited c) row (unedited_is_admitted c named) may
