-- The edits of these calls are admitted.
use Rattle.std.specs.Prelude.{◌≡◌, ◌++◌, ℤ, Bool, true, false, not, if◌then◌else◌, List, [], ◌∷◌}
use Rattle.std.proofs.Common.{refl, sym, ap, subst, ◌∙◌}
use Rattle.std.specs.Option.{unwrap_or}
use Rattle.std.specs.Ordering.{int_eq}
use Rattle.ak_base.specs.Rows.{name_of}
use Rattle.ak_base.specs.declared.cards.Card.{Card}
use Rattle.ak_base.specs.declared.heads.Conf.{Conf}
use Rattle.ak_base.specs.declared.names.Name.{Name}
use Rattle.ak_base.specs.declared.names.Table.TheVariants as tables
use Rattle.ak_base.specs.declared.note_types.NoteType.{NoteType}
use Rattle.ak_base.specs.declared.rows.Row.{Row}
use Rattle.ak_base.specs.declared.rows.Row.TheVariants as rows
use Rattle.ak_edit_calls.proofs.AdmittedEdits.{row_edits_are_admitted}
use Rattle.ak_keep.specs.Collections.{Collection}
use Rattle.ak_merge.proofs.EditBuildingLaws.{maps_are_admitted, puts_are_admitted, removals_are_admitted, schema_changes_are_admitted, settings_are_admitted, unedited_is_admitted}
use Rattle.ak_merge.proofs.EditFacts.{false_true}
use Rattle.ak_merge.proofs.Sweeps.{sweeps_are_admitted}
use Rattle.ak_merge.specs.EditBuilding.{MayMap, MayPut, MayRemove, MaySweep, unedited, with_row, with_rows_mapped, with_schema, without_rows}
use Rattle.ak_merge.specs.Edits.{Admits, Edit}
use Rattle.ak_merge.specs.Holdings.{AreNamed, name_in, row_under}
use Rattle.ak_notes.proofs.AdmittedNotes.{cards_are_admitted}
use Rattle.ak_notes.specs.LackingNotes.{lacked_ords, missing_place, next_after, next_at}
use Rattle.ak_notes.specs.MadeNotes.{with_cards}
use Rattle.ak_notes.specs.NewCards.{first_after}
use Rattle.ak_notes.specs.declared.lacking_notes.LackingNote.{LackingNote}
use Rattle.ak_notes.specs.declared.lacking_notes.NextCards.{NextCards}
use Rattle.ak_types.specs.GivenTypes.{as_given, with_id}
use Rattle.ak_types.specs.RetypedCards.{AreAllMissing}
use Rattle.ak_types.specs.RetypedRows.{has_type, is_dropped, ord_after, retyped, retyped_note, with_ord}
use Rattle.ak_types.specs.TypeAdditions.{given_addition}
use Rattle.ak_types.specs.TypeDeletions.{type_deletion}
use Rattle.ak_types.specs.TypeEdits.{IsRetyping, keeps_schema, retyping, with_schema_if}
use Rattle.ak_types.specs.declared.type_edits.TypeEdit.{TypeEdit}

-- a note type may always be put, since types leave no graves
type_may : (c : Collection) (note_type : NoteType) → MayPut c (rows.NoteType note_type)
type_may c note_type = record { free = λ _. refl; review = λ e. absurd (cc) }

pub additions_are_admitted : (note_type : NoteType) (id : ℤ) (c : Collection) → AreNamed (row_under c) → Admits c (given_addition note_type id c)
additions_are_admitted note_type id c named =
    row_edits_are_admitted (rows.NoteType (with_id id (as_given note_type))) c (type_may c (with_id id (as_given note_type))) named

pub deletions_are_admitted : (note_type : ℤ) (c : Collection) → AreNamed (row_under c) → Admits c (type_deletion note_type c)
deletions_are_admitted note_type c named =
    let remove : MayRemove c true (name_in tables.NoteType note_type) = record {
      review = λ e. absurd (cc);
      note_type = λ same _. false_true (sym same);
      options = λ same _. false_true (sym same);
    } in
    removals_are_admitted c (with_schema (unedited c)) (name_in tables.NoteType note_type)
    (schema_changes_are_admitted c (unedited c) (unedited_is_admitted c named)) remove

-- ---- an edit
schema_admitted : (c : Collection) (changes : Bool) → AreNamed (row_under c) → Admits c (with_schema_if changes (unedited c))
schema_admitted c true named = schema_changes_are_admitted c (unedited c) (unedited_is_admitted c named)
schema_admitted c false named = unedited_is_admitted c named

dropped_review : (given : TypeEdit) (old : NoteType) (c : Collection) (row : Row) → (name_of row).table ≡ tables.Review → is_dropped given old c.rows row ≡ false
dropped_review given old c (rows.Card card) is = absurd (cc)
dropped_review given old c (rows.Note note) is = refl
dropped_review given old c (rows.Review review) is = refl
dropped_review given old c (rows.NoteType note_type) is = refl
dropped_review given old c (rows.Deck deck) is = refl
dropped_review given old c (rows.Options options) is = refl
dropped_review given old c (rows.Grave grave) is = refl

dropped_type : (given : TypeEdit) (old : NoteType) (c : Collection) (row : Row) → (name_of row).table ≡ tables.NoteType → is_dropped given old c.rows row ≡ false
dropped_type given old c (rows.Card card) is = absurd (cc)
dropped_type given old c (rows.Note note) is = refl
dropped_type given old c (rows.Review review) is = refl
dropped_type given old c (rows.NoteType note_type) is = refl
dropped_type given old c (rows.Deck deck) is = refl
dropped_type given old c (rows.Options options) is = refl
dropped_type given old c (rows.Grave grave) is = refl

dropped_options : (given : TypeEdit) (old : NoteType) (c : Collection) (row : Row) → (name_of row).table ≡ tables.Options → is_dropped given old c.rows row ≡ false
dropped_options given old c (rows.Card card) is = absurd (cc)
dropped_options given old c (rows.Note note) is = refl
dropped_options given old c (rows.Review review) is = refl
dropped_options given old c (rows.NoteType note_type) is = refl
dropped_options given old c (rows.Deck deck) is = refl
dropped_options given old c (rows.Options options) is = refl
dropped_options given old c (rows.Grave grave) is = refl

dropped_may : (given : TypeEdit) (old : NoteType) (c : Collection) (schema : Bool) → MaySweep schema (is_dropped given old c.rows)
dropped_may given old c schema = record {
  review = λ row is. dropped_review given old c row is;
  note_type = λ row _ is. dropped_type given old c row is;
  options = λ row _ is. dropped_options given old c row is;
}

retyped_name : (given : TypeEdit) (old : NoteType) (c : Collection) (row : Row) → name_of (retyped given old c.rows row) ≡ name_of row
retyped_name given old c (rows.Note note) =
    elim (int_eq note.mid given.note_type.id) as (λ b. name_of (rows.Note (if b then retyped_note given note else note)) ≡ name_of (rows.Note note)) [ true ↦ refl | false ↦ refl ]
retyped_name given old c (rows.Card card) =
    elim (has_type given.note_type.id c.rows card.nid) as (λ b. name_of (rows.Card (if b then with_ord card (unwrap_or (ord_after given old card.ord) card.ord) else card)) ≡ name_of (rows.Card card)) [ true ↦ refl | false ↦ refl ]
retyped_name given old c (rows.Review review) = refl
retyped_name given old c (rows.NoteType note_type) = refl
retyped_name given old c (rows.Deck deck) = refl
retyped_name given old c (rows.Options options) = refl
retyped_name given old c (rows.Grave grave) = refl

retyped_review : (given : TypeEdit) (old : NoteType) (c : Collection) (row : Row) → (name_of row).table ≡ tables.Review → retyped given old c.rows row ≡ row
retyped_review given old c (rows.Note note) is = absurd (cc)
retyped_review given old c (rows.Card card) is = absurd (cc)
retyped_review given old c (rows.Review review) is = refl
retyped_review given old c (rows.NoteType note_type) is = refl
retyped_review given old c (rows.Deck deck) is = refl
retyped_review given old c (rows.Options options) is = refl
retyped_review given old c (rows.Grave grave) is = refl

-- ---- its new cards
pub with_both : (one other : List Card) (edit : Edit) → with_cards (one ++ other) edit ≡ with_cards other (with_cards one edit)
with_both [] other edit = refl
with_both (card ∷ one) other edit = with_both one other (with_row (rows.Card card) edit)

after_table : (cards : List Card) (first : Name) → (first_after cards first).table ≡ first.table
after_table [] first = refl
after_table (card ∷ cards) first = after_table cards (name_in first.table _)

all_cards_are_admitted : (c : Collection) (lacking : List LackingNote) (next : NextCards) (cards : List Card) (end : NextCards) (edit : Edit) → next.first.table ≡ tables.Card
    → AreAllMissing c.rows lacking next cards end → Admits c edit → Admits c (with_cards cards edit)
all_cards_are_admitted c [] next cards end edit of are admits = subst (λ (l : List Card). Admits c (with_cards l edit)) (sym are.0) admits
all_cards_are_admitted c (note ∷ lacking) next cards end edit of are admits =
    let own : List Card = are.0 in
    let one : Admits c (with_cards own edit) = cards_are_admitted c (missing_place note next) next.first (lacked_ords note) own edit of are.3 admits in
    let all : Admits c (with_cards are.1 (with_cards own edit)) = all_cards_are_admitted c lacking (next_after own next) are.1 end (with_cards own edit) (after_table own next.first ∙ of) are.4 one in
    subst (λ (e : Edit). Admits c e) (sym (ap (λ (l : List Card). with_cards l edit) are.2 ∙ with_both own are.1 edit)) all

pub edits_are_admitted : (at : ℤ) (given : TypeEdit) (c : Collection) (old : NoteType) (cards : List Card) (conf : Conf) → AreNamed (row_under c)
    → IsRetyping at given c old cards conf → Admits c (retyping given old cards conf c)
edits_are_admitted at given c old cards conf named is =
    let base : Edit = with_schema_if (not (keeps_schema given old)) (unedited c) in
    let swept : Edit = without_rows (is_dropped given old c.rows) base in
    let mapped : Edit = with_rows_mapped (retyped given old c.rows) swept in
    let put : Edit = with_row (rows.NoteType (as_given given.note_type)) mapped in
    let map : MayMap (retyped given old c.rows) = record { name = λ row. retyped_name given old c row; review = λ row of. retyped_review given old c row of } in
    let all : Admits c put = puts_are_admitted c mapped (rows.NoteType (as_given given.note_type))
    (maps_are_admitted c swept (retyped given old c.rows)
    (sweeps_are_admitted c base (is_dropped given old c.rows) (schema_admitted c (not (keeps_schema given old)) named) (dropped_may given old c base.schema)) map)
    (type_may c (as_given given.note_type)) in
    settings_are_admitted c (with_cards cards put) conf
    (all_cards_are_admitted c is.is.lacking (next_at at c.head.conf) cards is.is.end put refl is.is.missing all)
