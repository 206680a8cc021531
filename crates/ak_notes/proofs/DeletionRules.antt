-- What the removals of notes and their cards, one by one, ask for, and when their edit is refused.
use Rattle.std.specs.Prelude.{◌≡◌, ℕ, ℤ, pos, ◌+◌, ◌<◌, Bool, true, false, not, ◌||◌, cond, if◌then◌else◌, List, [], ◌∷◌, length, get_or, drop, Option, Some, None, Result, Ok}
use Rattle.std.proofs.Common.{refl, sym, ap, subst, ◌∙◌}
use Rattle.std.proofs.Math.Path.{fun_ext}
use Rattle.std.proofs.lemmas.List.{at_drop_more}
use Rattle.std.proofs.lemmas.Option.{none-some}
use Rattle.std.specs.Cmp.{int_eq_equiv}
use Rattle.std.specs.FinMap.{get}
use Rattle.std.specs.Option.{option_and_then, option_map, option_map_or, unwrap_or}
use Rattle.std.specs.Ordering.{eq_by_cmp, int_eq}
use Rattle.ak_base.proofs.RowFacts.{same_fields-itself}
use Rattle.ak_base.specs.Contents.{same_but_stamp_and_usn}
use Rattle.ak_base.specs.Names.{name_cmp}
use Rattle.ak_base.specs.Rows.{name_of}
use Rattle.ak_base.specs.Tables.{graves_of, of_grave_code}
use Rattle.ak_base.specs.declared.names.Name.{Name}
use Rattle.ak_base.specs.declared.names.Table.{Table}
use Rattle.ak_base.specs.declared.names.Table.TheVariants as tables
use Rattle.ak_base.specs.declared.rows.Row.{Row}
use Rattle.ak_base.specs.declared.rows.Row.TheVariants as rows
use Rattle.ak_edit_calls.proofs.Answering.{never_first, passed_first}
use Rattle.ak_edit_calls.proofs.Overlaying.{edit_by_names, none_noted, removed_under, rest_of}
use Rattle.ak_edit_calls.proofs.Telling.{where_held-both, where_rows_held, where_told-both}
use Rattle.ak_edit_calls.specs.Calls.{DoesEdit, RefusesMissing, has_id}
use Rattle.ak_edit.specs.Ends.{AnswersEnd, FinishedBy, IsFinished, IsHeldRightly, RefusesEnd, RefusesRow, RefusesStamp}
use Rattle.ak_edit.specs.Overlays.{Overlay, edit_of, removed_over, row_over, unchanged}
use Rattle.ak_edit.specs.Refusals.{AnswersBy}
use Rattle.ak_edit.specs.declared.desk_faults.DeskFault.{DeskFault}
use Rattle.ak_keep.specs.Collections.{Collection, Rows, cards_of, is_card_of}
use Rattle.ak_keep.specs.Keepers.{Keeping, WhereHeld, WhereTold}
use Rattle.ak_merge.specs.Edits.{Edit, changes_row, edited}
use Rattle.ak_keep.specs.Graves.{RowsByName}
use Rattle.ak_merge.specs.Holdings.{AreNamed, name_in, row_under}
use Rattle.ak_notes.proofs.NoteCards.{names_card, names_card_is}
use Rattle.ak_notes.specs.Deletions.{RefusesDeletion, deletion, is_of_note, without_cards, without_each, without_note}
use Rattle.ak_undo.specs.declared.steps.Step.{Step}

-- ---- what is removed says nothing besides rows
rest_cards : (cards : List ℤ) (o : Overlay) → rest_of (without_cards cards o) ≡ rest_of o
rest_cards [] o = refl
rest_cards (card ∷ cards) o = rest_cards cards (removed_over (name_in tables.Card card) o)

rest_each : (held : Rows) (notes : List ℤ) (o : Overlay) → rest_of (without_each held notes o) ≡ rest_of o
rest_each held [] o = refl
rest_each held (note ∷ notes) o =
    rest_each held notes (without_note held (name_in tables.Note note) o) ∙ rest_cards (cards_of note held) (removed_over (name_in tables.Note note) o)

-- ---- rows by name
either_none : (a b : Bool) (x : Option Row) → cond b None (cond a None x) ≡ cond (a || b) None x
either_none true true x = refl
either_none true false x = refl
either_none false true x = refl
either_none false false x = refl

cards_under : (cards : List ℤ) (o : Overlay) (at : RowsByName) (name : Name) → row_over (without_cards cards o) at name ≡ cond (names_card cards name) None (row_over o at name)
cards_under [] o at name = refl
cards_under (card ∷ cards) o at name =
    cards_under cards (removed_over (name_in tables.Card card) o) at name
    ∙ ap (cond (names_card cards name) None) (removed_under o at (name_in tables.Card card) name)
    ∙ either_none (eq_by_cmp name_cmp name (name_in tables.Card card)) (names_card cards name) (row_over o at name)

-- what is left of a row
abbrev kept : (ℤ → Bool) → Row → Option Row
kept test row = if is_of_note test row then None else Some row

-- the changes so far have removed the notes whose ids meet the test, and their cards
abbrev HasRemoved : (ℤ → Bool) → RowsByName → Overlay → Type 0
HasRemoved test at o = (name : Name) → row_over o at name ≡ option_and_then (kept test) (at name)

-- a test that one more id meets
abbrev or_id : (ℤ → Bool) → ℤ → ℤ → Bool
or_id test id other = test other || int_eq id other

grave_apart : (o : Option Table) (oid id : ℤ) → eq_by_cmp name_cmp (record { table = unwrap_or (option_and_then graves_of o) tables.DeckGrave; id = oid }) (name_in tables.Note id) ≡ false
grave_apart None oid id = refl
grave_apart (Some tables.Note) oid id = refl
grave_apart (Some tables.Card) oid id = refl
grave_apart (Some tables.Review) oid id = refl
grave_apart (Some tables.NoteType) oid id = refl
grave_apart (Some tables.Deck) oid id = refl
grave_apart (Some tables.Options) oid id = refl
grave_apart (Some tables.NoteGrave) oid id = refl
grave_apart (Some tables.CardGrave) oid id = refl
grave_apart (Some tables.DeckGrave) oid id = refl

one_of_two : (a b : Bool) (x : Option Row) → cond a None (if b then None else x) ≡ (if b || a then None else x)
one_of_two true true x = refl
one_of_two true false x = refl
one_of_two false true x = refl
one_of_two false false x = refl

-- one note and its cards go from what is left
one_kept : (test : ℤ → Bool) (id : ℤ) (row : Row) → cond (is_card_of id row) None (cond (eq_by_cmp name_cmp (name_of row) (name_in tables.Note id)) None (kept test row)) ≡ kept (or_id test id) row
one_kept test id (rows.Note note) =
    ap (λ b. cond b None (if test note.id then None else Some (rows.Note note))) (int_eq_equiv.symm note.id id)
    ∙ one_of_two (int_eq id note.id) (test note.id) (Some (rows.Note note))
one_kept test id (rows.Card card) =
    ap (λ b. cond b None (if test card.nid then None else Some (rows.Card card))) (int_eq_equiv.symm card.nid id)
    ∙ one_of_two (int_eq id card.nid) (test card.nid) (Some (rows.Card card))
one_kept test id (rows.Review review) = refl
one_kept test id (rows.NoteType note_type) = refl
one_kept test id (rows.Deck deck) = refl
one_kept test id (rows.Options options) = refl
one_kept test id (rows.Grave grave) =
    ap (λ b. cond b None (Some (rows.Grave grave))) (grave_apart (of_grave_code grave.kind) grave.oid id)

none_twice : (b : Bool) → cond b None None ≡ let x : Option Row = None in x
none_twice true = refl
none_twice false = refl

-- the same of what may stand there
one_left : (test : ℤ → Bool) (id : ℤ) (name : Name) (x : Option Row) → ((row : Row) → x ≡ Some row → name_of row ≡ name)
    → cond (option_map_or (is_card_of id) x false) None (cond (eq_by_cmp name_cmp name (name_in tables.Note id)) None (option_and_then (kept test) x)) ≡ option_and_then (kept (or_id test id)) x
one_left test id name None named = none_twice (eq_by_cmp name_cmp name (name_in tables.Note id))
one_left test id name (Some row) named =
    subst (λ (n : Name). cond (is_card_of id row) None (cond (eq_by_cmp name_cmp n (name_in tables.Note id)) None (kept test row)) ≡ kept (or_id test id) row) (named row refl) (one_kept test id row)

-- one note more
one_more : (held : Rows) (test : ℤ → Bool) (id : ℤ) (o : Overlay) → AreNamed (get held) → HasRemoved test (get held) o → HasRemoved (or_id test id) (get held) (without_note held (name_in tables.Note id) o)
one_more held test id o named so_far name =
    cards_under (cards_of id held) (removed_over (name_in tables.Note id) o) (get held) name
    ∙ ap (λ b. cond b None (row_over (removed_over (name_in tables.Note id) o) (get held) name)) (names_card_is id held name named)
    ∙ ap (cond (option_map_or (is_card_of id) (get held name) false) None)
    (removed_under o (get held) (name_in tables.Note id) name ∙ ap (cond (eq_by_cmp name_cmp name (name_in tables.Note id)) None) (so_far name))
    ∙ one_left test id name (get held name) (named name)

-- the tests of the ids so far and of those that are left are one
or_rest : (a b c : Bool) → ((a || b) || c) ≡ (a || (b || c))
or_rest true b c = refl
or_rest false b c = refl

all_more : (held : Rows) (notes : List ℤ) (test : ℤ → Bool) (o : Overlay) → AreNamed (get held) → HasRemoved test (get held) o
    → HasRemoved (λ (id : ℤ). test id || has_id notes id) (get held) (without_each held notes o)
all_more held [] test o named so_far =
    subst (λ (t : ℤ → Bool). HasRemoved t (get held) o) (fun_ext (λ (id : ℤ). sym (elim (test id) as (λ b. (b || false) ≡ b) [ true ↦ refl | false ↦ refl ]))) so_far
all_more held (note ∷ notes) test o named so_far =
    subst (λ (t : ℤ → Bool). HasRemoved t (get held) (without_each held notes (without_note held (name_in tables.Note note) o)))
    (fun_ext (λ (id : ℤ). or_rest (test id) (int_eq note id) (has_id notes id)))
    (all_more held notes (or_id test note) (without_note held (name_in tables.Note note) o) named (one_more held test note o named so_far))

all_kept : (x : Option Row) → x ≡ option_and_then (kept (λ _. false)) x
all_kept None = refl
all_kept (Some (rows.Note note)) = refl
all_kept (Some (rows.Card card)) = refl
all_kept (Some (rows.Review review)) = refl
all_kept (Some (rows.NoteType note_type)) = refl
all_kept (Some (rows.Deck deck)) = refl
all_kept (Some (rows.Options options)) = refl
all_kept (Some (rows.Grave grave)) = refl

-- what the changes ask for is the rule's edit
pub deletion_of : (c : Collection) (notes : List ℤ) (o : Overlay) → AreNamed (row_under c) → o ≡ without_each c.rows notes unchanged → edit_of o c ≡ deletion notes c
deletion_of c notes o named is =
    edit_by_names o c (λ name. option_and_then (kept (has_id notes)) (row_under c name))
    (ap rest_of is ∙ rest_each c.rows notes unchanged)
    (λ name. ap (λ (p : Overlay). row_over p (row_under c) name) is
    ∙ all_more c.rows notes (λ _. false) unchanged named (λ n. none_noted (row_under c) n ∙ all_kept (row_under c n)) name)

-- ---- no row is made
same_is : (row : Row) → not (same_but_stamp_and_usn row row) ≡ false
same_is row = ap not (same_fields-itself row)

unmade : (test : ℤ → Bool) (x : Option Row) (row : Row) (buried : Bool)
    → (if buried then None else if changes_row x (option_and_then (kept test) x) then option_map (edited (pos 0)) (option_and_then (kept test) x) else None) ≡ Some row → ⊥
unmade test x row true is = none-some row is
unmade test None row false is = none-some row is
unmade test (Some r) row false is =
    elim (is_of_note test r) as (λ b. (if changes_row (Some r) (if b then None else Some r) then option_map (edited (pos 0)) (if b then None else Some r) else None) ≡ Some row → ⊥) [
      | true ↦ λ e. none-some row e
      | false ↦ λ e. none-some row (sym (ap (λ b. if b then Some (edited (pos 0) r) else None) (same_is r)) ∙ e)
    ] is

-- its end never refuses a row
pub deletion_rows : (c : Collection) (notes : List ℤ) (fault : DeskFault) → RefusesRow c (deletion notes c) fault → ⊥
deletion_rows c notes fault refuses = unmade (has_id notes) (row_under c refuses.2.name) refuses.2.row _ refuses.2.made

-- ---- the loop over the notes
pub removed_one : (k : Keeping) (notes : List ℤ) (i : ℕ) (first so_far now : Overlay) → i < length notes
    → WhereTold k (λ h. without_each h.rows (drop i notes) so_far ≡ without_each h.rows notes first)
    → WhereTold k (λ h. now ≡ without_note h.rows (name_in tables.Note (get_or notes i (pos 0))) so_far)
    → WhereTold k (λ h. without_each h.rows (drop (i + 1) notes) now ≡ without_each h.rows notes first)
removed_one k notes i first so_far now within =
    where_told-both k (λ h. without_each h.rows (drop i notes) so_far ≡ without_each h.rows notes first)
    (λ h. now ≡ without_note h.rows (name_in tables.Note (get_or notes i (pos 0))) so_far)
    (λ h. without_each h.rows (drop (i + 1) notes) now ≡ without_each h.rows notes first)
    (λ h leads is. ap (without_each h.rows (drop (i + 1) notes)) is
    ∙ sym (at_drop_more (λ (ids : List ℤ). without_each h.rows ids so_far) notes i (pos 0) within) ∙ leads)

-- ---- the end of the edit
pub deletion_done : (k now : Keeping) (at : ℤ) (notes : List ℤ) (o : Overlay) (steps left : List Step)
    → WhereTold k (λ h. o ≡ without_each h.rows notes unchanged) → FinishedBy at o k now steps left → DoesEdit at (deletion notes) k now steps left
deletion_done k now at notes o steps left removed =
    where_held-both k (λ c. o ≡ without_each c.rows notes unchanged) (λ c. IsFinished at c (edit_of o c) k now steps left)
    (λ c. IsFinished at c (deletion notes c) k now steps left)
    (λ c is finished. subst (λ (e : Edit). IsFinished at c e k now steps left) (deletion_of c notes o finished.named is) finished)
    (where_rows_held k (λ held. o ≡ without_each held notes unchanged) removed)

-- its answer
deletion_answers : (at : ℤ) (notes : List ℤ) (o : Overlay) (value : Unit {0}) (result : Result (Unit {0}) DeskFault) (c : Collection)
    → o ≡ without_each c.rows notes unchanged → AnswersBy {T = Unit {0}} (RefusesMissing (row_under c) tables.Note notes) (Ok value) → IsHeldRightly c
    → AnswersBy (RefusesEnd at c (edit_of o c)) result → AnswersBy (RefusesDeletion at notes c) result
deletion_answers at notes o value result c is passes rightly answers =
    let edit : Edit = deletion notes c in
    passed_first (RefusesMissing (row_under c) tables.Note notes) (RefusesStamp at c edit) value result passes
    (never_first (RefusesRow c edit) (RefusesStamp at c edit) result (deletion_rows c notes)
    (subst (λ (e : Edit). AnswersBy (RefusesEnd at c e) result) (deletion_of c notes o rightly.named is) answers))

pub deletion_answered : (k : Keeping) (at : ℤ) (notes : List ℤ) (o : Overlay) (value : Unit {0}) (result : Result (Unit {0}) DeskFault)
    → WhereTold k (λ h. o ≡ without_each h.rows notes unchanged) → WhereTold k (λ h. AnswersBy {T = Unit {0}} (RefusesMissing (get h.rows) tables.Note notes) (Ok value))
    → WhereHeld k IsHeldRightly → AnswersEnd at o k result → WhereHeld k (λ c. AnswersBy (RefusesDeletion at notes c) result)
deletion_answered k at notes o value result removed passes rightly answers =
    where_held-both k (λ c. (o ≡ without_each c.rows notes unchanged) × AnswersBy {T = Unit {0}} (RefusesMissing (row_under c) tables.Note notes) (Ok value))
    (λ c. IsHeldRightly c × AnswersBy (RefusesEnd at c (edit_of o c)) result)
    (λ c. AnswersBy (RefusesDeletion at notes c) result)
    (λ c one other. deletion_answers at notes o value result c one.0 one.1 other.0 other.1)
    (where_rows_held k (λ held. (o ≡ without_each held notes unchanged) × AnswersBy {T = Unit {0}} (RefusesMissing (get held) tables.Note notes) (Ok value))
    (where_told-both k (λ h. o ≡ without_each h.rows notes unchanged) (λ h. AnswersBy {T = Unit {0}} (RefusesMissing (get h.rows) tables.Note notes) (Ok value))
    (λ h. (o ≡ without_each h.rows notes unchanged) × AnswersBy {T = Unit {0}} (RefusesMissing (get h.rows) tables.Note notes) (Ok value)) (λ h one other. (one, other)) removed passes))
    (where_held-both k IsHeldRightly (λ c. AnswersBy (RefusesEnd at c (edit_of o c)) result) (λ c. IsHeldRightly c × AnswersBy (RefusesEnd at c (edit_of o c)) result) (λ c one other. (one, other)) rightly answers)
