-- What the changes of cards, put one by one, ask for, and when their edit is refused.
use Rattle.std.specs.Prelude.{◌≡◌, ℕ, ℤ, pos, ◌+◌, ◌<◌, Bool, true, false, ◌||◌, cond, if◌then◌else◌, List, [], ◌∷◌, length, get_or, drop, Option, Some, None, Result, Ok}
use Rattle.std.proofs.Common.{refl, sym, ap, subst, ◌∙◌}
use Rattle.std.proofs.Math.Path.{fun_ext}
use Rattle.std.proofs.lemmas.Bool.Decides.{Decides-int_eq}
use Rattle.std.proofs.lemmas.List.{at_drop_more}
use Rattle.std.proofs.lemmas.Option.{none-some, same_Some}
use Rattle.std.specs.Cmp.{tied_itself}
use Rattle.std.specs.FinMap.{get}
use Rattle.std.specs.Option.{option_map, option_map_or}
use Rattle.std.specs.Ordering.{eq_by_cmp, int_eq, is_eq}
use Rattle.ak_base.specs.Names.{name_cmp, names_total}
use Rattle.ak_base.specs.Rows.{IsChecked, name_of}
use Rattle.ak_base.specs.declared.cards.Card.{Card}
use Rattle.ak_base.specs.declared.names.Name.{Name}
use Rattle.ak_base.specs.declared.names.Table.{Table}
use Rattle.ak_base.specs.declared.names.Table.TheVariants as tables
use Rattle.ak_base.specs.declared.rows.Row.{Row}
use Rattle.ak_base.specs.declared.rows.Row.TheVariants as rows
use Rattle.ak_edit_calls.proofs.Answering.{never_first, passed_first}
use Rattle.ak_edit_calls.proofs.CheckedEdits.{checked_edits_pass}
use Rattle.ak_edit_calls.proofs.Overlaying.{edit_by_names, none_noted, put_under, rest_of}
use Rattle.ak_edit_calls.proofs.Telling.{where_held-both, where_rows_held, where_told-both}
use Rattle.ak_edit_calls.specs.Calls.{DoesEdit, RefusesMissing, has_id}
use Rattle.ak_edit_calls.specs.CardEdits.{KeepsCards, RefusesCardEdit, card_edit, changed_if, changed_row, put_changed, put_each}
use Rattle.ak_edit.specs.Ends.{AnswersEnd, FinishedBy, IsFinished, IsHeldRightly, RefusesEnd, RefusesRow, RefusesStamp}
use Rattle.ak_edit.specs.Overlays.{Overlay, edit_of, put_over, row_over, unchanged}
use Rattle.ak_edit.specs.Refusals.{AnswersBy}
use Rattle.ak_edit.specs.declared.desk_faults.DeskFault.{DeskFault}
use Rattle.ak_keep.proofs.RowsByName.{same_of_tied}
use Rattle.ak_keep.specs.Collections.{Collection}
use Rattle.ak_keep.specs.Keepers.{Keeping, WhereHeld, WhereTold}
use Rattle.ak_merge.proofs.EditFacts.{false_true}
use Rattle.ak_merge.specs.Edits.{Edit}
use Rattle.ak_keep.specs.Graves.{RowsByName}
use Rattle.ak_merge.specs.Holdings.{AreNamed, name_in, row_under}
use Rattle.ak_undo.specs.declared.steps.Step.{Step}

-- ---- what is put says nothing besides rows
rest_put : (change : Card → Card) (at : RowsByName) (name : Name) (o : Overlay) → rest_of (put_changed change at name o) ≡ rest_of o
rest_put change at name o =
    elim (at name) as (λ (x : Option Row). rest_of (option_map_or (λ (row : Row). put_over (changed_row change row) o) x o) ≡ rest_of o) [ None ↦ refl | Some row ↦ refl ]

rest_each : (change : Card → Card) (at : RowsByName) (cards : List ℤ) (o : Overlay) → rest_of (put_each change at cards o) ≡ rest_of o
rest_each change at [] o = refl
rest_each change at (card ∷ cards) o =
    rest_each change at cards (put_changed change at (name_in tables.Card card) o) ∙ rest_put change at (name_in tables.Card card) o

-- ---- rows by name
-- the changes so far have changed the cards whose ids meet the test
abbrev HasChanged : (ℤ → Bool) → (Card → Card) → RowsByName → Overlay → Type 0
HasChanged test change at o = (name : Name) → row_over o at name ≡ option_map (changed_if test change) (at name)

-- a test that one more id meets
abbrev or_id : (ℤ → Bool) → ℤ → ℤ → Bool
or_id test id other = test other || int_eq id other

apart_ids : (name : Name) (id : ℤ) → name.table ≡ tables.Card → eq_by_cmp name_cmp name (name_in tables.Card id) ≡ false → int_eq id name.id ≡ false
apart_ids name id table apart =
    elim (int_eq id name.id) as (λ b. int_eq id name.id ≡ b → b ≡ false) [
      | true ↦ λ is.
          let same : name ≡ name_in tables.Card id = ap (λ (t : Table). name_in t name.id) table ∙ ap (name_in tables.Card) (sym ((Decides-int_eq id name.id).0 is)) in
          absurd (false_true (sym apart ∙ ap (λ (n : Name). eq_by_cmp name_cmp name n) (sym same) ∙ ap is_eq (tied_itself names_total name)))
      | false ↦ λ _. refl
    ] refl

or_false_id : (test : ℤ → Bool) (id other : ℤ) → int_eq id other ≡ false → or_id test id other ≡ test other
or_false_id test id other is = ap (λ b. test other || b) is ∙ elim (test other) as (λ b. (b || false) ≡ b) [ true ↦ refl | false ↦ refl ]

or_true_id : (test : ℤ → Bool) (id : ℤ) → or_id test id id ≡ true
or_true_id test id = ap (λ b. test id || b) ((Decides-int_eq id id).1 refl) ∙ elim (test id) as (λ b. (b || true) ≡ true) [ true ↦ refl | false ↦ refl ]

-- a row under another name is as it was
other_row : (test : ℤ → Bool) (change : Card → Card) (id : ℤ) (name : Name) (x : Option Row) → ((row : Row) → x ≡ Some row → name_of row ≡ name) → eq_by_cmp name_cmp name (name_in tables.Card id) ≡ false
    → option_map (changed_if test change) x ≡ option_map (changed_if (or_id test id) change) x
other_row test change id name None named apart = refl
other_row test change id name (Some (rows.Card card)) named apart =
    let is : name_of (rows.Card card) ≡ name = named (rows.Card card) refl in
    let away : int_eq id name.id ≡ false = apart_ids name id (ap (λ (n : Name). n.table) (sym is)) apart in
    let there : int_eq id card.id ≡ false = ap (λ (n : Name). int_eq id n.id) is ∙ away in
    ap (λ b. Some (rows.Card (if b then change card else card))) (sym (or_false_id test id card.id there))
other_row test change id name (Some (rows.Note note)) named apart = refl
other_row test change id name (Some (rows.Review review)) named apart = refl
other_row test change id name (Some (rows.NoteType note_type)) named apart = refl
other_row test change id name (Some (rows.Deck deck)) named apart = refl
other_row test change id name (Some (rows.Options options)) named apart = refl
other_row test change id name (Some (rows.Grave grave)) named apart = refl

-- the row that the id names is changed
this_row : (test : ℤ → Bool) (change : Card → Card) (id : ℤ) (row : Row) → name_of row ≡ name_in tables.Card id → changed_row change row ≡ changed_if (or_id test id) change row
this_row test change id (rows.Card card) is =
    let there : or_id test id card.id ≡ true = ap (λ (n : Name). or_id test id n.id) is ∙ or_true_id test id in
    ap (λ b. rows.Card (if b then change card else card)) (sym there)
this_row test change id (rows.Note note) is = refl
this_row test change id (rows.Review review) is = refl
this_row test change id (rows.NoteType note_type) is = refl
this_row test change id (rows.Deck deck) is = refl
this_row test change id (rows.Options options) is = refl
this_row test change id (rows.Grave grave) is = refl

name_changed : (change : Card → Card) (row : Row) → KeepsCards change → name_of (changed_row change row) ≡ name_of row
name_changed change (rows.Card card) keeps = ap (name_in tables.Card) (keeps.id card)
name_changed change (rows.Note note) keeps = refl
name_changed change (rows.Review review) keeps = refl
name_changed change (rows.NoteType note_type) keeps = refl
name_changed change (rows.Deck deck) keeps = refl
name_changed change (rows.Options options) keeps = refl
name_changed change (rows.Grave grave) keeps = refl

-- one card more
one_more : (test : ℤ → Bool) (change : Card → Card) (at : RowsByName) (id : ℤ) (o : Overlay) (x : Option Row) → AreNamed at → KeepsCards change → HasChanged test change at o → at (name_in tables.Card id) ≡ x
    → HasChanged (or_id test id) change at (option_map_or (λ (row : Row). put_over (changed_row change row) o) x o)
one_more test change at id o None named keeps so_far held name =
    so_far name
    ∙ elim (eq_by_cmp name_cmp name (name_in tables.Card id)) as (λ b. eq_by_cmp name_cmp name (name_in tables.Card id) ≡ b → option_map (changed_if test change) (at name) ≡ option_map (changed_if (or_id test id) change) (at name)) [
      | true ↦ λ same.
          let none : at name ≡ None = ap at (same_of_tied name (name_in tables.Card id) same) ∙ held in
          ap (option_map (changed_if test change)) none ∙ sym (ap (option_map (changed_if (or_id test id) change)) none)
      | false ↦ λ apart. other_row test change id name (at name) (named name) apart
    ] refl
one_more test change at id o (Some row) named keeps so_far held name =
    let bears : name_of row ≡ name_in tables.Card id = named (name_in tables.Card id) row held in
    put_under o at (changed_row change row) name
    ∙ ap (λ (n : Name). cond (eq_by_cmp name_cmp name n) (Some (changed_row change row)) (row_over o at name)) (name_changed change row keeps ∙ bears)
    ∙ elim (eq_by_cmp name_cmp name (name_in tables.Card id)) as (λ b. eq_by_cmp name_cmp name (name_in tables.Card id) ≡ b → cond b (Some (changed_row change row)) (row_over o at name) ≡ option_map (changed_if (or_id test id) change) (at name)) [
      | true ↦ λ same.
          let there : at name ≡ Some row = ap at (same_of_tied name (name_in tables.Card id) same) ∙ held in
          ap Some (this_row test change id row bears) ∙ sym (ap (option_map (changed_if (or_id test id) change)) there)
      | false ↦ λ apart. so_far name ∙ other_row test change id name (at name) (named name) apart
    ] refl

-- the tests of the ids so far and of those that are left are one
or_rest : (a b c : Bool) → ((a || b) || c) ≡ (a || (b || c))
or_rest true b c = refl
or_rest false b c = refl

all_more : (change : Card → Card) (at : RowsByName) (cards : List ℤ) (test : ℤ → Bool) (o : Overlay) → AreNamed at → KeepsCards change → HasChanged test change at o
    → HasChanged (λ (id : ℤ). test id || has_id cards id) change at (put_each change at cards o)
all_more change at [] test o named keeps so_far =
    subst (λ (t : ℤ → Bool). HasChanged t change at o) (fun_ext (λ (id : ℤ). sym (elim (test id) as (λ b. (b || false) ≡ b) [ true ↦ refl | false ↦ refl ]))) so_far
all_more change at (card ∷ cards) test o named keeps so_far =
    subst (λ (t : ℤ → Bool). HasChanged t change at (put_each change at cards (put_changed change at (name_in tables.Card card) o)))
    (fun_ext (λ (id : ℤ). or_rest (test id) (int_eq card id) (has_id cards id)))
    (all_more change at cards (or_id test card) (put_changed change at (name_in tables.Card card) o) named keeps (one_more test change at card o (at (name_in tables.Card card)) named keeps so_far refl))

none_changed : (change : Card → Card) (x : Option Row) → x ≡ option_map (changed_if (λ _. false) change) x
none_changed change None = refl
none_changed change (Some (rows.Card card)) = refl
none_changed change (Some (rows.Note note)) = refl
none_changed change (Some (rows.Review review)) = refl
none_changed change (Some (rows.NoteType note_type)) = refl
none_changed change (Some (rows.Deck deck)) = refl
none_changed change (Some (rows.Options options)) = refl
none_changed change (Some (rows.Grave grave)) = refl

-- what the changes ask for is the rule's edit
pub card_edit_of : (change : Card → Card) (c : Collection) (cards : List ℤ) (o : Overlay) → AreNamed (row_under c) → KeepsCards change → o ≡ put_each change (row_under c) cards unchanged → edit_of o c ≡ card_edit change cards c
card_edit_of change c cards o named keeps is =
    edit_by_names o c (λ name. option_map (changed_if (has_id cards) change) (row_under c name))
    (ap rest_of is ∙ rest_each change (row_under c) cards unchanged)
    (λ name. ap (λ (p : Overlay). row_over p (row_under c) name) is
    ∙ all_more change (row_under c) cards (λ _. false) unchanged named keeps (λ n. none_noted (row_under c) n ∙ none_changed change (row_under c n)) name)

-- ---- no row that it makes breaks its check
checked_changed : (test : ℤ → Bool) (change : Card → Card) (row : Row) → KeepsCards change → IsChecked row → IsChecked (changed_if test change row)
checked_changed test change (rows.Card card) keeps checked =
    elim (test card.id) as (λ b. IsChecked (rows.Card (if b then change card else card))) [ true ↦ keeps.checked card checked | false ↦ checked ]
checked_changed test change (rows.Note note) keeps checked = checked
checked_changed test change (rows.Review review) keeps checked = checked
checked_changed test change (rows.NoteType note_type) keeps checked = checked
checked_changed test change (rows.Deck deck) keeps checked = checked
checked_changed test change (rows.Options options) keeps checked = checked
checked_changed test change (rows.Grave grave) keeps checked = checked

-- its end never refuses a row
checked_mapped : (test : ℤ → Bool) (change : Card → Card) (x : Option Row) (row : Row) → KeepsCards change → ((r : Row) → x ≡ Some r → IsChecked r) → option_map (changed_if test change) x ≡ Some row → IsChecked row
checked_mapped test change None row keeps checked is = absurd (none-some row is)
checked_mapped test change (Some r) row keeps checked is = subst IsChecked (same_Some (changed_if test change r) row is) (checked_changed test change r keeps (checked r refl))

pub card_edit_rows : (change : Card → Card) (c : Collection) (cards : List ℤ) (fault : DeskFault) → IsHeldRightly c → KeepsCards change → RefusesRow c (card_edit change cards c) fault → ⊥
card_edit_rows change c cards fault rightly keeps =
    checked_edits_pass c (card_edit change cards c) fault (λ name row is. checked_mapped (has_id cards) change (row_under c name) row keeps (rightly.checked name) is)

-- ---- the loop over the cards
pub put_one : (k : Keeping) (change : Card → Card) (cards : List ℤ) (i : ℕ) (first so_far now : Overlay) → i < length cards
    → WhereTold k (λ h. put_each change (get h.rows) (drop i cards) so_far ≡ put_each change (get h.rows) cards first)
    → WhereTold k (λ h. now ≡ put_changed change (get h.rows) (name_in tables.Card (get_or cards i (pos 0))) so_far)
    → WhereTold k (λ h. put_each change (get h.rows) (drop (i + 1) cards) now ≡ put_each change (get h.rows) cards first)
put_one k change cards i first so_far now within =
    where_told-both k (λ h. put_each change (get h.rows) (drop i cards) so_far ≡ put_each change (get h.rows) cards first)
    (λ h. now ≡ put_changed change (get h.rows) (name_in tables.Card (get_or cards i (pos 0))) so_far)
    (λ h. put_each change (get h.rows) (drop (i + 1) cards) now ≡ put_each change (get h.rows) cards first)
    (λ h leads is. ap (put_each change (get h.rows) (drop (i + 1) cards)) is
    ∙ sym (at_drop_more (λ (ids : List ℤ). put_each change (get h.rows) ids so_far) cards i (pos 0) within) ∙ leads)

-- ---- the end of the edit
pub card_edit_done : (k now : Keeping) (at : ℤ) (change : Card → Card) (cards : List ℤ) (o : Overlay) (steps left : List Step) → KeepsCards change
    → WhereTold k (λ h. o ≡ put_each change (get h.rows) cards unchanged) → FinishedBy at o k now steps left → DoesEdit at (card_edit change cards) k now steps left
card_edit_done k now at change cards o steps left keeps put =
    where_held-both k (λ c. o ≡ put_each change (row_under c) cards unchanged) (λ c. IsFinished at c (edit_of o c) k now steps left)
    (λ c. IsFinished at c (card_edit change cards c) k now steps left)
    (λ c is finished. subst (λ (e : Edit). IsFinished at c e k now steps left) (card_edit_of change c cards o finished.named keeps is) finished)
    (where_rows_held k (λ rows. o ≡ put_each change (get rows) cards unchanged) put)

-- its answer
card_edit_answers : (at : ℤ) (change : Card → Card) (cards : List ℤ) (o : Overlay) (value : Unit {0}) (result : Result (Unit {0}) DeskFault) (c : Collection) → KeepsCards change
    → o ≡ put_each change (row_under c) cards unchanged → AnswersBy {T = Unit {0}} (RefusesMissing (row_under c) tables.Card cards) (Ok value) → IsHeldRightly c
    → AnswersBy (RefusesEnd at c (edit_of o c)) result → AnswersBy (RefusesCardEdit at change cards c) result
card_edit_answers at change cards o value result c keeps is passes rightly answers =
    let edit : Edit = card_edit change cards c in
    passed_first (RefusesMissing (row_under c) tables.Card cards) (RefusesStamp at c edit) value result passes
    (never_first (RefusesRow c edit) (RefusesStamp at c edit) result (λ fault. card_edit_rows change c cards fault rightly keeps)
    (subst (λ (e : Edit). AnswersBy (RefusesEnd at c e) result) (card_edit_of change c cards o rightly.named keeps is) answers))

pub card_edit_answered : (k : Keeping) (at : ℤ) (change : Card → Card) (cards : List ℤ) (o : Overlay) (value : Unit {0}) (result : Result (Unit {0}) DeskFault) → KeepsCards change
    → WhereTold k (λ h. o ≡ put_each change (get h.rows) cards unchanged) → WhereTold k (λ h. AnswersBy {T = Unit {0}} (RefusesMissing (get h.rows) tables.Card cards) (Ok value))
    → WhereHeld k IsHeldRightly → AnswersEnd at o k result → WhereHeld k (λ c. AnswersBy (RefusesCardEdit at change cards c) result)
card_edit_answered k at change cards o value result keeps put passes rightly answers =
    where_held-both k (λ c. (o ≡ put_each change (row_under c) cards unchanged) × AnswersBy {T = Unit {0}} (RefusesMissing (row_under c) tables.Card cards) (Ok value))
    (λ c. IsHeldRightly c × AnswersBy (RefusesEnd at c (edit_of o c)) result)
    (λ c. AnswersBy (RefusesCardEdit at change cards c) result)
    (λ c one other. card_edit_answers at change cards o value result c keeps one.0 one.1 other.0 other.1)
    (where_held-both k (λ c. o ≡ put_each change (row_under c) cards unchanged) (λ c. AnswersBy {T = Unit {0}} (RefusesMissing (row_under c) tables.Card cards) (Ok value))
    (λ c. (o ≡ put_each change (row_under c) cards unchanged) × AnswersBy {T = Unit {0}} (RefusesMissing (row_under c) tables.Card cards) (Ok value)) (λ c one other. (one, other))
    (where_rows_held k (λ rows. o ≡ put_each change (get rows) cards unchanged) put)
    (where_rows_held k (λ rows. AnswersBy {T = Unit {0}} (RefusesMissing (get rows) tables.Card cards) (Ok value)) passes))
    (where_held-both k IsHeldRightly (λ c. AnswersBy (RefusesEnd at c (edit_of o c)) result) (λ c. IsHeldRightly c × AnswersBy (RefusesEnd at c (edit_of o c)) result) (λ c one other. (one, other)) rightly answers)
