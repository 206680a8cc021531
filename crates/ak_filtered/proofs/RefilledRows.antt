-- The changes that refill a filtered deck ask for the rule's edit.
use Rattle.std.specs.Prelude.{◌≡◌, ◌≤◌, ◌≤ℤ◌, ◌+◌, ◌+ℤ◌, ℕ, ℤ, pos, negsuc, Bool, true, false, ◌||◌, if◌then◌else◌, is_some, List, [], ◌∷◌, length, Option, Some, None, option_and_then}
use Rattle.std.proofs.Common.{refl, sym, ap, subst, ◌∙◌, arith}
use Rattle.std.proofs.Math.Path.{fun_ext}
use Rattle.std.proofs.lemmas.Int.{ints}
use Rattle.std.proofs.lemmas.List.{nil_from_length}
use Rattle.std.proofs.lemmas.Option.{none-some, same_Some}
use Rattle.std.specs.BTreeMap.{is_at}
use Rattle.std.specs.Map.{lookup}
use Rattle.std.specs.Option.{option_map, option_map_or, option_or}
use Rattle.std.specs.Ordering.{int_cmp, int_eq}
use Rattle.ak_base.specs.Cards.{IsCheckedCard}
use Rattle.ak_base.specs.Rows.{IsChecked, name_of}
use Rattle.ak_base.specs.declared.cards.Card.{Card}
use Rattle.ak_base.specs.declared.names.Name.{Name}
use Rattle.ak_base.specs.declared.names.Table.TheVariants as tables
use Rattle.ak_base.specs.declared.rows.Row.{Row}
use Rattle.ak_base.specs.declared.rows.Row.TheVariants as rows
use Rattle.ak_edit_calls.proofs.CheckedEdits.{checked_edits_pass}
use Rattle.ak_edit_calls.proofs.Overlaying.{edit_by_names, none_noted}
use Rattle.ak_edit_calls.specs.CardEdits.{changed_row}
use Rattle.ak_edit.specs.Ends.{IsHeldRightly, RefusesRow}
use Rattle.ak_edit.specs.Overlays.{Overlay, edit_of, unchanged}
use Rattle.ak_edit.specs.declared.desk_faults.DeskFault.{DeskFault}
use Rattle.ak_filtered.proofs.CardChanges.{refilled_id}
use Rattle.ak_filtered.proofs.GoneHome.{IsMoveIn, home_checked, moved_checked}
use Rattle.ak_filtered.specs.Builds.{due_from, due_in, moved_in, refilled}
use Rattle.ak_filtered.specs.Emptyings.{emptied, is_away_in}
use Rattle.ak_filtered.specs.HomeDecks.{DeckFlags, filtered_at, flags_of, gone_home}
use Rattle.ak_filtered.specs.Refills.{dues_of, no_dues, refill, refilled_row}
use Rattle.ak_filtered.specs.declared.held_decks.HeldDecks.{HeldDecks}
use Rattle.ak_filtered.specs.declared.refills.Dues.{Dues}
use Rattle.ak_edit_calls.proofs.Telling.{where_told-both}
use Rattle.ak_keep.specs.Keepers.{Keeping, WhereTold}
use Rattle.ak_keep.specs.Collections.{Collection, rows_past}
use Rattle.ak_merge.proofs.EditFacts.{true_false}
use Rattle.ak_merge.specs.EditBuilding.{unedited, with_rows_mapped}
use Rattle.ak_merge.specs.Holdings.{AreChecked, AreNamed, name_in, row_under}
use Rattle.ak_study.proofs.ChangedRows.{ChangesTable, changed_rest, changed_under}

module _ (deck : ℤ) (flags : DeckFlags) (dues : ℤ → Option ℤ) where
  keeps_name : (row made : Row) → refilled_row deck flags dues row ≡ Some made → name_of made ≡ name_of row
  keeps_name (rows.Card card) made is =
      elim (is_away_in deck card || is_some (dues card.id)) as (λ b. (if b then Some (rows.Card (refilled deck flags dues card)) else None) ≡ Some made → name_of made ≡ name_of (rows.Card card)) [
        | true ↦ λ is. ap name_of (sym (same_Some (rows.Card (refilled deck flags dues card)) made is)) ∙ ap (name_in tables.Card) (refilled_id deck flags dues card)
        | false ↦ λ is. absurd (none-some made is)
      ] is
  keeps_name (rows.Note note) made is = absurd (none-some made is)
  keeps_name (rows.Review review) made is = absurd (none-some made is)
  keeps_name (rows.NoteType note_type) made is = absurd (none-some made is)
  keeps_name (rows.Deck other) made is = absurd (none-some made is)
  keeps_name (rows.Options options) made is = absurd (none-some made is)
  keeps_name (rows.Grave grave) made is = absurd (none-some made is)

  is_card : (row made : Row) → refilled_row deck flags dues row ≡ Some made → (name_of row).table ≡ tables.Card
  is_card (rows.Card card) made is = refl
  is_card (rows.Note note) made is = absurd (none-some made is)
  is_card (rows.Review review) made is = absurd (none-some made is)
  is_card (rows.NoteType note_type) made is = absurd (none-some made is)
  is_card (rows.Deck other) made is = absurd (none-some made is)
  is_card (rows.Options options) made is = absurd (none-some made is)
  is_card (rows.Grave grave) made is = absurd (none-some made is)

  refills_cards : ChangesTable tables.Card (refilled_row deck flags dues)
  refills_cards = record { name = keeps_name; table = is_card }

  -- a card that neither goes home nor moves in stays
  stays : (away : Bool) (due : Option ℤ) (card : Card) → (away || is_some due) ≡ false → card ≡ option_map_or (λ (d : ℤ). moved_in deck d (if away then gone_home flags card else card)) due (if away then gone_home flags card else card)
  stays true due card is = absurd (true_false is)
  stays false None card is = refl
  stays false (Some due) card is = absurd (true_false is)

  card_stands : (card : Card)
      → option_or (if is_away_in deck card || is_some (dues card.id) then Some (rows.Card (refilled deck flags dues card)) else None) (Some (rows.Card card)) ≡ Some (rows.Card (refilled deck flags dues card))
  card_stands card =
      elim (is_away_in deck card || is_some (dues card.id)) as (λ b. (is_away_in deck card || is_some (dues card.id)) ≡ b
      → option_or (if b then Some (rows.Card (refilled deck flags dues card)) else None) (Some (rows.Card card)) ≡ Some (rows.Card (refilled deck flags dues card))) [
        | true ↦ λ _. refl
        | false ↦ λ is. ap (λ (k : Card). Some (rows.Card k)) (stays (is_away_in deck card) (dues card.id) card is)
      ] refl

  row_stands : (y : Option Row) → option_or (option_and_then (refilled_row deck flags dues) y) y ≡ option_map (changed_row (refilled deck flags dues)) y
  row_stands None = refl
  row_stands (Some (rows.Card card)) = card_stands card
  row_stands (Some (rows.Note note)) = refl
  row_stands (Some (rows.Review review)) = refl
  row_stands (Some (rows.NoteType note_type)) = refl
  row_stands (Some (rows.Deck other)) = refl
  row_stands (Some (rows.Options options)) = refl
  row_stands (Some (rows.Grave grave)) = refl

  pub refill_edit : (c : Collection) → AreNamed (row_under c) → AreChecked (row_under c)
      → edit_of (refill deck flags dues c.rows unchanged) c ≡ with_rows_mapped (changed_row (refilled deck flags dues)) (unedited c)
  refill_edit c named checked =
      edit_by_names (refill deck flags dues c.rows unchanged) c (λ (name : Name). option_map (changed_row (refilled deck flags dues)) (row_under c name))
      (changed_rest (refilled_row deck flags dues) (rows_past tables.Card (pos 0) c.rows) unchanged)
      (λ name. changed_under tables.Card (refilled_row deck flags dues) c.rows unchanged name refills_cards named checked
      ∙ ap (option_or (option_and_then (refilled_row deck flags dues) (row_under c name))) (none_noted (row_under c) name)
      ∙ row_stands (row_under c name))

-- ---- no row that it makes breaks its check
module _ (deck : ℤ) (flags : DeckFlags) (dues : ℤ → Option ℤ) (move : (id due : ℤ) → dues id ≡ Some due → IsMoveIn deck due) where
  emptied_checked : (card : Card) → IsCheckedCard card → IsCheckedCard (emptied deck flags card)
  emptied_checked card checked =
      elim (is_away_in deck card) as (λ b. IsCheckedCard (if b then gone_home flags card else card)) [ true ↦ home_checked flags card checked | false ↦ checked ]

  card_checked : (card : Card) (due : Option ℤ) → dues card.id ≡ due → IsCheckedCard card
      → IsCheckedCard (option_map_or (λ (d : ℤ). moved_in deck d (emptied deck flags card)) due (emptied deck flags card))
  card_checked card None is checked = emptied_checked card checked
  card_checked card (Some due) is checked = moved_checked deck due (emptied deck flags card) (move card.id due is) (emptied_checked card checked)

  row_checked : (row : Row) → IsChecked row → IsChecked (changed_row (refilled deck flags dues) row)
  row_checked (rows.Card card) checked = card_checked card (dues card.id) refl checked
  row_checked (rows.Note note) checked = checked
  row_checked (rows.Review review) checked = checked
  row_checked (rows.NoteType note_type) checked = checked
  row_checked (rows.Deck other) checked = checked
  row_checked (rows.Options options) checked = checked
  row_checked (rows.Grave grave) checked = checked

  mapped_checked : (x : Option Row) (row : Row) → ((r : Row) → x ≡ Some r → IsChecked r) → option_map (changed_row (refilled deck flags dues)) x ≡ Some row → IsChecked row
  mapped_checked None row checked is = absurd (none-some row is)
  mapped_checked (Some r) row checked is = subst IsChecked (same_Some (changed_row (refilled deck flags dues) r) row is) (row_checked r (checked r refl))

  rows_pass : (c : Collection) → IsHeldRightly c → (fault : DeskFault) → RefusesRow c (with_rows_mapped (changed_row (refilled deck flags dues)) (unedited c)) fault → ⊥
  rows_pass c rightly fault =
      checked_edits_pass c (with_rows_mapped (changed_row (refilled deck flags dues)) (unedited c)) fault (λ name row is. mapped_checked (row_under c name) row (rightly.checked name) is)

pub refilled_rows_pass : (deck : ℤ) (flags : DeckFlags) (dues : ℤ → Option ℤ) (c : Collection) → IsHeldRightly c → ((id due : ℤ) → dues id ≡ Some due → IsMoveIn deck due)
    → (fault : DeskFault) → RefusesRow c (with_rows_mapped (changed_row (refilled deck flags dues)) (unedited c)) fault → ⊥
refilled_rows_pass deck flags dues c rightly move fault = rows_pass deck flags dues move c rightly fault

-- ---- the card after the refill
pub home_then : (deck : ℤ) (flags : DeckFlags) (card made : Card) → is_away_in deck card ≡ true → made ≡ gone_home flags card → made ≡ emptied deck flags card
home_then deck flags card made away is = is ∙ sym (ap (λ b. if b then gone_home flags card else card) away)

pub stays_then : (deck : ℤ) (flags : DeckFlags) (card : Card) → is_away_in deck card ≡ false → card ≡ emptied deck flags card
stays_then deck flags card there = sym (ap (λ b. if b then gone_home flags card else card) there)

pub refilled_in : (deck : ℤ) (flags : DeckFlags) (dues : ℤ → Option ℤ) (card home made : Card) (due : ℤ) → home ≡ emptied deck flags card → dues card.id ≡ Some due → made ≡ moved_in deck due home
    → made ≡ refilled deck flags dues card
refilled_in deck flags dues card home made due gone at is =
    is ∙ ap (moved_in deck due) gone ∙ sym (ap (λ (o : Option ℤ). option_map_or (λ (d : ℤ). moved_in deck d (emptied deck flags card)) o (emptied deck flags card)) at)

pub refilled_out : (deck : ℤ) (flags : DeckFlags) (dues : ℤ → Option ℤ) (card home : Card) → home ≡ emptied deck flags card → dues card.id ≡ None → home ≡ refilled deck flags dues card
refilled_out deck flags dues card home gone at =
    gone ∙ sym (ap (λ (o : Option ℤ). option_map_or (λ (d : ℤ). moved_in deck d (emptied deck flags card)) o (emptied deck flags card)) at)

pub row_made : (deck : ℤ) (flags : DeckFlags) (dues : ℤ → Option ℤ) (card copy made : Card) → (is_away_in deck card || is_some (dues card.id)) ≡ true → copy ≡ card → made ≡ refilled deck flags dues copy
    → Some (rows.Card made) ≡ refilled_row deck flags dues (rows.Card card)
row_made deck flags dues card copy made changes same is =
    ap (λ (k : Card). Some (rows.Card k)) (is ∙ ap (refilled deck flags dues) same) ∙ sym (ap (λ b. if b then Some (rows.Card (refilled deck flags dues card)) else None) changes)

pub no_row_made : (deck : ℤ) (flags : DeckFlags) (dues : ℤ → Option ℤ) (card : Card) → (is_away_in deck card || is_some (dues card.id)) ≡ false → None ≡ refilled_row deck flags dues (rows.Card card)
no_row_made deck flags dues card changes = sym (ap (λ b. if b then Some (rows.Card (refilled deck flags dues card)) else None) changes)

-- ---- the dues of so many cards stay below 0
pub below_first : (due : ℤ) (count : ℕ) → due ≡ negsuc 99_999 → count ≤ 99_999 → (due +ℤ pos count) ≤ℤ pos 0
below_first due count is few = omega (arith, ints, is, few)

-- ---- no due is noted yet, and all are
pub no_due : (dues : Dues) → dues.by_card.entries ≡ [] → dues_of dues ≡ no_dues
no_due dues none = fun_ext (λ (id : ℤ). ap (λ (es : List (ℤ × ℤ)). lookup (is_at (int_cmp id)) es) none)

due_end : (x : Option ℤ) → option_or x None ≡ x
due_end None = refl
due_end (Some due) = refl

pub all_due : (dues : Dues) (due : ℤ) (rest cards : List ℤ) → length rest ≡ 0 → ((id : ℤ) → option_or (dues_of dues id) (due_from due rest id) ≡ due_in cards id) → dues_of dues ≡ due_in cards
all_due dues due rest cards none so_far = fun_ext (λ (id : ℤ).
    sym (due_end (dues_of dues id)) ∙ sym (ap (λ (ids : List ℤ). option_or (dues_of dues id) (due_from due ids id)) (nil_from_length rest none)) ∙ so_far id)

-- ---- one due more is noted
due_or : (x y z : Option ℤ) → option_or (option_or x y) z ≡ option_or x (option_or y z)
due_or None y z = refl
due_or (Some due) y z = refl

first_due : (same : Bool) (due : ℤ) (rest : Option ℤ) → option_or (if same then Some due else None) rest ≡ (if same then Some due else rest)
first_due true due rest = refl
first_due false due rest = refl

pub one_due : (first due next : ℤ) (others : List ℤ) (id : ℤ) (so_far now whole : Option ℤ) → next ≡ due +ℤ pos 1 → now ≡ option_or so_far (if int_eq first id then Some due else None)
    → option_or so_far (due_from due (first ∷ others) id) ≡ whole → option_or now (due_from next others id) ≡ whole
one_due first due next others id so_far now whole after step before =
    ap (λ (x : Option ℤ). option_or x (due_from next others id)) step
    ∙ due_or so_far (if int_eq first id then Some due else None) (due_from next others id)
    ∙ ap (option_or so_far) (first_due (int_eq first id) due (due_from next others id))
    ∙ ap (λ (n : ℤ). option_or so_far (if int_eq first id then Some due else due_from n others id)) after
    ∙ before

pub below_next : (due next : ℤ) (count rest : ℕ) → next ≡ due +ℤ pos 1 → count ≡ rest + 1 → (due +ℤ pos count) ≤ℤ pos 0 → (next +ℤ pos rest) ≤ℤ pos 0
below_next due next count rest after more low = omega (arith, ints, after, more, low)

-- ---- where the decks and the dues were read
pub refill_told : (k : Keeping) (deck : ℤ) (decks : HeldDecks) (dues : Dues) (to : ℤ → Option ℤ) (old new : Overlay) → dues_of dues ≡ to → WhereTold k (λ h. flags_of decks ≡ filtered_at h.rows)
    → WhereTold k (λ h. new ≡ refill deck (flags_of decks) (dues_of dues) h.rows old) → WhereTold k (λ h. new ≡ refill deck (filtered_at h.rows) to h.rows old)
refill_told k deck decks dues to old new due =
    where_told-both k (λ h. flags_of decks ≡ filtered_at h.rows) (λ h. new ≡ refill deck (flags_of decks) (dues_of dues) h.rows old) (λ h. new ≡ refill deck (filtered_at h.rows) to h.rows old)
    (λ h knows is. is ∙ ap (λ (f : DeckFlags). refill deck f (dues_of dues) h.rows old) knows ∙ ap (λ (d : ℤ → Option ℤ). refill deck (filtered_at h.rows) d h.rows old) due)
