-- Changes of cards: each keeps its name, and what it makes does not depend on stamps and usns.
use Rattle.std.specs.Prelude.{◌≡◌, ℤ, pos, negsuc, Bool, true, false, if◌then◌else◌, is_some, Option, Some, None}
use Rattle.std.proofs.Common.{refl, sym, ap, ◌∙◌}
use Rattle.std.specs.Option.{option_map_or}
use Rattle.ak_base.specs.Rows.{name_of}
use Rattle.ak_base.specs.declared.cards.Card.{Card}
use Rattle.ak_base.specs.declared.names.Table.TheVariants as tables
use Rattle.ak_base.specs.declared.rows.Row.{Row}
use Rattle.ak_base.specs.declared.rows.Row.TheVariants as rows
use Rattle.ak_edit_calls.specs.CardEdits.{KeepsIds, changed_row}
use Rattle.ak_filtered.specs.Builds.{moved_in, refilled}
use Rattle.ak_filtered.specs.Emptyings.{emptied, is_away_in}
use Rattle.ak_filtered.specs.HomeDecks.{DeckFlags, gone_home, is_away}
use Rattle.ak_filtered.proofs.RowsBack.{bare}
use Rattle.ak_merge.specs.EditBuilding.{MayMap}
use Rattle.ak_merge.specs.Holdings.{name_in}

-- ---- names
changed_name : (change : Card → Card) (row : Row) → KeepsIds change → name_of (changed_row change row) ≡ name_of row
changed_name change (rows.Card card) keeps = ap (name_in tables.Card) (keeps card)
changed_name change (rows.Note note) keeps = refl
changed_name change (rows.Review review) keeps = refl
changed_name change (rows.NoteType note_type) keeps = refl
changed_name change (rows.Deck deck) keeps = refl
changed_name change (rows.Options options) keeps = refl
changed_name change (rows.Grave grave) keeps = refl

review_stays : (change : Card → Card) (row : Row) → (name_of row).table ≡ tables.Review → changed_row change row ≡ row
review_stays change (rows.Card card) is = absurd (cc)
review_stays change (rows.Note note) is = refl
review_stays change (rows.Review review) is = refl
review_stays change (rows.NoteType note_type) is = refl
review_stays change (rows.Deck deck) is = refl
review_stays change (rows.Options options) is = refl
review_stays change (rows.Grave grave) is = refl

pub may_change : (change : Card → Card) → KeepsIds change → MayMap (changed_row change)
may_change change keeps = record { name = λ row. changed_name change row keeps; review = review_stays change }

pub home_id : (flags : DeckFlags) → KeepsIds (gone_home flags)
home_id flags card =
    elim (is_away card) as (λ b. (if b then record card { did = if is_some (flags card.odid) then card.odid else pos 1; due = card.odue; odue = pos 0; odid = pos 0 } else card).id ≡ card.id) [ true ↦ refl | false ↦ refl ]

pub emptied_id : (deck : ℤ) (flags : DeckFlags) → KeepsIds (emptied deck flags)
emptied_id deck flags card = elim (is_away_in deck card) as (λ b. (if b then gone_home flags card else card).id ≡ card.id) [ true ↦ home_id flags card | false ↦ refl ]

pub refilled_id : (deck : ℤ) (flags : DeckFlags) (dues : ℤ → Option ℤ) → KeepsIds (refilled deck flags dues)
refilled_id deck flags dues card =
    elim (dues card.id) as (λ (o : Option ℤ). (option_map_or (λ (due : ℤ). moved_in deck due (emptied deck flags card)) o (emptied deck flags card)).id ≡ card.id) [
      | None ↦ emptied_id deck flags card
      | Some due ↦ emptied_id deck flags card
    ]

-- ---- stamps and numbers
-- a card without its stamp and its number
abbrev pub bare_card : Card → Card
bare_card card = record card { stamp = pos 0; usn = negsuc 0 }

-- a change looks at neither
abbrev pub IsBlind : (Card → Card) → Type 0
IsBlind change = (card : Card) → bare_card (change card) ≡ change (bare_card card)

home_blind : (flags : DeckFlags) → IsBlind (gone_home flags)
home_blind flags card =
    elim (is_away card) as (λ b. bare_card (if b then record card { did = if is_some (flags card.odid) then card.odid else pos 1; due = card.odue; odue = pos 0; odid = pos 0 } else card)
    ≡ (if b then record (bare_card card) { did = if is_some (flags card.odid) then card.odid else pos 1; due = card.odue; odue = pos 0; odid = pos 0 } else bare_card card)) [ true ↦ refl | false ↦ refl ]

pub emptied_blind : (deck : ℤ) (flags : DeckFlags) → IsBlind (emptied deck flags)
emptied_blind deck flags card =
    elim (is_away_in deck card) as (λ b. bare_card (if b then gone_home flags card else card) ≡ (if b then gone_home flags (bare_card card) else bare_card card)) [ true ↦ home_blind flags card | false ↦ refl ]

pub refilled_blind : (deck : ℤ) (flags : DeckFlags) (dues : ℤ → Option ℤ) → IsBlind (refilled deck flags dues)
refilled_blind deck flags dues card =
    elim (dues card.id) as (λ (o : Option ℤ). bare_card (option_map_or (λ (due : ℤ). moved_in deck due (emptied deck flags card)) o (emptied deck flags card))
    ≡ option_map_or (λ (due : ℤ). moved_in deck due (emptied deck flags (bare_card card))) o (emptied deck flags (bare_card card))) [
      | None ↦ emptied_blind deck flags card
      | Some due ↦ ap (moved_in deck due) (emptied_blind deck flags card)
    ]

pub row_blind : (change : Card → Card) (row : Row) → IsBlind change → bare (changed_row change row) ≡ changed_row change (bare row)
row_blind change (rows.Card card) blind = ap rows.Card (blind card)
row_blind change (rows.Note note) blind = refl
row_blind change (rows.Review review) blind = refl
row_blind change (rows.NoteType note_type) blind = refl
row_blind change (rows.Deck deck) blind = refl
row_blind change (rows.Options options) blind = refl
row_blind change (rows.Grave grave) blind = refl
