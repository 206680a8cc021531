-- A card that goes home or moves in keeps its id and stays in its ranges.
use Rattle.std.specs.Prelude.{◌≡◌, ℕ, ℤ, pos, negsuc, Bool, true, false, ◌||◌, int_lt, if◌then◌else◌, is_some, ◌++◌, Some, None}
use Rattle.std.proofs.Common.{refl, sym, ap, ◌∙◌, arith}
use Rattle.std.proofs.lemmas.Int.{ints}
use Rattle.std.proofs.lemmas.Option.{none-some}
use Rattle.ak_base.specs.Cards.{IsCheckedCard, mark_faults, place_faults, schedule_faults}
use Rattle.ak_base.specs.Columns.{code_fault, id_fault, id_or_zero_fault}
use Rattle.ak_base.specs.Limits.{last_id}
use Rattle.ak_base.specs.declared.cards.Card.{Card}
use Rattle.ak_base.specs.declared.errors.RowFault.TheVariants.{BadCode, IdRange}
use Rattle.ak_edit_calls.proofs.CheckedRows.{of_faultless}
use Rattle.ak_edit_calls.specs.CardEdits.{KeepsCards}
use Rattle.ak_filtered.proofs.CardChanges.{home_id}
use Rattle.ak_base.specs.Heads.{IsWithin}
use Rattle.ak_filtered.specs.Builds.{moved_in}
use Rattle.ak_filtered.specs.HomeDecks.{DeckFlags, gone_home, is_away}
use Rattle.ak_merge.proofs.CheckedRows.{faultless_of}

-- a number in the range of one column is in that of another with the same range
other_column : (one other : ℕ) (value least most : ℤ) → code_fault one value least most ≡ None → code_fault other value least most ≡ None
unfolding code_fault
other_column one other value least most is =
    elim (int_lt value least || int_lt most value) as (λ b. (if b then Some (BadCode one value) else None) ≡ None → (if b then Some (BadCode other value) else None) ≡ None) [
      | true ↦ λ is. absurd (none-some (BadCode one value) (sym is))
      | false ↦ λ _. refl
    ] is

-- the id of a home deck, of a card that is away
home_fits : (id : ℤ) → int_lt (pos 0) id ≡ true → id_or_zero_fault id ≡ None → id_fault id ≡ None
unfolding id_fault id_or_zero_fault
home_fits id away is =
    let low : int_lt id (pos 1) ≡ false = grind (arith, ints, away) in
    let old_low : int_lt id (pos 0) ≡ false = grind (arith, ints, away) in
    let high : (if int_lt last_id id then Some IdRange else None) ≡ None = sym (ap (λ b. if b || int_lt last_id id then Some IdRange else None) old_low) ∙ is in
    ap (λ b. if b || int_lt last_id id then Some IdRange else None) low ∙ high

deck_fits : (held : Bool) (id : ℤ) → id_fault id ≡ None → id_fault (if held then id else pos 1) ≡ None
unfolding id_fault
deck_fits true id is = is
deck_fits false id is = refl

no_due : code_fault 14 (pos 0) (negsuc 2_147_483_647) (pos 1_099_511_627_776) ≡ None
unfolding code_fault
no_due = refl

no_deck : id_or_zero_fault (pos 0) ≡ None
unfolding id_or_zero_fault
no_deck = refl

-- the card at home, of one that is away
abbrev home_of : DeckFlags → Card → Card
home_of flags card = record card { did = if is_some (flags card.odid) then card.odid else pos 1; due = card.odue; odue = pos 0; odid = pos 0 }

away_checked : (flags : DeckFlags) (card : Card) → is_away card ≡ true → IsCheckedCard card → IsCheckedCard (home_of flags card)
unfolding place_faults schedule_faults mark_faults
away_checked flags card away checked =
    let all = faultless_of (place_faults card ++ (schedule_faults card ++ mark_faults card)) checked in
    let front = all.1.1.1 in
    let back = front.1.1.1.1.1.1 in
    let after : Card = home_of flags card in
    let odue = back.1.1.1.1.1.0 in
    let odid = back.1.1.1.1.1.1.0 in
    of_faultless (place_faults after ++ (schedule_faults after ++ mark_faults after)) (
      all.0,
      (
        all.1.0,
        (
          deck_fits (is_some (flags card.odid)) card.odid (home_fits card.odid away odid),
          (
            front.0,
            (
              front.1.0,
              (
                front.1.1.0,
                (
                  front.1.1.1.0,
                  (
                    front.1.1.1.1.0,
                    (
                      other_column 14 8 card.odue (negsuc 2_147_483_647) (pos 1_099_511_627_776) odue,
                      (back.0, (back.1.0, (back.1.1.0, (back.1.1.1.0, (back.1.1.1.1.0, (no_due, (no_deck, back.1.1.1.1.1.1.1))))))),
                    ),
                  ),
                ),
              ),
            ),
          ),
        ),
      ),
    )

pub home_checked : (flags : DeckFlags) (card : Card) → IsCheckedCard card → IsCheckedCard (gone_home flags card)
home_checked flags card checked =
    elim (is_away card) as (λ b. is_away card ≡ b → IsCheckedCard (if b then home_of flags card else card)) [ true ↦ λ away. away_checked flags card away checked | false ↦ λ _. checked ] refl

pub home_keeps : (flags : DeckFlags) → KeepsCards (gone_home flags)
home_keeps flags = record { id = home_id flags; checked = home_checked flags }

-- ---- a card that moves in
-- the deck has an id, and the due is one of a card that moved in
pub record IsMoveIn (deck due : ℤ) : Type 0 where
  pub deck_is : id_fault deck ≡ None
  pub due_is : IsWithin (negsuc 99_999) (pos 0) due

due_fits : (due : ℤ) → IsWithin (negsuc 99_999) (pos 0) due → code_fault 8 due (negsuc 2_147_483_647) (pos 1_099_511_627_776) ≡ None
unfolding code_fault
due_fits due within =
    let low : int_lt due (negsuc 2_147_483_647) ≡ false = grind (arith, ints, within.low) in
    let high : int_lt (pos 1_099_511_627_776) due ≡ false = grind (arith, ints, within.high) in
    ap (λ b. if b || int_lt (pos 1_099_511_627_776) due then Some (BadCode 8 due) else None) low ∙ ap (λ b. if b then Some (BadCode 8 due) else None) high

-- an id is one where 0 stands for none
id_or_zero : (id : ℤ) → id_fault id ≡ None → id_or_zero_fault id ≡ None
unfolding id_fault id_or_zero_fault
id_or_zero id is =
    elim (int_lt id (pos 1)) as (λ b. int_lt id (pos 1) ≡ b → (if b || int_lt last_id id then Some IdRange else None) ≡ None → (if int_lt id (pos 0) || int_lt last_id id then Some IdRange else None) ≡ None) [
      | true ↦ λ _ is. absurd (none-some IdRange (sym is))
      | false ↦ λ more is.
          let low : int_lt id (pos 0) ≡ false = grind (arith, ints, more) in
          ap (λ b. if b || int_lt last_id id then Some IdRange else None) low ∙ is
    ] refl is

pub moved_checked : (deck due : ℤ) (card : Card) → IsMoveIn deck due → IsCheckedCard card → IsCheckedCard (moved_in deck due card)
unfolding place_faults schedule_faults mark_faults
moved_checked deck due card move checked =
    let all = faultless_of (place_faults card ++ (schedule_faults card ++ mark_faults card)) checked in
    let front = all.1.1.1 in
    let back = front.1.1.1.1.1.1 in
    let after : Card = moved_in deck due card in
    of_faultless (place_faults after ++ (schedule_faults after ++ mark_faults after)) (
      all.0,
      (
        all.1.0,
        (
          move.deck_is,
          (
            front.0,
            (
              front.1.0,
              (
                front.1.1.0,
                (
                  front.1.1.1.0,
                  (
                    front.1.1.1.1.0,
                    (
                      due_fits due move.due_is,
                      (
                        back.0,
                        (
                          back.1.0,
                          (
                            back.1.1.0,
                            (
                              back.1.1.1.0,
                              (
                                back.1.1.1.1.0,
                                (other_column 8 14 card.due (negsuc 2_147_483_647) (pos 1_099_511_627_776) front.1.1.1.1.1.0, (id_or_zero card.did all.1.1.0, back.1.1.1.1.1.1.1)),
                              ),
                            ),
                          ),
                        ),
                      ),
                    ),
                  ),
                ),
              ),
            ),
          ),
        ),
      ),
    )
