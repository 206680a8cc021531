-- A card in another deck keeps its id and stays in its ranges.
use Rattle.std.specs.Prelude.{ℤ, List, ◌++◌, Result, Ok, Err, IfErr}
use Rattle.std.proofs.Common.{refl, inr}
use Rattle.std.specs.FinMap.{get}
use Rattle.ak_base.specs.Cards.{IsCheckedCard, place_faults, schedule_faults, mark_faults}
use Rattle.ak_base.specs.declared.cards.Card.{Card}
use Rattle.ak_base.specs.declared.names.Table.TheVariants as tables
use Rattle.ak_base.specs.declared.rows.Row.{Row}
use Rattle.ak_decks.specs.Moves.{IsMoveFault, RefusesMove, moved, moving}
use Rattle.ak_edit.specs.Refusals.{AnswersBy}
use Rattle.ak_edit.specs.declared.desk_faults.DeskFault.{DeskFault}
use Rattle.ak_edit_calls.proofs.Answering.{passed_first}
use Rattle.ak_edit_calls.proofs.CheckedRows.{of_faultless}
use Rattle.ak_edit_calls.proofs.Ids.{id_fits}
use Rattle.ak_edit_calls.proofs.Telling.{where_held-both, where_rows_held}
use Rattle.ak_edit_calls.specs.Calls.{EndsEdit, IsMissingOrEnd, RefusesAbsent}
use Rattle.ak_edit_calls.specs.CardEdits.{KeepsCards, RefusesCardEdit, card_edit}
use Rattle.ak_keep.specs.Collections.{IsId}
use Rattle.ak_keep.specs.Keepers.{Keeping, WhereHeld, WhereTold}
use Rattle.ak_merge.proofs.CheckedRows.{faultless_of}
use Rattle.ak_merge.specs.Holdings.{name_in, row_under}
use Rattle.ak_undo.specs.declared.steps.Step.{Step}

-- ---- the card
checked_moved : (deck : ℤ) (card : Card) → IsId deck → IsCheckedCard card → IsCheckedCard (moved deck card)
unfolding place_faults schedule_faults mark_faults
checked_moved deck card range checked =
    let all = faultless_of (place_faults card ++ (schedule_faults card ++ mark_faults card)) checked in
    let after : Card = moved deck card in
    of_faultless (place_faults after ++ (schedule_faults after ++ mark_faults after)) (all.0, (all.1.0, (id_fits deck range, all.1.1.1)))

pub move_keeps : (deck : ℤ) → IsId deck → KeepsCards (moved deck)
move_keeps deck range = record { id = λ card. refl; checked = λ card. checked_moved deck card range }

-- ---- the answer
move_answered : (k : Keeping) (at deck : ℤ) (cards : List ℤ) (row : Row) (result : Result (Unit {0}) DeskFault)
    → WhereTold k (λ h. AnswersBy {T = Row} (RefusesAbsent (get h.rows) (name_in tables.Deck deck)) (Ok row))
    → WhereHeld k (λ c. AnswersBy (RefusesCardEdit at (moved deck) cards c) result) → WhereHeld k (λ c. AnswersBy (RefusesMove at deck cards c) result)
move_answered k at deck cards row result held =
    where_held-both k (λ c. AnswersBy {T = Row} (RefusesAbsent (row_under c) (name_in tables.Deck deck)) (Ok row))
    (λ c. AnswersBy (RefusesCardEdit at (moved deck) cards c) result) (λ c. AnswersBy (RefusesMove at deck cards c) result)
    (λ c passes answers. passed_first (RefusesAbsent (row_under c) (name_in tables.Deck deck)) (RefusesCardEdit at (moved deck) cards c) row result passes answers)
    (where_rows_held k (λ rows. AnswersBy {T = Row} (RefusesAbsent (get rows) (name_in tables.Deck deck)) (Ok row)) held)

-- the end of the call, by that of the edit of the cards
pub move_ended : (k now : Keeping) (at deck : ℤ) (cards : List ℤ) (row : Row) (steps left : List Step) (result : Result (Unit {0}) DeskFault)
    → WhereTold k (λ h. AnswersBy {T = Row} (RefusesAbsent (get h.rows) (name_in tables.Deck deck)) (Ok row))
    → EndsEdit at (card_edit (moved deck) cards) (RefusesCardEdit at (moved deck) cards) k now steps left result
    → EndsEdit at (moving deck cards) (RefusesMove at deck cards) k now steps left result
move_ended k now at deck cards row steps left result held ends = record {
  done = ends.done;
  same = ends.same;
  kept = ends.kept;
  stays = ends.stays;
  answers = move_answered k at deck cards row result held ends.answers;
}

-- what it may answer
pub move_listed : (result : Result (Unit {0}) DeskFault) → IfErr result (IsMissingOrEnd tables.Card) → IfErr result IsMoveFault
move_listed (Ok value) listed = tt
move_listed (Err fault) listed = inr listed
