use Rattle.ak_content_laws.proofs.CallEnds.{asks_alike}
use Rattle.ak_content_laws.proofs.CardCalls.{buried_place, card_edit_alike, unsuspended_place}
use Rattle.ak_content_laws.proofs.Keepings.{rule_keeps}
use Rattle.ak_edit_calls.specs.CardEdits.{RefusesCardEdit, card_edit}
use Rattle.ak_study.specs.CardPlaces.{buried_by_hand, suspended, unsuspended}
use Rattle.std.proofs.Common.{refl}
use Rattle.ak_content_laws.proofs.card_laws.places_keep_sound.Goals as goal

pub returns : goal.returns
returns c = record {
  suspended = λ at cards before now steps left result ends held. rule_keeps at (card_edit suspended cards) (RefusesCardEdit at suspended cards) before now steps left result
      (asks_alike (card_edit suspended cards) (RefusesCardEdit at suspended cards) (λ d _. card_edit_alike suspended cards d (λ _. refl))) ends held;
  unsuspended = λ at cards before now steps left result ends held. rule_keeps at (card_edit unsuspended cards) (RefusesCardEdit at unsuspended cards) before now steps left result
      (asks_alike (card_edit unsuspended cards) (RefusesCardEdit at unsuspended cards) (λ d _. card_edit_alike unsuspended cards d unsuspended_place)) ends held;
  buried = λ at cards before now steps left result ends held. rule_keeps at (card_edit buried_by_hand cards) (RefusesCardEdit at buried_by_hand cards) before now steps left result
      (asks_alike (card_edit buried_by_hand cards) (RefusesCardEdit at buried_by_hand cards) (λ d _. card_edit_alike buried_by_hand cards d buried_place)) ends held;
}
