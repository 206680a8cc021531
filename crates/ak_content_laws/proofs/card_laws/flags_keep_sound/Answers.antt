use Rattle.ak_content_laws.proofs.CallEnds.{asks_alike}
use Rattle.ak_content_laws.proofs.CardCalls.{card_edit_alike}
use Rattle.ak_content_laws.proofs.Keepings.{rule_keeps}
use Rattle.ak_decks.specs.Flags.{RefusesFlag, flagged, flagging}
use Rattle.std.proofs.Common.{refl}
use Rattle.ak_content_laws.proofs.card_laws.flags_keep_sound.Goals as goal

pub returns : goal.returns
returns c = λ at value cards before now steps left result ends held. rule_keeps at (flagging value cards) (RefusesFlag at value cards) before now steps left result (asks_alike (flagging value cards) (RefusesFlag at value cards) (λ d _. card_edit_alike (flagged value) cards d (λ _. refl))) ends held
