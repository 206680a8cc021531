use Rattle.ak_content_laws.proofs.CallEnds.{asks_alike}
use Rattle.ak_content_laws.proofs.CardCalls.{card_edit_alike}
use Rattle.ak_content_laws.proofs.Keepings.{rule_keeps}
use Rattle.ak_decks.specs.Moves.{RefusesMove, moved, moving}
use Rattle.std.proofs.Common.{refl}
use Rattle.ak_content_laws.proofs.card_laws.moves_keep_sound.Goals as goal

pub returns : goal.returns
returns c = λ at deck cards before now steps left result ends held. rule_keeps at (moving deck cards) (RefusesMove at deck cards) before now steps left result (asks_alike (moving deck cards) (RefusesMove at deck cards) (λ d _. card_edit_alike (moved deck) cards d (λ _. refl))) ends held
