use Rattle.ak_content_laws.proofs.CallEnds.{asks_alike}
use Rattle.ak_content_laws.proofs.CardCalls.{options_use_alike}
use Rattle.ak_content_laws.proofs.Keepings.{rule_keeps}
use Rattle.ak_decks.specs.DeckOptions.{RefusesUse, options_use}
use Rattle.ak_content_laws.proofs.deck_laws.option_uses_keep_sound.Goals as goal

pub returns : goal.returns
returns c = λ at options deck before now steps left result ends held. rule_keeps at (options_use options deck) (RefusesUse at options deck) before now steps left result (asks_alike (options_use options deck) (RefusesUse at options deck) (options_use_alike options deck)) ends held
