use Rattle.ak_decks.proofs.AdmittedCalls.{option_uses_are_admitted}
use Rattle.ak_decks.proofs.deck_laws.option_uses_are_admitted.Goals as goal

pub returns : goal.returns
returns c = option_uses_are_admitted
