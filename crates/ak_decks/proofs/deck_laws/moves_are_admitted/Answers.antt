use Rattle.ak_decks.proofs.AdmittedCalls.{moves_are_admitted}
use Rattle.ak_decks.proofs.deck_laws.moves_are_admitted.Goals as goal

pub returns : goal.returns
returns c = moves_are_admitted
