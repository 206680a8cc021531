use Rattle.ak_decks.proofs.AdmittedCalls.{flag_edits_are_admitted}
use Rattle.ak_decks.proofs.deck_laws.flag_edits_are_admitted.Goals as goal

pub returns : goal.returns
returns c = flag_edits_are_admitted
