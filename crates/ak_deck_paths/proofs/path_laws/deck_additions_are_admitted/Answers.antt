use Rattle.ak_deck_paths.proofs.AdmittedPaths.{deck_additions_are_admitted}
use Rattle.ak_deck_paths.proofs.path_laws.deck_additions_are_admitted.Goals as goal

pub returns : goal.returns
returns c = deck_additions_are_admitted
