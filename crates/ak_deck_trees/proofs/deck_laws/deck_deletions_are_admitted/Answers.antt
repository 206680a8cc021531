use Rattle.ak_deck_trees.proofs.AdmittedTrees.{deck_deletions_are_admitted}
use Rattle.ak_deck_trees.proofs.deck_laws.deck_deletions_are_admitted.Goals as goal

pub returns : goal.returns
returns c = deck_deletions_are_admitted
