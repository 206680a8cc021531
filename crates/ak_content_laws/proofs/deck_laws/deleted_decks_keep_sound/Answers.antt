use Rattle.ak_content_laws.proofs.CallEnds.{asks_deck_deletion}
use Rattle.ak_content_laws.proofs.Keepings.{rule_keeps}
use Rattle.ak_deck_trees.specs.DeckDeletions.{RefusesDeckDeletion, deck_deletion}
use Rattle.ak_content_laws.proofs.deck_laws.deleted_decks_keep_sound.Goals as goal

pub returns : goal.returns
returns c = λ at deck before now steps left result ends held. rule_keeps at (deck_deletion deck) (RefusesDeckDeletion at deck) before now steps left result (asks_deck_deletion deck (RefusesDeckDeletion at deck)) ends held
