use Rattle.ak_content_laws.proofs.MovedDecks.{moves_decks, own_path}
use Rattle.ak_content_laws.proofs.deck_laws.renamed_decks_stand_under_their_paths.Goals as goal

pub returns : goal.returns
returns c = record { subtree = moves_decks; own = own_path }
