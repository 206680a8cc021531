use Rattle.ak_content_laws.proofs.CallEnds.{deck_moved}
use Rattle.ak_content_laws.proofs.Keepings.{ends_keeps, where_told}
use Rattle.ak_edit_calls.specs.DeckPaths.{path_at}
use Rattle.ak_deck_paths.specs.Renames.{DoesRename, IsMoved}
use Rattle.ak_content_laws.proofs.deck_laws.renamed_decks_keep_sound.Goals as goal

pub returns : goal.returns
returns c = λ at deck path before now steps left result ends held. ends_keeps (λ _. DoesRename at deck path before now steps left) before now steps left result ends
    (λ value _ done held. deck_moved at (path_at held.c.rows deck) path before now steps left held
    (where_told before held.c (λ c. IsMoved at (path_at c.rows deck) path c before now steps left) held.told done)) held
