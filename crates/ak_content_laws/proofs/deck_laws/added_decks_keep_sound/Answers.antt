use Rattle.ak_content_laws.proofs.CallEnds.{deck_added}
use Rattle.ak_content_laws.proofs.Keepings.{ends_keeps, where_told}
use Rattle.ak_deck_paths.specs.Additions.{DoesAdd, IsAdded}
use Rattle.ak_content_laws.proofs.deck_laws.added_decks_keep_sound.Goals as goal

pub returns : goal.returns
returns c = λ at path before now steps left result ends held. ends_keeps (DoesAdd at path before now steps left) before now steps left result ends
    (λ value _ done held. deck_added at path before now steps left value held (where_told before held.c (λ c. IsAdded at path c before now steps left value) held.told done)) held
