use Rattle.ak_content_laws.proofs.CallEnds.{filtered_emptied}
use Rattle.ak_content_laws.proofs.Keepings.{ends_keeps, where_told}
use Rattle.ak_filtered.specs.Emptyings.{IsEmptied}
use Rattle.ak_keep.specs.Keepers.{WhereHeld}
use Rattle.ak_content_laws.proofs.filtered_laws.emptied_decks_keep_sound.Goals as goal

pub returns : goal.returns
returns c = λ at deck before now steps left result ends held. ends_keeps (λ value. WhereHeld before (λ c. IsEmptied at deck c before now left value)) before now steps left result ends
    (λ value _ done held. filtered_emptied at deck before now steps left value held (where_told before held.c (λ c. IsEmptied at deck c before now left value) held.told done)) held
