use Rattle.ak_content_laws.proofs.CallEnds.{sending_ended}
use Rattle.ak_content_laws.proofs.Keepings.{where_told}
use Rattle.ak_filtered.specs.HomeGoings.{EndsSending}
use Rattle.ak_content_laws.proofs.filtered_laws.sent_cards_keep_sound.Goals as goal

pub returns : goal.returns
returns c = λ at cards before now steps left result ends held. sending_ended at cards before now steps left result held
    (where_told before held.c (λ c. EndsSending at cards c before now steps left result) held.told ends)
