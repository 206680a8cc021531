use Rattle.ak_content_laws.proofs.CallEnds.{day_started}
use Rattle.ak_content_laws.proofs.Keepings.{ends_keeps, where_told}
use Rattle.ak_study.specs.DayStarts.{HasStarted, StartsDay}
use Rattle.ak_content_laws.proofs.card_laws.day_starts_keep_sound.Goals as goal

pub returns : goal.returns
returns c = λ at before now steps left result ends held. ends_keeps (λ _. StartsDay at before now steps left) before now steps left result ends
    (λ value _ done held. day_started at before now steps left held (where_told before held.c (λ c. HasStarted at c before now steps left) held.told done)) held
