use Rattle.ak_content_laws.proofs.CallEnds.{card_answered}
use Rattle.ak_content_laws.proofs.Keepings.{ends_keeps, where_told}
use Rattle.ak_study.specs.Answers.{Answers, IsAnswered}
use Rattle.ak_content_laws.proofs.card_laws.answers_keep_sound.Goals as goal

pub returns : goal.returns
returns c = λ at given before now steps left result ends held. ends_keeps (Answers at given before now steps left) before now steps left result ends
    (λ value _ done held. card_answered at given before now steps left value held (where_told before held.c (λ c. IsAnswered at given c before now steps left value) held.told done)) held
