use Rattle.ak_away_answers.specs.AwayAnswers.{EndsAnyAnswer}
use Rattle.ak_content_laws.proofs.CallEnds.{any_answered}
use Rattle.ak_content_laws.proofs.Keepings.{where_told}
use Rattle.ak_content_laws.proofs.card_laws.any_answers_keep_sound.Goals as goal

pub returns : goal.returns
returns c = λ at given before now steps left result ends held. any_answered at given before now steps left result held
    (where_told before held.c (λ c. EndsAnyAnswer at given c before now steps left result) held.told ends)
