use Rattle.ak_away_answers.proofs.AdmittedAnswers.{early_answers_are_admitted}
use Rattle.ak_away_answers.proofs.answer_laws.early_answers_are_admitted.Goals as goal

pub returns : goal.returns
returns c = early_answers_are_admitted
