use Rattle.ak_study.proofs.AdmittedAnswers.{answers_are_admitted}
use Rattle.ak_study.proofs.study_laws.answers_are_admitted.Goals as goal

pub returns : goal.returns
returns c = answers_are_admitted
