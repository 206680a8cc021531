use Rattle.ak_study.proofs.AdmittedEdits.{day_starts_are_admitted}
use Rattle.ak_study.proofs.study_laws.day_starts_are_admitted.Goals as goal

pub returns : goal.returns
returns c = day_starts_are_admitted
