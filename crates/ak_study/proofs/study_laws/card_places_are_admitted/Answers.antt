use Rattle.ak_study.proofs.AdmittedEdits.{burials_are_admitted, suspensions_are_admitted, unsuspensions_are_admitted}
use Rattle.ak_study.proofs.study_laws.card_places_are_admitted.Goals as goal

pub returns-clause-suspended : goal.returns-clause-suspended
returns-clause-suspended c = suspensions_are_admitted

pub returns-clause-unsuspended : goal.returns-clause-unsuspended
returns-clause-unsuspended c = unsuspensions_are_admitted

pub returns-clause-buried : goal.returns-clause-buried
returns-clause-buried c = burials_are_admitted
