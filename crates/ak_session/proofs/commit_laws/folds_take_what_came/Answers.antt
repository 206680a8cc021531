use Rattle.ak_session.proofs.Folds.{folds_take_what_came}
use Rattle.ak_session.proofs.commit_laws.folds_take_what_came.Goals as goal

pub returns : goal.returns
returns c = folds_take_what_came
