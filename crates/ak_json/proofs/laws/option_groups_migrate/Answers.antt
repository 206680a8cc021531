use Rattle.ak_json.proofs.Migration.{options_migrate, stamp_migrates, usn_migrates}
use Rattle.ak_json.proofs.OptionsAgain.{never_old}
use Rattle.ak_json.proofs.laws.option_groups_migrate.Goals as goal

pub returns-clause-again : goal.returns-clause-again
returns-clause-again c = options_migrate

pub returns-clause-stamp : goal.returns-clause-stamp
returns-clause-stamp c = stamp_migrates

pub returns-clause-usn : goal.returns-clause-usn
returns-clause-usn c = usn_migrates

pub returns-clause-version : goal.returns-clause-version
returns-clause-version c = never_old
