use Rattle.ak_lab.proofs.Copied.{copy_held}
use Rattle.ak_lab.proofs.server_copies.copy_committed.Goals as goal

pub returns-clause-copy : goal.returns-clause-copy
returns-clause-copy c =
    copy_held _ c.view_all.result c.in_ok-opening.opening c.of.result c.in_ok-opening.ensures.ok c.view_all.ensures.copy c.of.ensures
