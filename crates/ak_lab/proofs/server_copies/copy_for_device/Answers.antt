use Rattle.ak_lab.proofs.Copied.{copy_downloaded, moment_read}
use Rattle.ak_lab.proofs.server_copies.copy_for_device.Goals as goal

pub returns-clause-copy : goal.returns-clause-copy
returns-clause-copy c =
    copy_downloaded _ c.view_all.result c.in_ok-opening.opening _ c.of.result c.in_ok-opening.ensures.ok c.view_all.ensures.copy
    (moment_read c.view_all.result c.in_ok-opening.opening c.in_ok-opening.ensures.ok c.view_all.ensures.range) c.of.ensures
