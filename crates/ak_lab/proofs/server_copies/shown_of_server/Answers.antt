use Rattle.std.proofs.Common.{◌≡◌}
use Rattle.ak_lab.proofs.Copied.{copied}
use Rattle.ak_lab_devices.specs.Shows.{shown_lines}
use Rattle.ak_lab.proofs.server_copies.shown_of_server.Goals as goal

pub returns-clause-shown : goal.returns-clause-shown
returns-clause-shown c =
    copied (λ texts d. texts ≡ shown_lines c.args.what d) _ _ c.shown.result c.in_ok-copy.ensures.copy c.shown.ensures.shown
