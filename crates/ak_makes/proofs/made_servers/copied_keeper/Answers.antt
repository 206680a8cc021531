use Rattle.std.proofs.Common.{w64}
use Rattle.std.proofs.lemmas.Int.{to_z-of_z}
use Rattle.ak_makes.proofs.ServerCopies.{copied, moment_fits}
use Rattle.ak_makes.proofs.made_servers.copied_keeper.Goals as goal

pub returns-clause-copy : goal.returns-clause-copy
returns-clause-copy c =
    let moment = c.in_ok-opening.opening.head.moment in
    copied c.args.server.now c.in_ok-opening.opening _ c.in_ok-keeper.keeper.kept c.in_ok-opening.ensures.copy
    (to_z-of_z w64 moment (moment_fits moment c.in_ok-opening.ensures.range.moment)) c.in_ok-keeper.ensures.kept
