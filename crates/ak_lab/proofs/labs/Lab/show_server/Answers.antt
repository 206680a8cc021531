use Rattle.std.proofs.Common.{refl}
use Rattle.ak_lab.proofs.labs.Lab.show_server.Goals as goal

pub returns-in-Ok-clause-ends : goal.returns-in-Ok-clause-ends
returns-in-Ok-clause-ends c =
    let shown = c.in-Ok.ensures.shown in
    (shown.0, (shown.1, record { viewed = c.shown_of_server.ensures.viewed; calm = c.shown_of_server.ensures.calm; left = refl }), shown.2)
