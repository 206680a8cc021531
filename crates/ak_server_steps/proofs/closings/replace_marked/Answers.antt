use Rattle.std.proofs.Common.{ap, ◌∙◌}
use Rattle.ak_keep.specs.Keepers.{replaced}
use Rattle.ak_server_steps.proofs.closings.replace_marked.Goals as goal

pub returns-clause-ok : goal.returns-clause-ok
returns-clause-ok g c = c.in_ok-replace_all.ensures.ok ∙ ap (replaced c.args.rows c.args.head) c.in_ok-mark.ensures.ok
