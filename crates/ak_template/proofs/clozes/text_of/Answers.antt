use Rattle.std.proofs.Common.{sym}
use Rattle.std.specs.Prelude.{codes}
use Rattle.ak_template.proofs.Clozing.{all_in_front}
use Rattle.ak_template.proofs.clozes.text_of.Goals as goal

pub returns-in-None : goal.returns-in-None
returns-in-None c = sym (all_in_front (codes "::") c.args.inside.now c.in-None.ensures.none)
