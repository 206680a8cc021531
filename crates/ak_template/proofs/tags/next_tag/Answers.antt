use Rattle.ak_template.proofs.Cutting.{no_opening}
use Rattle.ak_template.proofs.tags.next_tag.Goals as goal

pub returns-in_err-before-clause-none : goal.returns-in_err-before-clause-none
returns-in_err-before-clause-none c = rw c.from_residual.ensures (no_opening c.args.text.now c.in_err-before.ensures.none)
