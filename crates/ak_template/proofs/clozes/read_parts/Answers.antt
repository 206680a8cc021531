use Rattle.std.proofs.Common.{rules}
use Rattle.ak_template.specs.Clozes.{parts}
use Rattle.ak_template.proofs.Clozing.{parts_some}
use Rattle.ak_template.proofs.clozes.read_parts.Goals as goal

pub loop-before-preserved : goal.loop-before-preserved
loop-before-preserved c = (search rules, parts_some c.loop-before.parts.items c.add_bare.new.parts.items c.add_marked.new.parts.items c.loop-before.rest.now c.in-Some.before.now c.in-Some.after.now c.in-Some-2.others.now (parts c.args.text.now) c.in-Some.ensures.has c.in-Some.ensures.front c.in-Some.ensures.behind (search rules) (search rules) c.loop-before.invariant.1 (search rules))
