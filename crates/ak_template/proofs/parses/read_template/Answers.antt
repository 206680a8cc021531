use Rattle.std.proofs.Common.{◌∙◌, ◌++◌, ◌-◌, sym, length, arith, rules}
use Rattle.ak_template.specs.Pieces.{steps_in, pieces_in}
use Rattle.ak_template.specs.Grammar.{fault_in}
use Rattle.ak_template.proofs.Parsing.{step_at}
use Rattle.ak_template.proofs.parses.read_template.Goals as goal

pub loop-before-preserved : goal.loop-before-preserved
loop-before-preserved c =
    let size = length c.args.text.now in
    let front = size - length c.loop-before.rest.now in
    let others = pieces_in (length c.in-Some.behind.now) size c.in-Some.behind.now in
    let e = c.in-Some.ensures in
    let old = c.loop-before.builder in (
      search rules,
      record {
        within = omega (arith, c.in-Some.ensures.length, c.loop-before.invariant.1.within);
        faults = sym (c.in_ok-add_next.ensures.faults front others) ∙ sym (step_at (fault_in old.sections.items) size _ c.loop-before.rest.now c.in-Some.before.now c.in-Some.inside.now c.in-Some.behind.now e.has e.before e.inside e.behind (search rules)) ∙ c.loop-before.invariant.1.faults;
        steps = sym (c.in_ok-add_next.ensures.steps front others) ∙ sym (step_at (λ ps. old.steps.items ++ steps_in ps) size _ c.loop-before.rest.now c.in-Some.before.now c.in-Some.inside.now c.in-Some.behind.now e.has e.before e.inside e.behind (search rules)) ∙ c.loop-before.invariant.1.steps;
      },
    )
