use Rattle.std.specs.Int.{int_max}
use Rattle.std.proofs.Common.{ap, ◌∙◌, rules, w64, SFits}
use Rattle.std.proofs.lemmas.Int.{to_z-of_z}
use Rattle.ak_server_steps.proofs.closings.moment_past.Goals as goal

pub returns : goal.returns
returns c =
    let whole : SFits w64 c.max.result = search rules in
    let past : SFits w64 c.past_both-past.result = search rules in
    to_z-of_z w64 c.max.result whole
    ∙ (rw (to_z-of_z w64 c.args.now c.ranges.now, to_z-of_z w64 c.past_both-past.result past) at c.max.ensures.value)
    ∙ ap (int_max c.args.now) (rw (to_z-of_z w64 c.args.one c.ranges.one, to_z-of_z w64 c.args.other c.ranges.other) at c.past_both-past.ensures)
