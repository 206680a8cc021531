use Rattle.std.specs.Int.{int_min}
use Rattle.std.specs.Prelude.{ℤ}
use Rattle.std.proofs.Common.{ap, ◌∙◌, rules, w64, SFits}
use Rattle.std.proofs.lemmas.Int.{to_z-of_z}
use Rattle.ak_base.specs.Limits.{last_moment}
use Rattle.ak_server_steps.proofs.closings.finished_moment.Goals as goal

pub returns : goal.returns
returns c =
    let whole : SFits w64 c.min.result = search rules in
    let past : SFits w64 c.moment_past.result = search rules in
    let one : SFits w64 c.args.basis.now.numbers.moment = search rules in
    let other : SFits w64 c.args.basis.now.live.moment = search rules in
    to_z-of_z w64 c.min.result whole
    ∙ (rw (to_z-of_z w64 c.moment_past.result past) at c.min.ensures.value)
    ∙ ap (λ (x : ℤ). int_min x last_moment)
    (rw (to_z-of_z w64 c.args.now c.ranges.now, to_z-of_z w64 c.args.basis.now.numbers.moment one, to_z-of_z w64 c.args.basis.now.live.moment other) at c.moment_past.ensures)
