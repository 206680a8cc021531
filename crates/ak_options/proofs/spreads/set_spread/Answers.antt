use Rattle.std.proofs.Common.{w64, SFits}
use Rattle.std.proofs.lemmas.Int.{to_z-of_z}
use Rattle.ak_options.proofs.Spreading.{spread_ended}
use Rattle.ak_options.proofs.spreads.set_spread.Goals as goal

pub returns-clause-edits : goal.returns-clause-edits
returns-clause-edits g c =
    let value : SFits w64 c.args.value = c.ranges.value in
    let at : SFits w64 c.args.at = c.ranges.at in
    let same = c.in_ok-conf.ensures.reads.same in
    spread_ended (g.K.Lookup.keeping c.args.keeper.now) (g.K.Lookup.keeping c.finish.new.keeper) c.args.at c.args.value c.in_ok-conf.conf c.set_conf.new.self
    c.args.steps.now c.finish.new.steps c.finish.result
    (rw c.new-change.ensures at c.in_ok-conf.ensures.reads.told)
    (rw (c.new-change.ensures, c.with_spread.ensures.made, to_z-of_z w64 c.args.value value) at c.set_conf.ensures)
    (rw same at c.finish.ensures.known) (rw (same, to_z-of_z w64 c.args.at at) at c.finish.ensures.ok)
    (rw same at c.finish.ensures.err) c.finish.ensures.kept (rw same at c.finish.ensures.stays)
    (rw (same, to_z-of_z w64 c.args.at at) at c.finish.ensures.refused)
