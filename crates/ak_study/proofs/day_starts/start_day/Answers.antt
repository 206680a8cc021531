use Rattle.std.proofs.Common.{w64, SFits}
use Rattle.std.proofs.lemmas.Int.{to_z-of_z}
use Rattle.ak_edit_calls.proofs.Answering.{on_ok-map}
use Rattle.ak_faults.proofs.Healths.{cause_after}
use Rattle.ak_edit.specs.Ends.{FinishedBy}
use Rattle.ak_study.proofs.DayStartRules.{start_answered, start_done}
use Rattle.ak_study.specs.DayStarts.{StartsDay}
use Rattle.ak_study.proofs.day_starts.start_day.Goals as goal

pub returns-clause-ok : goal.returns-clause-ok
returns-clause-ok g c =
    let k = g.K.Lookup.keeping c.args.keeper.now in
    let now = g.K.Lookup.keeping c.finish.new.keeper in
    let fits : SFits w64 c.args.at = c.ranges.at in
    let o = c.begin_day.new.change in
    on_ok-map c.finish.result (FinishedBy c.args.at o k now c.args.steps.now c.finish.new.steps) (StartsDay c.args.at k now c.args.steps.now c.finish.new.steps)
    (start_done k now c.args.at c.in_ok-begin_day.field-0 o c.args.steps.now c.finish.new.steps (rw c.in_ok-begin_day.ensures.reads.same at c.finish.ensures.known)
    (rw (c.new-change.ensures, to_z-of_z w64 c.args.at fits) at c.in_ok-begin_day.ensures.reads.told))
    (rw (c.in_ok-begin_day.ensures.reads.same, to_z-of_z w64 c.args.at fits) at c.finish.ensures.ok)

pub returns-clause-refused : goal.returns-clause-refused
returns-clause-refused g c =
    let k = g.K.Lookup.keeping c.args.keeper.now in
    let fits : SFits w64 c.args.at = c.ranges.at in
    let o = c.begin_day.new.change in
    start_answered k c.args.at c.in_ok-begin_day.field-0 o c.finish.result (rw c.in_ok-begin_day.ensures.reads.same at c.finish.ensures.known)
    (rw (c.new-change.ensures, to_z-of_z w64 c.args.at fits) at c.in_ok-begin_day.ensures.reads.told)
    (rw (c.in_ok-begin_day.ensures.reads.same, to_z-of_z w64 c.args.at fits) at c.finish.ensures.refused)

pub returns-clause-cause : goal.returns-clause-cause
returns-clause-cause g c = cause_after c.in_ok-begin_day.ensures.reads.cause.goes c.finish.ensures.cause
