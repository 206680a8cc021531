use Rattle.std.specs.Prelude.{Ok, Err}
use Rattle.std.proofs.Common.{w64, SFits}
use Rattle.std.proofs.lemmas.Int.{to_z-of_z}
use Rattle.std.proofs.lemmas.Result.{err_from_is_err_and}
use Rattle.ak_base.specs.declared.days.Day.{Day}
use Rattle.ak_edit_calls.proofs.Telling.{where_held-map}
use Rattle.ak_edit_calls.proofs.Taking.{err_too, ok_too}
use Rattle.ak_edit.specs.Refusals.{AnswersBy}
use Rattle.ak_study.specs.DayStarts.{RefusesStart}
use Rattle.ak_desk_lines.proofs.asking_lines.start_on.Goals as goal

pub returns-clause-refused : goal.returns-clause-refused
returns-clause-refused g c =
    let at : SFits w64 c.args.at = c.ranges.at in
    where_held-map (g.K.Lookup.keeping c.args.desk.now.keeper.now) (λ d. AnswersBy (RefusesStart c.args.at d) (Ok c.in_ok-start_day.field-0))
    (λ d. AnswersBy (RefusesStart c.args.at d) (Ok c.in-Ok.day))
    (λ d by. ok_too (RefusesStart c.args.at d) c.in_ok-start_day.field-0 c.in-Ok.day by)
    (rw (c.in-Ok.ensures.reads.same, to_z-of_z w64 c.args.at at) at c.in_ok-start_day.ensures.refused)

pub returns-in_err-start_day-clause-refused : goal.returns-in_err-start_day-clause-refused
returns-in_err-start_day-clause-refused g c =
    let at : SFits w64 c.args.at = c.ranges.at in
    let p = err_from_is_err_and c.from_residual.result c.from_residual.ensures.1 in
    rw (p.1, p.2) (where_held-map (g.K.Lookup.keeping c.args.desk.now.keeper.now) (λ d. AnswersBy {T = Unit {0}} (RefusesStart c.args.at d) (Err c.in_err-start_day.field-0.0))
    (λ d. AnswersBy {T = Day} (RefusesStart c.args.at d) (Err c.in_err-start_day.field-0.0))
    (λ d by. err_too (RefusesStart c.args.at d) c.in_err-start_day.field-0.0 by)
    (rw (c.in-Ok.ensures.reads.same, to_z-of_z w64 c.args.at at) at c.in_err-start_day.ensures.refused))
