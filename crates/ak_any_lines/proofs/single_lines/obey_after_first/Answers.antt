use Rattle.std.proofs.Common.{refl, ◌∙◌}
use Rattle.std.specs.Prelude.{Ok, Err}
use Rattle.std.proofs.lemmas.Result.{err_from_is_err_and}
use Rattle.ak_any_lines.proofs.CalledEnds.{idle_still}
use Rattle.ak_any_lines.proofs.FirstLines.{filters_then, stopped_filters}
use Rattle.ak_desk_lines.specs.DeskStates.{state_of}
use Rattle.ak_any_lines.proofs.single_lines.obey_after_first.Goals as goal

pub obey-requires-clause-idle : goal.obey-requires-clause-idle
obey-requires-clause-idle g c = idle_still _ _ c.in_ok-go_first.ensures.stays c.requires.idle

pub returns-in_err-go_first-clause-ends : goal.returns-in_err-go_first-clause-ends
returns-in_err-go_first-clause-ends g c =
    let p = err_from_is_err_and c.from_residual.result c.from_residual.ensures.1 in
    rw (p.1, p.2) (_, Err c.in_err-go_first.field-0.0, c.in_err-go_first.ensures.first, (refl, refl))

pub returns-in_err-go_first-clause-filters : goal.returns-in_err-go_first-clause-filters
returns-in_err-go_first-clause-filters g c =
    let p = err_from_is_err_and c.from_residual.result c.from_residual.ensures.1 in
    rw (p.1, p.2) (stopped_filters c.args.line c.args.turn.at (state_of g.K.Lookup c.args.desk.now) _ c.in_err-go_first.field-0.0 _ c.in_err-go_first.ensures.first)

pub returns-clause-ends : goal.returns-clause-ends
returns-clause-ends g c = (_, Ok tt, c.in_ok-go_first.ensures.first, c.obey.ensures.ends)

pub returns-clause-filters : goal.returns-clause-filters
returns-clause-filters g c =
    filters_then c.args.line c.args.turn.at (state_of g.K.Lookup c.args.desk.now) _ _ _ c.obey.result c.in_ok-go_first.ensures.first c.obey.ensures.filters

pub returns-clause-stays : goal.returns-clause-stays
returns-clause-stays g c = c.obey.ensures.ends.stays ∙ c.in_ok-go_first.ensures.stays
