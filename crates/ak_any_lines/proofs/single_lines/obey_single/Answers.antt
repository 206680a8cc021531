use Rattle.std.proofs.Common.{rules, sym, w64, SFits}
use Rattle.std.proofs.lemmas.Int.{to_z-of_z}
use Rattle.ak_any_lines.proofs.FirstLines.{answer_filters, single_given, single_other}
use Rattle.ak_desk_lines.specs.DeskStates.{state_of}
use Rattle.ak_any_lines.proofs.single_lines.obey_single.Goals as goal

pub returns-in-Some-clause-ends : goal.returns-in-Some-clause-ends
returns-in-Some-clause-ends g c =
    let at : SFits w64 c.args.turn.at = search rules in
    single_given c.args.line c.args.turn (state_of g.K.Lookup c.args.desk.now) _ c.answer_card.result c.in-Some.given (sym c.in-Some.ensures.given)
    (rw (to_z-of_z w64 c.args.turn.at at) at c.answer_card.ensures.ends)

pub returns-in-Some-clause-filters : goal.returns-in-Some-clause-filters
returns-in-Some-clause-filters g c =
    answer_filters c.args.line c.args.turn c.in-Some.given _ _ c.answer_card.result (sym c.in-Some.ensures.given)

pub returns-in-None-clause-ends : goal.returns-in-None-clause-ends
returns-in-None-clause-ends g c =
    single_other c.args.line c.args.turn (state_of g.K.Lookup c.args.desk.now) _ c.obey_after_first.result (sym c.in-None.ensures.given)
    c.obey_after_first.ensures.ends
