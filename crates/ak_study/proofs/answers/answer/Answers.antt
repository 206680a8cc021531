use Rattle.std.proofs.Common.{inr, w64, SFits}
use Rattle.std.proofs.lemmas.Int.{to_z-of_z}
use Rattle.std.proofs.lemmas.Result.{err_from_is_err_and}
use Rattle.ak_base.specs.declared.cards.Card.{Card}
use Rattle.ak_study.proofs.AnswerFaults.{later_cause}
use Rattle.ak_study.proofs.AnsweredEnds.{answer_accepted, answer_done, answer_failed, ask_failed}
use Rattle.ak_study.specs.declared.answers.Filled.{Filled}
use Rattle.ak_study.proofs.answers.answer.Goals as goal

pub returns-in_err-filled-clause-refused : goal.returns-in_err-filled-clause-refused
returns-in_err-filled-clause-refused g c =
    let at : SFits w64 c.args.at = c.ranges.at in
    let p = err_from_is_err_and c.from_residual.result c.from_residual.ensures.1 in
    rw (p.1, p.2)
    (ask_failed Filled Card (g.K.Lookup.keeping c.args.keeper.now) c.args.at c.args.given.now c.in_err-filled.field-0.0 (rw (to_z-of_z w64 c.args.at at) at c.in_err-filled.ensures.refused))

pub returns-clause-ok : goal.returns-clause-ok
returns-clause-ok g c =
    let at : SFits w64 c.args.at = c.ranges.at in
    answer_done (g.K.Lookup.keeping c.args.keeper.now) (g.K.Lookup.keeping c.finish.new.keeper) c.args.at c.args.given.now c.in_ok-filled.filled c.args.steps.now c.finish.new.steps
    (rw (to_z-of_z w64 c.args.at at) at c.in_ok-filled.ensures.ok) c.in_ok-filled.ensures.only (rw c.fill_answer.ensures.same at c.finish.ensures.known)
    (rw (c.fill_answer.ensures.same, to_z-of_z w64 c.args.at at) at c.in_ok-finish.ensures.ok)

pub returns-clause-refused : goal.returns-clause-refused
returns-clause-refused g c =
    let at : SFits w64 c.args.at = c.ranges.at in
    answer_accepted (g.K.Lookup.keeping c.args.keeper.now) c.args.at c.args.given.now c.in_ok-filled.filled tt c.in_ok-filled.filled.answering.made
    (rw (to_z-of_z w64 c.args.at at) at c.in_ok-filled.ensures.ok) c.in_ok-filled.ensures.only (rw c.fill_answer.ensures.same at c.finish.ensures.known)
    (rw (to_z-of_z w64 c.args.at at) at c.in_ok-filled.ensures.refused)
    (rw (c.fill_answer.ensures.same, to_z-of_z w64 c.args.at at) at c.in_ok-finish.ensures.refused)

pub returns-in_err-finish-clause-refused : goal.returns-in_err-finish-clause-refused
returns-in_err-finish-clause-refused g c =
    let at : SFits w64 c.args.at = c.ranges.at in
    let p = err_from_is_err_and c.from_residual-in_err-finish.result c.from_residual-in_err-finish.ensures.1 in
    rw (p.1, p.2)
    (answer_failed (Unit {0}) Card (g.K.Lookup.keeping c.args.keeper.now) c.args.at c.args.given.now c.in_ok-filled.filled c.in_err-finish.field-0.0
    (rw (to_z-of_z w64 c.args.at at) at c.in_ok-filled.ensures.ok) c.in_ok-filled.ensures.only (rw c.fill_answer.ensures.same at c.finish.ensures.known)
    (rw (to_z-of_z w64 c.args.at at) at c.in_ok-filled.ensures.refused)
    (rw (c.fill_answer.ensures.same, to_z-of_z w64 c.args.at at) at c.in_err-finish.ensures.refused))

pub returns-in_err-finish-clause-cause : goal.returns-in_err-finish-clause-cause
returns-in_err-finish-clause-cause g c =
    let p = err_from_is_err_and c.from_residual-in_err-finish.result c.from_residual-in_err-finish.ensures.1 in
    rw (p.1, p.2) (later_cause _ _ _ _ _ c.in_err-finish.field-0.0 c.in_ok-filled.ensures.cause.goes c.in_err-finish.ensures.cause)

pub returns-in_err-finish-clause-listed : goal.returns-in_err-finish-clause-listed
returns-in_err-finish-clause-listed g c =
    let p = err_from_is_err_and c.from_residual-in_err-finish.result c.from_residual-in_err-finish.ensures.1 in
    rw (p.1, p.2) (inr c.in_err-finish.ensures.listed)
