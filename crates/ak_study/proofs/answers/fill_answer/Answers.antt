use Rattle.std.proofs.Common.{rules, w64, SFits}
use Rattle.std.proofs.lemmas.Int.{to_z-of_z}
use Rattle.std.proofs.lemmas.Result.{err_from_is_err_and}
use Rattle.ak_edit.specs.DeskFaults.{of_keep_fault}
use Rattle.ak_faults.proofs.Healths.{goes_further}
use Rattle.ak_study.proofs.AnswerFaults.{cause_ok, failed_told, from_keeper, outside_told, passed_told}
use Rattle.ak_study.proofs.AskedKeepers.{fill_told}
use Rattle.ak_study.specs.Answers.{RefusesAsked}
use Rattle.ak_study.specs.declared.answers.Asked.{Asked}
use Rattle.ak_study.specs.declared.answers.Filled.{Filled}
use Rattle.ak_study.proofs.answers.fill_answer.Goals as goal

pub returns-in_err-asked-clause-refused : goal.returns-in_err-asked-clause-refused
returns-in_err-asked-clause-refused g c =
    let at : SFits w64 c.args.at = c.ranges.at in
    let card : SFits w64 c.args.given.now.card = search rules in
    let p = err_from_is_err_and c.from_residual.result c.from_residual.ensures.1 in
    rw (p.1, p.2)
    (failed_told Asked Filled (g.K.Lookup.keeping c.args.keeper.now) (RefusesAsked c.args.at c.args.given.now.card) c.in_err-asked.field-0.0
    (rw (to_z-of_z w64 c.args.at at, to_z-of_z w64 c.args.given.now.card card) at c.in_err-asked.ensures.refused))

pub returns-clause-ok : goal.returns-clause-ok
returns-clause-ok g c =
    let at : SFits w64 c.args.at = c.ranges.at in
    let card : SFits w64 c.args.given.now.card = search rules in
    fill_told (g.K.Lookup.keeping c.args.keeper.now) c.args.at c.args.given.now c.in_ok-asked.asked c.in_ok-filled.filled
    (rw (to_z-of_z w64 c.args.at at, to_z-of_z w64 c.args.given.now.card card) at c.in_ok-asked.ensures.ok)
    (rw c.ask.ensures.same at c.in_ok-filled.ensures.reads.told)

pub returns-clause-refused : goal.returns-clause-refused
returns-clause-refused g c =
    let at : SFits w64 c.args.at = c.ranges.at in
    let card : SFits w64 c.args.given.now.card = search rules in
    passed_told Asked Filled (g.K.Lookup.keeping c.args.keeper.now) (RefusesAsked c.args.at c.args.given.now.card) c.in_ok-asked.asked c.in_ok-filled.filled
    (rw (to_z-of_z w64 c.args.at at, to_z-of_z w64 c.args.given.now.card card) at c.in_ok-asked.ensures.refused)

pub returns-in_err-filled-clause-refused : goal.returns-in_err-filled-clause-refused
returns-in_err-filled-clause-refused g c =
    let p = err_from_is_err_and c.from_residual-in_err-filled.result c.from_residual-in_err-filled.ensures.1 in
    rw (p.1, p.2) (outside_told Filled (g.K.Lookup.keeping c.args.keeper.now) (RefusesAsked c.args.at c.args.given.now.card) (of_keep_fault c.in_err-filled.field-0.0) (from_keeper c.in_err-filled.field-0.0))

pub returns-clause-cause : goal.returns-clause-cause
returns-clause-cause g c = cause_ok _ (goes_further c.in_ok-asked.ensures.cause.goes c.in_ok-filled.ensures.reads.cause.goes)
