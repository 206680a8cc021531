use Rattle.std.proofs.Common.{w64, SFits, rules}
use Rattle.std.proofs.lemmas.Int.{to_z-of_z}
use Rattle.ak_away_answers.proofs.AnyEnds.{any_outside, at_home}
use Rattle.ak_away_answers.specs.Answering.{IsAskedOn}
use Rattle.ak_edit.specs.DeskFaults.{of_keep_fault}
use Rattle.ak_keep.specs.Keepers.{WhereTold}
use Rattle.ak_study.proofs.AnswerFaults.{from_keeper}
use Rattle.ak_away_answers.proofs.away_answers.answer_any.Goals as goal

pub returns-in-Err-clause-ends : goal.returns-in-Err-clause-ends
returns-in-Err-clause-ends g c =
    rw (c.in-Err.ensures.reads.same, c.from.ensures)
    (any_outside (g.K.Lookup.keeping c.args.keeper.now) c.args.at c.args.given.now c.args.steps.now (of_keep_fault c.in-Err.fault) (from_keeper c.in-Err.fault))

pub answer_away-requires-clause-asked : goal.answer_away-requires-clause-asked
answer_away-requires-clause-asked g c =
    let at : SFits w64 c.args.at = c.ranges.at in
    let card : SFits w64 c.args.given.now.card = search rules in
    let told : WhereTold (g.K.Lookup.keeping c.args.keeper.now) (IsAskedOn c.args.at c.args.given.now.card c.in-Some.asked) =
    rw (c.in-Some.is, to_z-of_z w64 c.args.at at, to_z-of_z w64 c.args.given.now.card card) at c.in-Ok.ensures.reads.told in
    rw (c.in-Ok.ensures.reads.same, to_z-of_z w64 c.args.at at) told

pub returns-in-Some-clause-ends : goal.returns-in-Some-clause-ends
returns-in-Some-clause-ends g c =
    let at : SFits w64 c.args.at = c.ranges.at in
    rw (c.in-Ok.ensures.reads.same, to_z-of_z w64 c.args.at at) at c.answer_away.ensures.ends

pub returns-in-None-clause-ends : goal.returns-in-None-clause-ends
returns-in-None-clause-ends g c =
    let at : SFits w64 c.args.at = c.ranges.at in
    let card : SFits w64 c.args.given.now.card = search rules in
    at_home (g.K.Lookup.keeping c.args.keeper.now) (g.K.Lookup.keeping c.answer.new.keeper) c.args.at c.args.given.now c.args.steps.now c.answer.new.steps c.answer.result
    (rw (c.in-None.is, to_z-of_z w64 c.args.given.now.card card) at c.in-Ok.ensures.reads.told) (rw (c.in-Ok.ensures.reads.same, to_z-of_z w64 c.args.at at) at c.answer.ensures.ok)
    (rw c.in-Ok.ensures.reads.same at c.answer.ensures.err) c.answer.ensures.kept (rw (c.in-Ok.ensures.reads.same, to_z-of_z w64 c.args.at at) at c.answer.ensures.refused)
