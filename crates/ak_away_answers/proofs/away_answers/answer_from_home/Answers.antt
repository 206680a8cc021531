use Rattle.std.proofs.Common.{Bool, true, false, [], ◌∷◌, Ok, inr, rules, w64, SFits}
use Rattle.std.proofs.lemmas.Int.{to_z-of_z}
use Rattle.std.proofs.lemmas.Result.{err_from_is_err_and}
use Rattle.ak_away_answers.proofs.AnyEnds.{answer_ends, none_from_home, refused_from_home, some_from_home}
use Rattle.ak_away_answers.specs.Answering.{EndsSentHome}
use Rattle.ak_away_answers.specs.AwayAnswers.{EndsAnswer}
use Rattle.ak_filtered.specs.HomeGoings.{EndsSending}
use Rattle.ak_keep.specs.Keepers.{WhereHeld}
use Rattle.ak_away_answers.proofs.away_answers.answer_from_home.Goals as goal

pub returns-in_err-send_home-clause-ends : goal.returns-in_err-send_home-clause-ends
returns-in_err-send_home-clause-ends g c =
    let at : SFits w64 c.args.at = c.ranges.at in
    let card : SFits w64 c.args.given.now.card = search rules in
    let p = err_from_is_err_and c.from_residual.result c.from_residual.ensures.1 in
    rw (p.1, p.2, c.in_err-send_home.ensures.err, c.in_err-send_home.ensures.kept)
    (refused_from_home (g.K.Lookup.keeping c.args.keeper.now) c.args.at c.args.given.now c.args.steps.now c.in_err-send_home.field-0.0
    (rw (c.in_err-send_home.ensures.err, c.in_err-send_home.ensures.kept, to_z-of_z w64 c.args.at at, to_z-of_z w64 c.args.given.now.card card) at c.in_err-send_home.ensures.ends))

pub returns-in_err-send_home-clause-listed : goal.returns-in_err-send_home-clause-listed
returns-in_err-send_home-clause-listed g c =
    let p = err_from_is_err_and c.from_residual.result c.from_residual.ensures.1 in
    rw (p.1, p.2) (inr c.in_err-send_home.ensures.listed)

pub returns-clause-ends : goal.returns-clause-ends
returns-clause-ends g c =
    let at : SFits w64 c.args.at = c.ranges.at in
    let card : SFits w64 c.args.given.now.card = search rules in
    let k = g.K.Lookup.keeping c.args.keeper.now in
    let mid = g.K.Lookup.keeping c.send_home.new.keeper in
    let now = g.K.Lookup.keeping c.answer.new.keeper in
    let answered : WhereHeld mid (λ d. EndsAnswer c.args.at c.args.given.now d mid now c.send_home.new.steps c.answer.new.steps c.answer.result) =
    answer_ends mid now c.args.at c.args.given.now c.send_home.new.steps c.answer.new.steps c.answer.result (rw (to_z-of_z w64 c.args.at at) at c.answer.ensures.ok) c.answer.ensures.err c.answer.ensures.kept
    (rw (to_z-of_z w64 c.args.at at) at c.answer.ensures.refused) in
    elim c.in_ok-send_home.field-0 as (λ (b : Bool). WhereHeld k (λ d. EndsSending c.args.at (c.args.given.now.card ∷ []) d k mid c.args.steps.now c.send_home.new.steps (Ok b))
    → WhereHeld k (λ d. EndsSentHome c.args.at c.args.given.now d k now c.args.steps.now c.answer.new.steps c.answer.result)) [
      | true ↦ λ sent. some_from_home k mid now c.args.at c.args.given.now c.args.steps.now c.send_home.new.steps c.answer.new.steps c.answer.result sent answered
      | false ↦ λ none. none_from_home k mid now c.args.at c.args.given.now c.args.steps.now c.send_home.new.steps c.answer.new.steps c.answer.result none
    ] (rw (to_z-of_z w64 c.args.at at, to_z-of_z w64 c.args.given.now.card card) at c.in_ok-send_home.ensures.ends)
