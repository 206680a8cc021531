use Rattle.std.proofs.Common.{◌≡◌, true, false, inl, inr, refl, rules, w64, SFits}
use Rattle.std.proofs.lemmas.Int.{to_z-of_z}
use Rattle.ak_away_answers.proofs.AnyEnds.{away_early, away_from_home, away_refused, early_listed, is_held_asked}
use Rattle.ak_away_answers.specs.AwayAnswers.{can_answer_away}
use Rattle.ak_away_answers.specs.EarlyAnswers.{is_early}
use Rattle.ak_away_answers.proofs.away_answers.answer_away.Goals as goal

pub answer_early-requires-clause-asked : goal.answer_early-requires-clause-asked
answer_early-requires-clause-asked g c = is_held_asked (g.K.Lookup.keeping c.args.keeper.now) c.args.at c.args.given.now.card c.args.asked.now c.requires.asked

pub returns-then-not-can_answer_away-clause-ends : goal.returns-then-not-can_answer_away-clause-ends
returns-then-not-can_answer_away-clause-ends g c =
    let queue : SFits w64 c.args.asked.now.card.queue = search rules in
    let not : can_answer_away c.args.asked.now.card ≡ false = search rules in
    rw (to_z-of_z w64 c.args.asked.now.card.queue queue) (away_refused (g.K.Lookup.keeping c.args.keeper.now) c.args.at c.args.given.now c.args.asked.now c.args.steps.now not c.requires.asked)

pub returns-then-not-can_answer_away-clause-listed : goal.returns-then-not-can_answer_away-clause-listed
returns-then-not-can_answer_away-clause-listed g c = inl (inl (inr (_, refl)))

pub returns-then-is_early-clause-ends : goal.returns-then-is_early-clause-ends
returns-then-is_early-clause-ends g c =
    let at : SFits w64 c.args.at = c.ranges.at in
    let can : can_answer_away c.args.asked.now.card ≡ true = search rules in
    let early : is_early c.args.asked.now.day c.args.given.now.button c.args.asked.now.card ≡ true = search rules in
    away_early (g.K.Lookup.keeping c.args.keeper.now) (g.K.Lookup.keeping c.answer_early.new.keeper) c.args.at c.args.given.now c.args.asked.now c.args.steps.now c.answer_early.new.steps c.answer_early.result can early c.requires.asked
    (rw (to_z-of_z w64 c.args.at at) at c.answer_early.ensures.ends)

pub returns-then-is_early-clause-listed : goal.returns-then-is_early-clause-listed
returns-then-is_early-clause-listed g c = early_listed c.args.given.now.card c.answer_early.result c.answer_early.ensures.listed

pub returns-clause-ends : goal.returns-clause-ends
returns-clause-ends g c =
    let at : SFits w64 c.args.at = c.ranges.at in
    let can : can_answer_away c.args.asked.now.card ≡ true = search rules in
    let late : is_early c.args.asked.now.day c.args.given.now.button c.args.asked.now.card ≡ false = search rules in
    away_from_home (g.K.Lookup.keeping c.args.keeper.now) (g.K.Lookup.keeping c.answer_from_home.new.keeper) c.args.at c.args.given.now c.args.asked.now c.args.steps.now c.answer_from_home.new.steps c.answer_from_home.result can late
    c.requires.asked (rw (to_z-of_z w64 c.args.at at) at c.answer_from_home.ensures.ends)
