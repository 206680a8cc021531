use Rattle.std.proofs.Common.{rules, refl, w64, SFits}
use Rattle.std.proofs.lemmas.Int.{to_z-of_z}
use Rattle.ak_desk_lines.proofs.EndedLines.{call_line}
use Rattle.ak_desk_lines.specs.Accepted.{card_answer, given_answer}
use Rattle.ak_desk_lines.specs.DeskStates.{state_of}
use Rattle.ak_desk_language.specs.declared.desk_lines.DeskLine.TheVariants as lines
use Rattle.ak_study.specs.Answers.{IsAnswered, RefusesAnswer}
use Rattle.ak_desk_lines.proofs.asking_lines.answer_card.Goals as goal

pub returns-clause-ends : goal.returns-clause-ends
returns-clause-ends g c =
    let card : SFits w64 c.args.card = c.ranges.card in
    let at : SFits w64 c.args.turn.at = search rules in
    let was = state_of g.K.Lookup c.args.desk.now in
    let now = state_of g.K.Lookup c.answer.new.self in
    let given = given_answer c.args.turn c.args.card c.args.button c.args.taken in
    rw (c.answered.ensures)
    (call_line _ (lines.Answer c.args.card c.args.button c.args.taken) c.args.turn was now c.answer.result card_answer
    (λ made d. IsAnswered c.args.turn.at given d was.keeping now.keeping was.steps now.steps made) (RefusesAnswer c.args.turn.at given)
    (λ made d is. (made, is, refl)) (λ d result by. by) (λ fault same. same) tt (λ made. (made.queue, made.due, made.ivl, refl)) (rw (to_z-of_z w64 c.args.card card) at c.answer.ensures.listed)
    (rw (to_z-of_z w64 c.args.card card, to_z-of_z w64 c.args.turn.at at) at c.answer.ensures.ok) (rw (to_z-of_z w64 c.args.card card, to_z-of_z w64 c.args.turn.at at) at c.answer.ensures.refused)
    c.answer.ensures.err c.answer.ensures.kept c.answer.ensures.stays)
