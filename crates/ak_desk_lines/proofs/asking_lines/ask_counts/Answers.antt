use Rattle.std.specs.Prelude.{◌≡◌, Some}
use Rattle.std.proofs.Common.{rules, refl, w64, SFits}
use Rattle.std.proofs.lemmas.Int.{to_z-of_z}
use Rattle.std.proofs.lemmas.Result.{err_from_is_err_and}
use Rattle.ak_desk_lines.proofs.AskedQueues.{counts_held, queue_line, unstarted_line}
use Rattle.ak_desk_lines.specs.Accepted.{TellsCounts, counts_answer}
use Rattle.ak_desk_lines.specs.DeskStates.{state_of}
use Rattle.ak_desk_language.specs.declared.desk_lines.DeskLine.TheVariants as lines
use Rattle.ak_queue.specs.Queues.{counts_in}
use Rattle.ak_desk_lines.proofs.asking_lines.ask_counts.Goals as goal

pub returns-in_err-day-clause-ends : goal.returns-in_err-day-clause-ends
returns-in_err-day-clause-ends g c =
    let at : SFits w64 c.args.turn.at = search rules in
    let p = err_from_is_err_and c.from_residual.result c.from_residual.ensures.1 in
    rw (p.1, p.2) (unstarted_line (lines.Counts c.args.deck) c.args.turn c.args.deck (state_of g.K.Lookup c.args.desk.now) _ c.in_err-day.field-0.0
    (λ d by. by) (λ left. left) (λ is. is) (rw (to_z-of_z w64 c.args.turn.at at) at c.in_err-day.ensures.refused) c.in_err-day.ensures.listed
    c.in_err-day.ensures.err c.in_err-day.ensures.kept)

pub returns-clause-ends : goal.returns-clause-ends
returns-clause-ends g c =
    let deck : SFits w64 c.args.deck = c.ranges.deck in
    let at : SFits w64 c.args.turn.at = search rules in
    let was = state_of g.K.Lookup c.args.desk.now in
    let mid = state_of g.K.Lookup c.start_on.new.desk in
    rw (c.asked_counts.ensures)
    (queue_line (lines.Counts c.args.deck) c.args.turn c.args.deck was mid _ c.in_ok-day.day c.counts.result counts_answer
    (λ counts h. counts_in h c.in_ok-day.day c.args.deck ≡ Some counts) (TellsCounts c.args.deck)
    (λ d told is. is) (λ d result by. by) (λ fault left. left) (λ fault is. is) tt (λ counts. (counts.new_cards, counts.learning, counts.reviews, refl))
    (λ value h is. (value, is, refl)) (λ card h is. counts_held h c.in_ok-day.day c.args.deck card is)
    (rw (to_z-of_z w64 c.args.turn.at at) at c.in_ok-day.ensures.day) (rw (to_z-of_z w64 c.args.turn.at at) at c.in_ok-day.ensures.ok)
    (rw (to_z-of_z w64 c.args.turn.at at) at c.in_ok-day.ensures.refused) c.start_on.ensures.stays
    c.counts.ensures.same refl
    (rw (to_z-of_z w64 c.args.deck deck) at c.counts.ensures.told) (rw (to_z-of_z w64 c.args.deck deck) at c.counts.ensures.missed) (rw (to_z-of_z w64 c.args.deck deck) at c.counts.ensures.others))
