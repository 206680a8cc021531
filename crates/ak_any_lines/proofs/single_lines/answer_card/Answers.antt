use Rattle.std.proofs.Common.{w64, SFits}
use Rattle.std.proofs.lemmas.Int.{to_z-of_z}
use Rattle.ak_desk_lines.proofs.EndedLines.{answered_cause}
use Rattle.ak_any_lines.proofs.single_lines.answer_card.Goals as goal

pub returns-clause-ends : goal.returns-clause-ends
returns-clause-ends g c =
    let at : SFits w64 c.args.at = c.ranges.at in
    (c.answer_any.result, rw (to_z-of_z w64 c.args.at at) at c.answer_any.ensures.ends, c.answered.ensures)

pub returns-clause-cause : goal.returns-clause-cause
returns-clause-cause g c = rw (c.answered.ensures) (answered_cause _ c.answer_any.result _ _ c.answer_any.ensures.cause)

pub returns-clause-stays : goal.returns-clause-stays
returns-clause-stays g c = c.answer_any.ensures.ends.stays
