use Rattle.std.proofs.Common.{w64, SFits}
use Rattle.std.proofs.lemmas.Int.{to_z-of_z}
use Rattle.ak_any_lines.proofs.filtered_calls.answer_any.Goals as goal

pub returns-clause-ends : goal.returns-clause-ends
returns-clause-ends g c =
    let at : SFits w64 c.args.at = c.ranges.at in
    record { ends = rw (to_z-of_z w64 c.args.at at) at c.answer_any.ensures.ends; listed = c.answer_any.ensures.listed; stays = c.answer_any.ensures.stays }
