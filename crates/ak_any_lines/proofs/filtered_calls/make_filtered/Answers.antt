use Rattle.std.proofs.Common.{w64, SFits}
use Rattle.std.proofs.lemmas.Int.{to_z-of_z}
use Rattle.ak_any_lines.proofs.CalledEnds.{call_ends}
use Rattle.ak_desk_lines.specs.DeskStates.{state_of}
use Rattle.ak_any_lines.proofs.filtered_calls.make_filtered.Goals as goal

pub returns-clause-ends : goal.returns-clause-ends
returns-clause-ends g c =
    let at : SFits w64 c.args.at = c.ranges.at in
    call_ends _ _ _ (state_of g.K.Lookup c.args.desk.now) _ c.make_filtered.result
    (rw (to_z-of_z w64 c.args.at at) at c.make_filtered.ensures.ok) c.make_filtered.ensures.err c.make_filtered.ensures.kept
    (rw (to_z-of_z w64 c.args.at at) at c.make_filtered.ensures.refused) c.make_filtered.ensures.listed c.make_filtered.ensures.stays
