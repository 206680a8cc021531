use Rattle.std.proofs.Common.{w64, SFits}
use Rattle.std.proofs.lemmas.Int.{to_z-of_z}
use Rattle.ak_any_lines.proofs.CalledEnds.{call_ends}
use Rattle.ak_desk_lines.specs.DeskStates.{state_of}
use Rattle.ak_any_lines.proofs.filtered_calls.build.Goals as goal

pub returns-clause-ends : goal.returns-clause-ends
returns-clause-ends g c =
    let at : SFits w64 c.args.at = c.ranges.at in
    let deck : SFits w64 c.args.deck = c.ranges.deck in
    call_ends _ _ _ (state_of g.K.Lookup c.args.desk.now) _ c.build.result
    (rw (to_z-of_z w64 c.args.at at, to_z-of_z w64 c.args.deck deck) at c.build.ensures.ok) c.build.ensures.err c.build.ensures.kept
    (rw (to_z-of_z w64 c.args.at at, to_z-of_z w64 c.args.deck deck) at c.build.ensures.refused) (rw (to_z-of_z w64 c.args.deck deck) at c.build.ensures.listed) c.build.ensures.stays

pub returns-clause-listed : goal.returns-clause-listed
returns-clause-listed g c =
    let deck : SFits w64 c.args.deck = c.ranges.deck in
    rw (to_z-of_z w64 c.args.deck deck) at c.build.ensures.listed
