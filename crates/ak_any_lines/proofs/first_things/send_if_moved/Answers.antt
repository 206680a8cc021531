use Rattle.std.proofs.Common.{sym, w64, SFits}
use Rattle.std.proofs.lemmas.Int.{to_z-of_z}
use Rattle.ak_any_lines.proofs.FirstLines.{sends_moved, sends_none}
use Rattle.ak_desk_lines.specs.DeskStates.{state_of}
use Rattle.ak_any_lines.proofs.first_things.send_if_moved.Goals as goal

pub returns-in-Some-clause-sends : goal.returns-in-Some-clause-sends
returns-in-Some-clause-sends g c =
    let at : SFits w64 c.args.at = c.ranges.at in
    sends_moved c.args.line.now c.args.at (state_of g.K.Lookup c.args.desk.now) _ c.send_first.result c.in-Some.cards.now
    (sym c.in-Some.ensures) (rw (to_z-of_z w64 c.args.at at) at c.send_first.ensures.sends)

pub returns-in-Some-clause-stays : goal.returns-in-Some-clause-stays
returns-in-Some-clause-stays g c = c.send_first.ensures.sends.stays

pub returns-in-None-clause-sends : goal.returns-in-None-clause-sends
returns-in-None-clause-sends g c =
    sends_none c.args.line.now c.args.at (state_of g.K.Lookup c.args.desk.now) (sym c.in-None.ensures)
