use Rattle.std.proofs.Common.{rules, sym, w64, SFits}
use Rattle.std.proofs.lemmas.Int.{to_z-of_z}
use Rattle.ak_any_lines.proofs.FirstLines.{first_dropped, first_other}
use Rattle.ak_desk_lines.specs.DeskStates.{state_of}
use Rattle.ak_any_lines.proofs.first_things.go_first.Goals as goal

pub returns-in-Some-clause-first : goal.returns-in-Some-clause-first
returns-in-Some-clause-first g c =
    let at : SFits w64 c.args.turn.at = search rules in
    let deck : SFits w64 c.in-Some.deck = search rules in
    first_dropped c.args.line.now c.args.turn.at (state_of g.K.Lookup c.args.desk.now) _ c.empty_first.result c.in-Some.deck (sym c.in-Some.ensures)
    (rw (to_z-of_z w64 c.args.turn.at at, to_z-of_z w64 c.in-Some.deck deck) at c.empty_first.ensures.empties)

pub returns-in-Some-clause-stays : goal.returns-in-Some-clause-stays
returns-in-Some-clause-stays g c = c.empty_first.ensures.empties.stays

pub returns-in-None-clause-first : goal.returns-in-None-clause-first
returns-in-None-clause-first g c =
    let at : SFits w64 c.args.turn.at = search rules in
    first_other c.args.line.now c.args.turn.at (state_of g.K.Lookup c.args.desk.now) _ c.send_if_moved.result (sym c.in-None.ensures)
    (rw (to_z-of_z w64 c.args.turn.at at) at c.send_if_moved.ensures.sends)
