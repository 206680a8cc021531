use Rattle.std.proofs.Common.{rules, refl, w64, SFits}
use Rattle.std.proofs.lemmas.Int.{to_z-of_z}
use Rattle.ak_desk_lines.proofs.EndedLines.{edit_line}
use Rattle.ak_desk_lines.specs.DeskStates.{state_of}
use Rattle.ak_desk_language.specs.declared.desk_lines.DeskLine.TheVariants as lines
use Rattle.ak_options.specs.Spreads.{RefusesSpread, spreading}
use Rattle.ak_desk_lines.proofs.option_lines.set_spread.Goals as goal

pub returns-clause-ends : goal.returns-clause-ends
returns-clause-ends g c =
    let spread : SFits w64 c.args.spread = c.ranges.spread in
    let at : SFits w64 c.args.turn.at = search rules in
    let was = state_of g.K.Lookup c.args.desk.now in
    let now = state_of g.K.Lookup c.set_spread.new.self in
    rw (c.finished.ensures)
    (edit_line (lines.SetSpread c.args.spread) c.args.turn was now (spreading c.args.spread) (RefusesSpread c.args.turn.at c.args.spread) c.set_spread.result
    (λ d is. (is, refl)) (λ d result by. by) (λ fault same. same) tt refl c.set_spread.ensures.listed
    (rw (to_z-of_z w64 c.args.spread spread, to_z-of_z w64 c.args.turn.at at) at c.set_spread.ensures.edits))
