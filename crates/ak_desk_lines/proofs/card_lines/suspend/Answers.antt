use Rattle.std.proofs.Common.{rules, refl, w64, SFits}
use Rattle.std.proofs.lemmas.Int.{to_z-of_z}
use Rattle.ak_edit_calls.specs.CardEdits.{RefusesCardEdit, card_edit}
use Rattle.ak_desk_lines.proofs.EndedLines.{edit_line}
use Rattle.ak_desk_lines.specs.DeskStates.{state_of}
use Rattle.ak_desk_language.specs.declared.desk_lines.DeskLine.TheVariants as lines
use Rattle.ak_study.specs.CardPlaces.{suspended}
use Rattle.ak_desk_lines.proofs.card_lines.suspend.Goals as goal

pub returns-clause-ends : goal.returns-clause-ends
returns-clause-ends g c =
    let at : SFits w64 c.args.turn.at = search rules in
    let was = state_of g.K.Lookup c.args.desk.now in
    let now = state_of g.K.Lookup c.suspend.new.self in
    rw (c.finished.ensures)
    (edit_line (lines.Suspend c.args.cards.now) c.args.turn was now (card_edit suspended c.args.cards.now) (RefusesCardEdit c.args.turn.at suspended c.args.cards.now) c.suspend.result
    (λ d is. (is, refl)) (λ d result by. by) (λ fault same. same) tt refl c.suspend.ensures.listed
    (rw (c.as_slice.ensures, to_z-of_z w64 c.args.turn.at at) at c.suspend.ensures.edits))
