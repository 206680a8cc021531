use Rattle.std.proofs.Common.{rules, refl, w64, SFits}
use Rattle.std.proofs.lemmas.Int.{to_z-of_z}
use Rattle.ak_decks.specs.Flags.{RefusesFlag, flagging}
use Rattle.ak_desk_lines.proofs.EndedLines.{edit_line}
use Rattle.ak_desk_lines.specs.DeskStates.{state_of}
use Rattle.ak_desk_language.specs.declared.desk_lines.DeskLine.TheVariants as lines
use Rattle.ak_desk_lines.proofs.card_lines.flag.Goals as goal

pub returns-clause-ends : goal.returns-clause-ends
returns-clause-ends g c =
    let value : SFits w64 c.args.value = c.ranges.value in
    let at : SFits w64 c.args.turn.at = search rules in
    let was = state_of g.K.Lookup c.args.desk.now in
    let now = state_of g.K.Lookup c.flag.new.self in
    rw (c.finished.ensures)
    (edit_line (lines.Flag c.args.value c.args.cards.now) c.args.turn was now (flagging c.args.value c.args.cards.now) (RefusesFlag c.args.turn.at c.args.value c.args.cards.now) c.flag.result
    (λ d is. (is, refl)) (λ d result by. by) (λ fault same. same) tt refl c.flag.ensures.listed
    (rw (c.as_slice.ensures, to_z-of_z w64 c.args.value value, to_z-of_z w64 c.args.turn.at at) at c.flag.ensures.edits))
