use Rattle.std.proofs.Common.{rules, refl, w64, SFits}
use Rattle.std.proofs.lemmas.Int.{to_z-of_z}
use Rattle.ak_desk_lines.proofs.EndedLines.{call_line}
use Rattle.ak_desk_lines.specs.Accepted.{new_note, note_answer}
use Rattle.ak_desk_lines.specs.DeskStates.{state_of}
use Rattle.ak_desk_language.specs.declared.desk_lines.DeskLine.TheVariants as lines
use Rattle.ak_notes.specs.Additions.{IsAdded, RefusesAddition}
use Rattle.ak_desk_lines.proofs.note_lines.add_note.Goals as goal

pub returns-clause-ends : goal.returns-clause-ends
returns-clause-ends g c =
    let note_type : SFits w64 c.args.note_type = c.ranges.note_type in
    let deck : SFits w64 c.args.deck = c.ranges.deck in
    let at : SFits w64 c.args.turn.at = search rules in
    let was = state_of g.K.Lookup c.args.desk.now in
    let now = state_of g.K.Lookup c.add_note.new.self in
    let given = new_note c.args.turn c.args.note_type c.args.deck c.args.fields in
    rw (c.noted.ensures)
    (call_line _ (lines.AddNote c.args.note_type c.args.deck c.args.fields) c.args.turn was now c.add_note.result note_answer
    (λ added d. IsAdded c.args.turn.at given d was.keeping now.keeping was.steps now.steps added) (RefusesAddition c.args.turn.at given)
    (λ added d is. (added, is, refl)) (λ d result by. by) (λ fault same. same) tt (λ added. (added.note, added.cards, refl)) (rw (c.new.ensures, to_z-of_z w64 c.args.note_type note_type, to_z-of_z w64 c.args.deck deck) at c.add_note.ensures.listed)
    (rw (c.new.ensures, to_z-of_z w64 c.args.note_type note_type, to_z-of_z w64 c.args.deck deck, to_z-of_z w64 c.args.turn.at at) at c.add_note.ensures.ok)
    (rw (c.new.ensures, to_z-of_z w64 c.args.note_type note_type, to_z-of_z w64 c.args.deck deck, to_z-of_z w64 c.args.turn.at at) at c.add_note.ensures.refused)
    c.add_note.ensures.err c.add_note.ensures.kept c.add_note.ensures.stays)
