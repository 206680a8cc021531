use Rattle.std.proofs.Common.{rules, refl, w64, SFits}
use Rattle.std.proofs.lemmas.Int.{to_z-of_z}
use Rattle.ak_desk_lines.proofs.EndedLines.{call_line, done_by}
use Rattle.ak_desk_lines.specs.Accepted.{EditsType, done_answer}
use Rattle.ak_desk_lines.specs.DeskStates.{state_of}
use Rattle.ak_desk_language.specs.declared.desk_lines.DeskLine.TheVariants as lines
use Rattle.ak_types.specs.TypeEdits.{RefusesTypeEdit}
use Rattle.ak_desk_lines.proofs.type_lines.edit_type.Goals as goal

pub returns-clause-ends : goal.returns-clause-ends
returns-clause-ends g c =
    let at : SFits w64 c.args.turn.at = search rules in
    let was = state_of g.K.Lookup c.args.desk.now in
    let now = state_of g.K.Lookup c.edit_note_type.new.self in
    rw (c.finished.ensures)
    (call_line _ (lines.EditType c.args.given.now.allow c.args.given.now.note_type c.args.given.now.from_fields c.args.given.now.from_templates) c.args.turn was now c.edit_note_type.result done_answer
    (λ _ d. EditsType c.args.turn.at c.args.given.now d was now) (RefusesTypeEdit c.args.turn.at c.args.given.now)
    (λ _ d is. (is, refl)) (λ d result by. by) (λ fault same. same) tt (λ _. refl) c.edit_note_type.ensures.listed
    (done_by was.keeping (λ d. EditsType c.args.turn.at c.args.given.now d was now) c.edit_note_type.result (rw (to_z-of_z w64 c.args.turn.at at) at c.edit_note_type.ensures.ok))
    (rw (to_z-of_z w64 c.args.turn.at at) at c.edit_note_type.ensures.refused)
    c.edit_note_type.ensures.err c.edit_note_type.ensures.kept c.edit_note_type.ensures.stays)
