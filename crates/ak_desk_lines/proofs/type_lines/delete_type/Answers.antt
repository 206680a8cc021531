use Rattle.std.proofs.Common.{rules, refl, w64, SFits}
use Rattle.std.proofs.lemmas.Int.{to_z-of_z}
use Rattle.ak_desk_lines.proofs.EndedLines.{edit_line}
use Rattle.ak_desk_lines.specs.DeskStates.{state_of}
use Rattle.ak_desk_language.specs.declared.desk_lines.DeskLine.TheVariants as lines
use Rattle.ak_types.specs.TypeDeletions.{RefusesDeletion, type_deletion}
use Rattle.ak_desk_lines.proofs.type_lines.delete_type.Goals as goal

pub returns-clause-ends : goal.returns-clause-ends
returns-clause-ends g c =
    let note_type : SFits w64 c.args.note_type = c.ranges.note_type in
    let at : SFits w64 c.args.turn.at = search rules in
    let was = state_of g.K.Lookup c.args.desk.now in
    let now = state_of g.K.Lookup c.delete_note_type.new.self in
    rw (c.finished.ensures)
    (edit_line (lines.DeleteType c.args.allow c.args.note_type) c.args.turn was now (type_deletion c.args.note_type) (RefusesDeletion c.args.turn.at c.args.note_type c.args.allow) c.delete_note_type.result
    (λ d is. (is, refl)) (λ d result by. by) (λ fault same. same) tt refl (rw (to_z-of_z w64 c.args.note_type note_type) at c.delete_note_type.ensures.listed)
    (rw (to_z-of_z w64 c.args.note_type note_type, to_z-of_z w64 c.args.turn.at at) at c.delete_note_type.ensures.edits))
