use Rattle.std.proofs.Common.{rules, refl, w64, SFits}
use Rattle.std.proofs.lemmas.Int.{to_z-of_z}
use Rattle.ak_desk_lines.proofs.EndedLines.{edit_line}
use Rattle.ak_desk_lines.specs.DeskStates.{state_of}
use Rattle.ak_desk_language.specs.declared.desk_lines.DeskLine.TheVariants as lines
use Rattle.ak_notes.specs.Deletions.{RefusesDeletion, deletion}
use Rattle.ak_desk_lines.proofs.note_lines.delete_notes.Goals as goal

pub returns-clause-ends : goal.returns-clause-ends
returns-clause-ends g c =
    let at : SFits w64 c.args.turn.at = search rules in
    let was = state_of g.K.Lookup c.args.desk.now in
    let now = state_of g.K.Lookup c.delete_notes.new.self in
    rw (c.finished.ensures)
    (edit_line (lines.DeleteNotes c.args.notes.now) c.args.turn was now (deletion c.args.notes.now) (RefusesDeletion c.args.turn.at c.args.notes.now) c.delete_notes.result
    (λ d is. (is, refl)) (λ d result by. by) (λ fault same. same) tt refl c.delete_notes.ensures.listed
    (rw (c.as_slice.ensures, to_z-of_z w64 c.args.turn.at at) at c.delete_notes.ensures.edits))
