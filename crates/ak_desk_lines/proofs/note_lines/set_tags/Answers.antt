use Rattle.std.proofs.Common.{rules, refl, w64, SFits}
use Rattle.std.proofs.lemmas.Int.{to_z-of_z}
use Rattle.std.proofs.lemmas.Result.{err_from_is_err_and}
use Rattle.ak_desk_lines.proofs.ChangedNotes.{changed_line, changed_listed, missing_listed, missing_note}
use Rattle.ak_desk_lines.proofs.EndedLines.{refused_line}
use Rattle.ak_desk_lines.specs.Accepted.{other_tags}
use Rattle.ak_desk_lines.specs.DeskStates.{state_of}
use Rattle.ak_desk_lines.specs.Refused.{RefusesChangedNote}
use Rattle.ak_desk_language.specs.declared.desk_lines.DeskLine.TheVariants as lines
use Rattle.ak_desk_lines.proofs.note_lines.set_tags.Goals as goal

pub returns-clause-ends : goal.returns-clause-ends
returns-clause-ends g c =
    let note : SFits w64 c.args.note = c.ranges.note in
    let at : SFits w64 c.args.turn.at = search rules in
    let was = state_of g.K.Lookup c.args.desk.now in
    let now = state_of g.K.Lookup c.edit_note.new.self in
    rw (c.finished.ensures)
    (changed_line (lines.SetTags c.args.note c.args.tags) c.args.turn c.args.note (λ held. other_tags held c.args.tags) was now (g.K.Lookup.keeping c.tags_edit.new.keeper) c.in_ok-given.given c.edit_note.result
    (λ d is. (is, refl)) (λ d result by. by) (λ fault same. same) tt refl
    (changed_listed c.args.note c.in_ok-given.given c.edit_note.result (rw (to_z-of_z w64 c.args.note note) at c.in_ok-given.ensures.note) c.edit_note.ensures.listed)
    (rw (to_z-of_z w64 c.args.note note) at c.in_ok-given.ensures.made) c.tags_edit.ensures.same
    (rw (to_z-of_z w64 c.args.turn.at at) at c.edit_note.ensures.ok) (rw (to_z-of_z w64 c.args.turn.at at) at c.edit_note.ensures.refused)
    c.edit_note.ensures.err c.edit_note.ensures.kept c.edit_note.ensures.stays)

pub returns-in_err-given-clause-ends : goal.returns-in_err-given-clause-ends
returns-in_err-given-clause-ends g c =
    let note : SFits w64 c.args.note = c.ranges.note in
    let was = state_of g.K.Lookup c.args.desk.now in
    let p = err_from_is_err_and c.from_residual.result c.from_residual.ensures.1 in
    rw (p.1, p.2) (refused_line (Unit {0}) (lines.SetTags c.args.note c.args.tags) c.args.turn was _ c.in_err-given.field-0.0 (RefusesChangedNote c.args.turn.at c.args.note (λ held. other_tags held c.args.tags))
    (λ d by. by) (λ same. same) (missing_listed was.keeping c.args.note c.in_err-given.field-0.0 (rw (to_z-of_z w64 c.args.note note) at c.in_err-given.ensures.missing))
    (missing_note c.args.turn.at c.args.note (λ held. other_tags held c.args.tags) was.keeping c.in_err-given.field-0.0 (rw (to_z-of_z w64 c.args.note note) at c.in_err-given.ensures.missing))
    c.tags_edit.ensures.same refl)
