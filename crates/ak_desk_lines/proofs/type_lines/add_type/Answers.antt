use Rattle.std.proofs.Common.{rules, refl, w64, SFits}
use Rattle.std.proofs.lemmas.Int.{to_z-of_z}
use Rattle.ak_base.specs.declared.names.Table.TheVariants as tables
use Rattle.ak_edit_calls.specs.Additions.{EndsAddition, IsNewRow}
use Rattle.ak_desk_lines.proofs.EndedLines.{both_done, call_line}
use Rattle.ak_desk_lines.specs.DeskStates.{Edits}
use Rattle.ak_desk_lines.specs.DeskStates.{state_of}
use Rattle.ak_desk_language.specs.declared.desk_lines.DeskLine.TheVariants as lines
use Rattle.ak_desk_texts.specs.declared.answers.DeskAnswer.TheVariants as answers
use Rattle.ak_types.specs.TypeAdditions.{RefusesTypeAddition, given_addition, given_type}
use Rattle.ak_desk_lines.proofs.type_lines.add_type.Goals as goal

pub returns-clause-ends : goal.returns-clause-ends
returns-clause-ends g c =
    let at : SFits w64 c.args.turn.at = search rules in
    let was = state_of g.K.Lookup c.args.desk.now in
    let now = state_of g.K.Lookup c.add_note_type.new.self in
    let ended : EndsAddition (given_type c.args.turn.at c.args.note_type) was.keeping now.keeping was.steps now.steps c.add_note_type.result =
    rw (to_z-of_z w64 c.args.turn.at at) at c.add_note_type.ensures.adds in
    rw (c.added_type.ensures)
    (call_line _ (lines.AddType c.args.note_type) c.args.turn was now c.add_note_type.result answers.AddedType
    (λ id d. IsNewRow c.args.turn.at tables.NoteType id d × Edits c.args.turn.at (given_addition c.args.note_type id) d was now) (RefusesTypeAddition c.args.turn.at c.args.note_type)
    (λ id d is. (id, is.0, is.1, refl)) (λ d result by. by) (λ fault same. same) tt (λ id. (id, refl)) c.add_note_type.ensures.listed
    (both_done _ was.keeping c.add_note_type.result (IsNewRow c.args.turn.at tables.NoteType) (λ id d. Edits c.args.turn.at (given_addition c.args.note_type id) d was now) ended.id ended.done)
    ended.answers ended.same ended.kept ended.stays)
