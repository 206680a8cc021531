use Rattle.std.proofs.Common.{rules, refl, w64, SFits}
use Rattle.std.proofs.lemmas.Int.{to_z-of_z}
use Rattle.ak_desk_lines.proofs.EndedLines.{call_line, done_by}
use Rattle.ak_desk_lines.specs.Accepted.{done_answer}
use Rattle.ak_desk_lines.specs.DeskStates.{state_of}
use Rattle.ak_edit.specs.Undos.{IsLatestUndone, RefusesUndo}
use Rattle.ak_desk_language.specs.declared.desk_lines.DeskLine.TheVariants as lines
use Rattle.ak_desk_lines.proofs.collection_lines.undo_latest.Goals as goal

pub returns-clause-ends : goal.returns-clause-ends
returns-clause-ends g c =
    let at : SFits w64 c.args.turn.at = search rules in
    let was = state_of g.K.Lookup c.args.desk.now in
    let now = state_of g.K.Lookup c.undo.new.self in
    rw (c.finished.ensures)
    (call_line _ lines.Undo c.args.turn was now c.undo.result done_answer
    (λ _ d. IsLatestUndone c.args.turn.at d was.keeping now.keeping was.steps now.steps) (λ d. RefusesUndo c.args.turn.at d was.steps)
    (λ _ d is. (is, refl)) (λ d result by. by) (λ fault same. same) tt (λ _. refl) c.undo.ensures.listed
    (done_by was.keeping (λ d. IsLatestUndone c.args.turn.at d was.keeping now.keeping was.steps now.steps) c.undo.result (rw (to_z-of_z w64 c.args.turn.at at) at c.undo.ensures.ok))
    (rw (to_z-of_z w64 c.args.turn.at at) at c.undo.ensures.refused)
    c.undo.ensures.err c.undo.ensures.kept c.undo.ensures.stays)
