use Rattle.std.proofs.Common.{rules, refl, w64, SFits}
use Rattle.std.proofs.lemmas.Int.{to_z-of_z}
use Rattle.ak_edit_calls.specs.Calls.{EndsEdit}
use Rattle.ak_desk_lines.proofs.EndedLines.{answered_cause, call_line, done_by}
use Rattle.ak_desk_lines.specs.DeskStates.{Edits}
use Rattle.ak_desk_lines.specs.DeskStates.{state_of}
use Rattle.ak_desk_language.specs.declared.desk_lines.DeskLine.TheVariants as lines
use Rattle.ak_options.specs.OptionGroups.{RefusesChange, options_change}
use Rattle.ak_desk_texts.specs.declared.answers.DeskAnswer.TheVariants as answers
use Rattle.ak_desk_lines.proofs.option_lines.set_options.Goals as goal

pub returns-clause-ends : goal.returns-clause-ends
returns-clause-ends g c =
    let at : SFits w64 c.args.turn.at = search rules in
    let id : SFits w64 c.args.options.id = search rules in
    let was = state_of g.K.Lookup c.args.desk.now in
    let now = state_of g.K.Lookup c.set_options.new.self in
    let ended : EndsEdit c.args.turn.at (options_change c.args.options) (RefusesChange c.args.turn.at c.args.options) was.keeping now.keeping was.steps now.steps c.set_options.result =
    rw (to_z-of_z w64 c.args.turn.at at) at c.set_options.ensures.edits in
    rw (c.put_options.ensures, to_z-of_z w64 c.args.options.id id)
    (call_line _ (lines.SetOptions c.args.options) c.args.turn was now c.set_options.result (λ _. answers.PutOptions c.args.options.id)
    (λ _ d. Edits c.args.turn.at (options_change c.args.options) d was now) (RefusesChange c.args.turn.at c.args.options)
    (λ _ d is. (is, refl)) (λ d result by. by) (λ fault same. same) tt (λ _. refl) c.set_options.ensures.listed
    (done_by was.keeping (λ d. Edits c.args.turn.at (options_change c.args.options) d was now) c.set_options.result ended.done)
    ended.answers ended.same ended.kept ended.stays)

pub returns-clause-cause : goal.returns-clause-cause
returns-clause-cause g c = rw (c.put_options.ensures) (answered_cause _ c.set_options.result _ _ c.set_options.ensures.cause)
