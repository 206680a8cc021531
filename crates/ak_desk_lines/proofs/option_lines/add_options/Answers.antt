use Rattle.std.proofs.Common.{rules, refl, w64, SFits}
use Rattle.std.proofs.lemmas.Int.{to_z-of_z}
use Rattle.ak_base.specs.declared.names.Table.TheVariants as tables
use Rattle.ak_edit_calls.specs.Additions.{EndsAddition, IsNewRow}
use Rattle.ak_desk_lines.specs.DeskStates.{Edits, state_of}
use Rattle.ak_desk_language.specs.declared.desk_lines.DeskLine.TheVariants as lines
use Rattle.ak_desk_texts.specs.declared.answers.DeskAnswer.TheVariants as answers
use Rattle.ak_desk_lines.proofs.EndedLines.{answered_cause, both_done, call_line}
use Rattle.ak_options.specs.OptionGroups.{RefusesAddition, given_group, options_addition}
use Rattle.ak_desk_lines.proofs.option_lines.add_options.Goals as goal

pub returns-clause-ends : goal.returns-clause-ends
returns-clause-ends g c =
    let at : SFits w64 c.args.turn.at = search rules in
    let was = state_of g.K.Lookup c.args.desk.now in
    let now = state_of g.K.Lookup c.add_options.new.self in
    let ended : EndsAddition (given_group c.args.turn.at c.args.options) was.keeping now.keeping was.steps now.steps c.add_options.result =
    rw (to_z-of_z w64 c.args.turn.at at) at c.add_options.ensures.adds in
    rw (c.added_options.ensures)
    (call_line _ (lines.AddOptions c.args.options) c.args.turn was now c.add_options.result answers.PutOptions
    (λ id d. IsNewRow c.args.turn.at tables.Options id d × Edits c.args.turn.at (options_addition c.args.options id) d was now) (RefusesAddition c.args.turn.at c.args.options)
    (λ id d is. (id, is.0, is.1, refl)) (λ d result by. by) (λ fault same. same) tt (λ id. (id, refl)) c.add_options.ensures.listed
    (both_done _ was.keeping c.add_options.result (IsNewRow c.args.turn.at tables.Options) (λ id d. Edits c.args.turn.at (options_addition c.args.options id) d was now) ended.id ended.done)
    ended.answers ended.same ended.kept ended.stays)

pub returns-clause-cause : goal.returns-clause-cause
returns-clause-cause g c = rw (c.added_options.ensures) (answered_cause answers.PutOptions c.add_options.result _ _ c.add_options.ensures.cause)
