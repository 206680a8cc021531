use Rattle.std.proofs.Common.{rules, refl, w64, SFits}
use Rattle.std.proofs.lemmas.Int.{to_z-of_z}
use Rattle.ak_desk_lines.proofs.EndedLines.{edit_line}
use Rattle.ak_desk_lines.specs.DeskStates.{state_of}
use Rattle.ak_desk_language.specs.declared.desk_lines.DeskLine.TheVariants as lines
use Rattle.ak_options.specs.OptionDeletions.{RefusesDeletion, options_deletion}
use Rattle.ak_desk_lines.proofs.option_lines.delete_options.Goals as goal

pub returns-clause-ends : goal.returns-clause-ends
returns-clause-ends g c =
    let options : SFits w64 c.args.options = c.ranges.options in
    let at : SFits w64 c.args.turn.at = search rules in
    let was = state_of g.K.Lookup c.args.desk.now in
    let now = state_of g.K.Lookup c.delete_options.new.self in
    rw (c.finished.ensures)
    (edit_line (lines.DeleteOptions c.args.allow c.args.options) c.args.turn was now (options_deletion c.args.options) (RefusesDeletion c.args.turn.at c.args.options c.args.allow) c.delete_options.result
    (λ d is. (is, refl)) (λ d result by. by) (λ fault same. same) tt refl (rw (to_z-of_z w64 c.args.options options) at c.delete_options.ensures.listed)
    (rw (to_z-of_z w64 c.args.options options, to_z-of_z w64 c.args.turn.at at) at c.delete_options.ensures.edits))
