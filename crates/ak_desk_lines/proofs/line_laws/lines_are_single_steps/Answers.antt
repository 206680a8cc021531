use Rattle.ak_desk_lines.proofs.LineStepping.{one_step}
use Rattle.ak_desk_lines.proofs.line_laws.lines_are_single_steps.Goals as goal

pub returns : goal.returns
returns c = one_step c.deck_additions_are_admitted.ensures c.deck_renames_are_admitted.ensures
