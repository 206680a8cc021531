use Rattle.ak_desk_lines.proofs.LineStepping.{lists_suit}
use Rattle.ak_desk_lines.proofs.line_laws.undo_lists_suit_after_lines.Goals as goal

pub returns : goal.returns
returns c = lists_suit c.lines_are_single_steps.ensures
