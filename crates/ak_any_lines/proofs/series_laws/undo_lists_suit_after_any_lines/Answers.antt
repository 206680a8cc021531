use Rattle.ak_any_lines.proofs.LineSeries.{lists_suit}
use Rattle.ak_any_lines.proofs.series_laws.undo_lists_suit_after_any_lines.Goals as goal

pub returns : goal.returns
returns c = lists_suit c.any_lines_are_steps.ensures
