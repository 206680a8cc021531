use Rattle.ak_any_lines.proofs.LineSeries.{lines_keep}
use Rattle.ak_any_lines.proofs.series_laws.any_lines_keep_links.Goals as goal

pub returns : goal.returns
returns c = lines_keep c.any_lines_are_steps.ensures
