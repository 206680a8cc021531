use Rattle.ak_desk_lines.proofs.KeptLinks.{lines_keep}
use Rattle.ak_desk_lines.proofs.line_laws.lines_keep_links.Goals as goal

pub returns : goal.returns
returns c = lines_keep c.lines_are_single_steps.ensures
