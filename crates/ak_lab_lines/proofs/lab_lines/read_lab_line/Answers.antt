use Rattle.ak_lab_lines.proofs.Ranges.{ranges_kept}
use Rattle.ak_lab_lines.proofs.lab_lines.read_lab_line.Goals as goal

pub returns-clause-range : goal.returns-clause-range
returns-clause-range c = ranges_kept c.args.text.now c.read_cut.result c.read_cut.ensures.line
