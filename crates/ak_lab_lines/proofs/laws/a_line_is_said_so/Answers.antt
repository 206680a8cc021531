use Rattle.ak_lab_lines.proofs.LinesWritten.{read_said}
use Rattle.ak_lab_lines.proofs.laws.a_line_is_said_so.Goals as goal

pub returns : goal.returns
returns c = read_said
