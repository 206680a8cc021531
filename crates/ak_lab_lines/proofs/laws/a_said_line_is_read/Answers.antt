use Rattle.ak_lab_lines.proofs.LinesRead.{said_read}
use Rattle.ak_lab_lines.proofs.laws.a_said_line_is_read.Goals as goal

pub returns : goal.returns
returns c = said_read
