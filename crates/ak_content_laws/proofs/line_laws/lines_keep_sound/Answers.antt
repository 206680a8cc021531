use Rattle.ak_content_laws.proofs.LineEnds.{any_line_ended}
use Rattle.ak_content_laws.proofs.line_laws.lines_keep_sound.Goals as goal

pub returns : goal.returns
returns c = any_line_ended
