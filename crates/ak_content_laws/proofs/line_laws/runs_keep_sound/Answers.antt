use Rattle.ak_content_laws.proofs.DeskRuns.{desk_ended}
use Rattle.ak_content_laws.proofs.line_laws.runs_keep_sound.Goals as goal

pub returns : goal.returns
returns c = desk_ended
