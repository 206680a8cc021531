use Rattle.ak_content_laws.proofs.CallEnds.{options_added}
use Rattle.ak_content_laws.proofs.option_laws.added_options_keep_sound.Goals as goal

pub returns : goal.returns
returns c = options_added
