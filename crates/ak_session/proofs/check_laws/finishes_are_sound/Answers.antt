use Rattle.ak_session.proofs.CheckLaws.{finishes_are_sound}
use Rattle.ak_session.proofs.check_laws.finishes_are_sound.Goals as goal

pub returns : goal.returns
returns c = finishes_are_sound
