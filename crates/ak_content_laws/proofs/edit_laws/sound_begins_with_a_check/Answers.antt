use Rattle.ak_content_laws.proofs.Beginnings.{begins, finds}
use Rattle.ak_content_laws.proofs.edit_laws.sound_begins_with_a_check.Goals as goal

pub returns : goal.returns
returns c = record { begins = begins; finds = finds }
