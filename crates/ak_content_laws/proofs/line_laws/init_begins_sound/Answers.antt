use Rattle.ak_content_laws.proofs.OpenedRows.{init_sound}
use Rattle.ak_content_laws.proofs.line_laws.init_begins_sound.Goals as goal

pub returns : goal.returns
returns c = λ at before after old new ended told. init_sound at before after old new ended told
