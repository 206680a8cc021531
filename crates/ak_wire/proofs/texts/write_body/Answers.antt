use Rattle.ak_wire.proofs.WholeTexts.{string_utf8}
use Rattle.ak_wire.proofs.texts.write_body.Goals as goal

pub returns-clause-utf8 : goal.returns-clause-utf8
returns-clause-utf8 c = string_utf8 c.in_ok-text.text c.from.result c.from.ensures
