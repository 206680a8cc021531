use Rattle.ak_template.proofs.Spelling.{cloze_read}
use Rattle.ak_template.proofs.laws.a_cloze_is_found.Goals as goal

pub returns : goal.returns
returns c = cloze_read
