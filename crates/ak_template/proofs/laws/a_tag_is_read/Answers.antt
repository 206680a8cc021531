use Rattle.ak_template.proofs.Spelling.{tag_read}
use Rattle.ak_template.proofs.laws.a_tag_is_read.Goals as goal

pub returns : goal.returns
returns c = tag_read
