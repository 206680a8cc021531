use Rattle.ak_template.proofs.Spelling.{words_read}
use Rattle.ak_template.proofs.laws.plain_text_is_words.Goals as goal

pub returns : goal.returns
returns c = words_read
