use Rattle.ak_template.proofs.Continuing.{unclosed_goes_on}
use Rattle.ak_template.proofs.laws.unclosed_sections_go_on.Goals as goal

pub returns : goal.returns
returns c = unclosed_goes_on
