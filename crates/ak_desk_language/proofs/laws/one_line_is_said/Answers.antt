use Rattle.ak_desk_language.proofs.AnySaying.{one_any_line}
use Rattle.ak_desk_language.proofs.laws.one_line_is_said.Goals as goal

pub returns : goal.returns
returns c = one_any_line
