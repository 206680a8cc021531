use Rattle.ak_base.proofs.Numerals.{decimal_read}
use Rattle.ak_base.proofs.laws.a_decimal_is_read.Goals as goal

pub returns : goal.returns
returns c = decimal_read
