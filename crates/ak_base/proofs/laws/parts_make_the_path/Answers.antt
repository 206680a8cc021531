use Rattle.std.proofs.Common.{[]}
use Rattle.ak_base.proofs.Pathways.{parts_make}
use Rattle.ak_base.proofs.laws.parts_make_the_path.Goals as goal

pub returns : goal.returns
returns c = parts_make []
