use Rattle.ak_merge.proofs.GraveLaws.{graves_are_made_anew}
use Rattle.ak_merge.proofs.part_laws.graves_are_made_anew.Goals as goal

pub returns : goal.returns
returns c = graves_are_made_anew
