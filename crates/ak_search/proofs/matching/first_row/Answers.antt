use Rattle.std.proofs.Common.{rules, ap, ◌∷◌, true}
use Rattle.ak_search.proofs.OnePass.{more_falses}
use Rattle.ak_search.proofs.matching.first_row.Goals as goal

pub loop-preserved : goal.loop-preserved
loop-preserved c = search (rules, ap (λ row. true ∷ row) (more_falses c.loop.counter))
