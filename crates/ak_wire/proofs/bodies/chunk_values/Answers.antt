use Rattle.ak_wire.proofs.Lengths.{len_of, sum_of}
use Rattle.ak_wire.proofs.bodies.chunk_values.Goals as goal

pub returns : goal.returns
returns c = sum_of _ _ _ _ _ _ (len_of _ _ c.items_under.ensures) (len_of _ _ c.items_under-2.ensures) (len_of _ _ c.items_under-3.ensures)
