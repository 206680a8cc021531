use Rattle.ak_device.proofs.Sending.{full_if_more}
use Rattle.ak_device.proofs.gatherings.next_chunk.Goals as goal

pub returns-clause-full : goal.returns-clause-full
returns-clause-full g c =
    full_if_more c.in_ok-rows.rows.items c.in_ok-chunk.chunk c.in_ok-chunk.ensures c.in_ok-rows.ensures.short c.in_ok-rows.ensures.chunked
