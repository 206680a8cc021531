use Rattle.std.proofs.Common.{◌∙◌}
use Rattle.ak_faults.proofs.Healths.{goes_further}
use Rattle.ak_http_links.proofs.TextWrites.{moves_on}
use Rattle.ak_http_links.proofs.sends.send_all.Goals as goal

pub loop-rest-preserved : goal.loop-rest-preserved
loop-rest-preserved g c = record {
  so_far = moves_on _ _ _ _ c.loop-rest.rest.now c.in_ok-count.count c.loop-rest.invariant.so_far c.in_ok-count.ensures.bytes;
  apart = c.in_ok-count.ensures.apart ∙ c.loop-rest.invariant.apart;
  goes = goes_further c.loop-rest.invariant.goes c.in_ok-count.ensures.cause.goes;
}
