use Rattle.ak_client.proofs.Healing.{joined_once}
use Rattle.ak_merge.specs.Holdings.{content_of}
use Rattle.ak_client.proofs.sync_laws.lost_finishes_heal.Goals as goal

pub returns : goal.returns
returns c = record {
  device = λ own s t d u joined exchanged. joined_once own s t (content_of d) joined exchanged.device;
  server = λ own s t d u joined exchanged. joined_once own s t (content_of u) joined exchanged.server;
}
