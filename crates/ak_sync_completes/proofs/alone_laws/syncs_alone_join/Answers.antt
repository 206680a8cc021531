use Rattle.std.proofs.Common.{refl}
use Rattle.ak_client.specs.declared.outcomes.Outcome.TheVariants as outcomes
use Rattle.ak_sync_completes.proofs.Joining.{early, finished}
use Rattle.ak_sync_completes.proofs.alone_laws.syncs_alone_join.Goals as goal

pub returns : goal.returns
returns g c = record {
  finished = λ ids own account old now before left h0 h1 w0 w1 begins sync.
      finished ids own account old now before left h0 h1 w0 w1 outcomes.Finished begins sync refl;
  early = λ ids own account old now before left h0 h1 w0 w1 outcome begins sync is.
      early ids own account old now before left h0 h1 w0 w1 outcome begins sync is;
}
