use Rattle.ak_client.specs.declared.outcomes.Outcome.TheVariants as outcomes
use Rattle.ak_transfer_laws.proofs.NextSyncs.{schemas_end}
use Rattle.ak_transfer_laws.proofs.Reasons.{schemas_stop}
use Rattle.ak_transfer_laws.proofs.Syncing.{syncs_end_faultless}
use Rattle.ak_transfer_laws.specs.Completing.{committed_before}
use Rattle.ak_transfer_laws.proofs.next_syncs.other_schemas_need_a_whole.Goals as goal

pub returns : goal.returns
returns g c = record {
  faultless = λ ids d account before after outcome it differ over calm. syncs_end_faultless ids d account before after outcome it over
      (outcomes.FullSchema d.head.schema (committed_before ids account it.old).head.schema)
      (λ said says. schemas_stop (committed_before ids account it.old) d it.at said differ says) calm;
  lossy = λ ids d account before after outcome it differ over. schemas_end ids d account before after outcome it over differ;
}
