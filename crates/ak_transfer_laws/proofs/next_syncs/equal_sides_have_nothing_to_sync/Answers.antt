use Rattle.ak_client.specs.declared.outcomes.Outcome.TheVariants as outcomes
use Rattle.ak_transfer_laws.proofs.NextSyncs.{equals_end}
use Rattle.ak_transfer_laws.proofs.Reasons.{equal_sides_stop}
use Rattle.ak_transfer_laws.proofs.Syncing.{syncs_end_faultless}
use Rattle.ak_transfer_laws.specs.Completing.{committed_before}
use Rattle.ak_transfer_laws.proofs.next_syncs.equal_sides_have_nothing_to_sync.Goals as goal

pub returns : goal.returns
returns g c = record {
  faultless = λ ids d account before after outcome it nothing over calm. syncs_end_faultless ids d account before after outcome it over outcomes.NoChanges
      (λ said says. equal_sides_stop (committed_before ids account it.old) d it.at said nothing says) calm;
  lossy = λ ids d account before after outcome it nothing over. equals_end ids d account before after outcome it over nothing;
}
