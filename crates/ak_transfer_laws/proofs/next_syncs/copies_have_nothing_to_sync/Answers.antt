use Rattle.ak_client.specs.declared.outcomes.Outcome.TheVariants as outcomes
use Rattle.ak_transfer_laws.proofs.Meeting.{lawful}
use Rattle.ak_transfer_laws.proofs.NextSyncs.{copies_end}
use Rattle.ak_transfer_laws.proofs.Reasons.{copies_stop}
use Rattle.ak_transfer_laws.proofs.Syncing.{syncs_end_faultless}
use Rattle.ak_transfer_laws.specs.Completing.{committed_before}
use Rattle.ak_transfer_laws.proofs.next_syncs.copies_have_nothing_to_sync.Goals as goal

pub returns : goal.returns
returns g c = record {
  faultless = λ ids d account before after outcome it copy over calm. syncs_end_faultless ids d account before after outcome it over outcomes.NoChanges
      (λ said says. copies_stop (committed_before ids account it.old) d it.at said (lawful ids d account before after it) copy says) calm;
  lossy = λ ids d account before after outcome it copy over. copies_end ids d account before after outcome it over copy;
}
