use Rattle.ak_lab_joins.proofs.WordsTold.{never_lost, printed_syncs_tell, syncs_tell, undisturbed_syncs_tell, uploads_tell}
use Rattle.ak_lab_joins.proofs.lab_laws.outcomes_tell_commits.Goals as goal

pub returns : goal.returns
returns c = record {
  syncs = λ account name s t crossed outcome goes stands ended shown. syncs_tell account name s t crossed outcome goes ended stands shown;
  unlost = never_lost;
  undisturbed = λ account name s t crossed outcome goes nothing ended. undisturbed_syncs_tell account name s t crossed outcome goes ended nothing;
  printed = printed_syncs_tell;
  uploads = uploads_tell;
}
