use Rattle.std.proofs.Common.{rules}
use Rattle.ak_transfer_runs.proofs.Statuses.{only_keep, only_lost, status_cause}
use Rattle.ak_transfer_runs.proofs.TransferEnds.{upload_listed, ran}
use Rattle.ak_transfer_runs.proofs.transfer_runs.run_upload.Goals as goal

pub returns-clause-ends : goal.returns-clause-ends
returns-clause-ends g c = ran _ _ _ _ _ _ _ c.if-not-held.ensures.held (record {
  word = c.word.result;
  outcome = c.upload_over-outcome.result;
  drawn = c.word.ensures.given;
  does = (c.upload_over-outcome.ensures.uploads, c.upload_over-outcome.ensures.ends);
  thrice = c.upload_over-outcome.ensures.thrice;
  shown = c.upload_over-outcome.ensures.shown;
  device = c.upload_over-outcome.ensures.device;
  told = c.tell_outcome.ensures.told;
})

pub returns-clause-listed : goal.returns-clause-listed
returns-clause-listed g c = upload_listed _ _ _ _ c.upload_over-outcome.ensures.ends c.tell_outcome.ensures.told

pub returns-clause-kept : goal.returns-clause-kept
returns-clause-kept g c =
    status_cause 6 _ _ _ _ _ _ _ only_keep (λ is. search (is, rules)) (λ is. search (is, rules)) c.upload_over-outcome.ensures.kept c.tell_outcome.ensures.told

pub returns-clause-lost : goal.returns-clause-lost
returns-clause-lost g c =
    status_cause 7 _ _ _ _ _ _ _ only_lost (λ is. search (is, rules)) (λ is. search (is, rules)) c.upload_over-outcome.ensures.lost c.tell_outcome.ensures.told
