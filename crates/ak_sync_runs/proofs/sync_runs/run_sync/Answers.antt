use Rattle.ak_sync_runs.proofs.Telling.{listed_told, only_keep, only_lost, ran, status_cause}
use Rattle.std.proofs.Common.{rules}
use Rattle.ak_sync_runs.proofs.sync_runs.run_sync.Goals as goal

pub returns-clause-ends : goal.returns-clause-ends
returns-clause-ends g c = ran _ _ _ _ _ _ _ c.if-not-held.ensures.held (record {
  word = c.word.result;
  outcome = c.sync_over-outcome.result;
  drawn = c.word.ensures.given;
  sparing = c.sync_over-outcome.ensures.spares;
  thrice = c.sync_over-outcome.ensures.thrice;
  shown = c.sync_over-outcome.ensures.shown;
  device = c.sync_over-outcome.ensures.device;
  clock = c.sync_over-outcome.ensures.clock;
  told = c.tell_outcome.ensures.told;
})

pub returns-clause-listed : goal.returns-clause-listed
returns-clause-listed g c = listed_told _ _ _ _ c.tell_outcome.ensures.told

pub returns-clause-kept : goal.returns-clause-kept
returns-clause-kept g c =
    status_cause 6 _ _ _ _ _ _ _ only_keep (λ is. search (is, rules)) (λ is. search (is, rules)) c.sync_over-outcome.ensures.kept c.tell_outcome.ensures.told

pub returns-clause-lost : goal.returns-clause-lost
returns-clause-lost g c =
    status_cause 7 _ _ _ _ _ _ _ only_lost (λ is. search (is, rules)) (λ is. search (is, rules)) c.sync_over-outcome.ensures.lost c.tell_outcome.ensures.told
