use Rattle.std.specs.Prelude.{◌≡◌, ◌≢◌, true}
use Rattle.ak_client.specs.declared.outcomes.Outcome.TheVariants as outcomes
use Rattle.ak_lab_completes.proofs.Syncing.{finishes, stops}
use Rattle.ak_lab_wires.specs.declared.lab_sessions.SessionKind.TheVariants as kinds
use Rattle.ak_merge.specs.Commits.{IsCopyOf}
use Rattle.ak_sync_completes.specs.Completing.{have_nothing_to_sync}
use Rattle.ak_lab_completes.proofs.lab_completeness.left_alone_syncs_complete.Goals as goal

pub returns : goal.returns
returns c = record {
  finished = λ account name s t d crossed outcome begins joinable ended. finishes account name s t d crossed outcome begins ended
      (λ other a b texts kept. (c.keepers_fail_by_breaks_alone.ensures.devices kinds.Sync other a b texts kept).1)
      c.only_lines_break.ensures.none c.syncs_complete.ensures.lossy joinable;
  unchanged = λ account name s t d crossed outcome begins nothing ended. stops account name s t d crossed outcome begins ended
      (λ other a b texts kept. (c.keepers_fail_by_breaks_alone.ensures.devices kinds.Sync other a b texts kept).1)
      c.only_lines_break.ensures.none (λ x y. have_nothing_to_sync x y ≡ true) (λ x y. outcomes.NoChanges)
      c.equal_sides_have_nothing_to_sync.ensures.lossy nothing;
  copies = λ account name s t d crossed outcome begins copy ended. stops account name s t d crossed outcome begins ended
      (λ other a b texts kept. (c.keepers_fail_by_breaks_alone.ensures.devices kinds.Sync other a b texts kept).1)
      c.only_lines_break.ensures.none (λ x y. IsCopyOf y x) (λ x y. outcomes.NoChanges)
      c.copies_have_nothing_to_sync.ensures.lossy copy;
  schemas = λ account name s t d crossed outcome begins differ ended. stops account name s t d crossed outcome begins ended
      (λ other a b texts kept. (c.keepers_fail_by_breaks_alone.ensures.devices kinds.Sync other a b texts kept).1)
      c.only_lines_break.ensures.none (λ x y. x.head.schema ≢ y.head.schema) (λ x y. outcomes.FullSchema x.head.schema y.head.schema)
      c.other_schemas_need_a_whole.ensures.lossy differ;
}
