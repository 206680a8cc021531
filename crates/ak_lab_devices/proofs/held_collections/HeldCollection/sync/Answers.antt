use Rattle.std.proofs.Common.{true, Some, ap, ◌∙◌}
use Rattle.ak_client.specs.Syncs.{IsSyncSparing, KeepsDevice}
use Rattle.ak_keep.specs.Keepers.{all_known, is_marked}
use Rattle.ak_keep.specs.MemoryKeepers.{MemoryState}
use Rattle.ak_lab_devices.proofs.Failing.{both_kept, kept_so, rests, unfailed_so}
use Rattle.ak_sync_in_memory.specs.LoopWires.{health_over, inside_with, state_of_loop}
use Rattle.ak_lab_devices.proofs.held_collections.HeldCollection.sync.Goals as goal

pub sync_over-outcome-requires-clause-unmarked : goal.sync_over-outcome-requires-clause-unmarked
sync_over-outcome-requires-clause-unmarked g c =
    ap (λ (x : MemoryState). is_marked (all_known x.kept)) c.fail_at.ensures ∙ c.self.invariant.idle.unmarked

pub sync_over-outcome-requires-clause-held : goal.sync_over-outcome-requires-clause-held
sync_over-outcome-requires-clause-held g c =
    ap (λ (x : MemoryState). (all_known x.kept).headed.current) c.fail_at.ensures ∙ c.self.invariant.idle.held

pub invariant_of-self : goal.invariant_of-self
invariant_of-self g c =
    rests c.sync_over-outcome.new.keeper c.fail_at-2.new.self c.new.result c.fail_at-2.ensures c.new.ensures c.sync_over-outcome.ensures.unmarked
    c.sync_over-outcome.ensures.held

pub returns-clause-ended : goal.returns-clause-ended
returns-clause-ended g c =
    let wire = c.args.wire.now in
    let after = c.sync_over-outcome.new.wire in
    both_kept (λ k m. IsSyncSparing true c.args.ids (all_known k) (all_known m) (health_over wire.counts wire.mishaps) (health_over after.counts after.mishaps)
    (state_of_loop g.B.Between.acts g.B.Between.idle (inside_with wire.server wire.between wire.moment wire.mishaps wire.counts))
    (state_of_loop g.B.Between.acts g.B.Between.idle (inside_with after.server after.between after.moment after.mishaps after.counts))
    (Some c.args.clock.now) c.sync_over-outcome.result) c.args.self.now c.fail_at.new.self.kept c.sync_over-outcome.new.keeper.kept c.fail_at-2.new.self.kept
    (kept_so c.self.inside.keeper c.fail_at.new.self c.args.fails c.fail_at.ensures ∙ c.self.view_is)
    (kept_so c.sync_over-outcome.new.keeper c.fail_at-2.new.self c.new.result c.fail_at-2.ensures) c.sync_over-outcome.ensures.spares

pub returns-clause-device : goal.returns-clause-device
returns-clause-device g c =
    both_kept (λ k m. KeepsDevice 1 (all_known k) (all_known m) (Some c.args.clock.now) (Some c.sync_over-outcome.new.clock) c.sync_over-outcome.result)
    c.args.self.now c.fail_at.new.self.kept c.sync_over-outcome.new.keeper.kept c.fail_at-2.new.self.kept
    (kept_so c.self.inside.keeper c.fail_at.new.self c.args.fails c.fail_at.ensures ∙ c.self.view_is)
    (kept_so c.sync_over-outcome.new.keeper c.fail_at-2.new.self c.new.result c.fail_at-2.ensures) c.sync_over-outcome.ensures.device

pub returns-clause-unfailed : goal.returns-clause-unfailed
returns-clause-unfailed g c =
    unfailed_so c.self.inside.keeper c.fail_at.new.self c.sync_over-outcome.new.keeper c.args.fails c.sync_over-outcome.result c.fail_at.ensures
    c.sync_over-outcome.ensures.kept
