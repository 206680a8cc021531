use Rattle.std.proofs.Common.{◌≡◌}
use Rattle.ak_lab_devices.proofs.Held.{counted, told_so}
use Rattle.ak_messages.specs.declared.requests.SanityCounts.{SanityCounts}
use Rattle.ak_session.specs.Answers.{counts_of}
use Rattle.ak_lab_devices.proofs.held_collections.HeldCollection.counts.Goals as goal

pub returns-clause-counts : goal.returns-clause-counts
returns-clause-counts c =
    counted _ _ _ c.self.view_is c.self.invariant.idle.held
    (told_so (λ (counts : SanityCounts). counts ≡ counts_of c.self.inside.keeper.kept.current.rows) c.counts_of.result c.unfailed.result
    c.counts_of.ensures.reads.told c.unfailed.ensures.ok)
