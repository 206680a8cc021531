use Rattle.std.proofs.Common.{◌∷◌, ap, ◌∙◌}
use Rattle.ak_disks.specs.Images.{DiskState, Synced}
use Rattle.ak_disks.specs.LogStates.{LogState}
use Rattle.ak_disks.proofs.Events.{no_more_synced, same_images}
use Rattle.ak_disks.proofs.memory.MemoryDiskDisk.sync.Goals as goal

pub returns-clause-crash : goal.returns-clause-crash
returns-clause-crash c image left =
    let same = c.self.view_is ∙ c.in_ok-count_call.ensures.ok in
    no_more_synced c.args.self.now.first c.args.self.now.events image
    (same_images _ _ _ _ (ap (λ (d : DiskState). d.first) same) (ap (λ (l : LogState). l.events) c.sync.ensures ∙ ap (λ (d : DiskState). Synced ∷ d.events) same) image left)
