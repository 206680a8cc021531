use Rattle.std.proofs.Common.{◌∷◌, ap, ◌∙◌}
use Rattle.ak_disks.specs.Images.{DiskState, Shortened}
use Rattle.ak_disks.specs.LogStates.{LogState}
use Rattle.ak_disks.proofs.Events.{follows_cut, same_images}
use Rattle.ak_disks.proofs.memory.MemoryDiskDisk.cut.Goals as goal

pub returns-clause-crash : goal.returns-clause-crash
returns-clause-crash c image left =
    let same = c.self.view_is ∙ c.in_ok-count_call.ensures.ok in
    follows_cut c.args.self.now.first c.args.self.now.events c.args.size image
    (same_images _ _ _ _ (ap (λ (d : DiskState). d.first) same) (ap (λ (l : LogState). l.events) c.cut.ensures ∙ ap (λ (d : DiskState). Shortened c.args.size ∷ d.events) same) image left)
