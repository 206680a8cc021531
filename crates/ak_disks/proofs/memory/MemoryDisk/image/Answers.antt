use Rattle.std.proofs.Common.{◌≡◌, List, ℕ, sym, ◌∙◌, ap, subst}
use Rattle.std.proofs.lemmas.Result.{IfOk-weaker}
use Rattle.ak_disks.specs.Images.{DiskState, file_of, images, new_disk, picked}
use Rattle.ak_disks.proofs.Draws.{picked_may_be_left}
use Rattle.ak_disks.proofs.memory.MemoryDisk.image.Goals as goal

pub returns-clause-left : goal.returns-clause-left
returns-clause-left c =
    let image : c.in_ok-image.image.items ≡ picked c.args.self.now.first c.args.pick c.args.self.now.events =
    c.in_ok-image.ensures
    ∙ ap (λ (l : List ℕ). picked l c.args.pick c.self.inside.log.events) c.deref.ensures.value
    ∙ ap (λ (d : DiskState). picked d.first c.args.pick d.events) c.self.view_is in
    IfOk-weaker c.holding.result
    (λ (disk : DiskState). disk ≡ new_disk c.in_ok-image.image.items c.self.inside.all_room c.self.inside.all_places c.new.result.items)
    (λ (disk : DiskState). images c.args.self.now (file_of disk))
    (λ disk is. subst (λ (file : List ℕ). images c.args.self.now file) (sym (ap (λ (d : DiskState). file_of d) is ∙ image)) (picked_may_be_left c.args.self.now.first c.args.pick c.args.self.now.events))
    c.holding.ensures
