use Rattle.std.proofs.Common.{◌-◌, ◌∷◌, length, sym, ap, ◌∙◌, subst}
use Rattle.ak_disks.specs.Disks.{Becomes, Follows, IsTorn}
use Rattle.ak_disks.specs.Images.{DiskState, Wrote, after_refusal, after_torn, content_of, images, is_torn}
use Rattle.ak_disks.proofs.Events.{follows_write}
use Rattle.ak_disks.proofs.Tearing.{torn_becomes, torn_follows}
use Rattle.ak_disks.proofs.memory.MemoryDiskDisk.write_at.Goals as goal

pub returns-in-Ok-clause-crash : goal.returns-in-Ok-clause-crash
returns-in-Ok-clause-crash c image left =
    follows_write c.args.self.now.first c.args.self.now.events c.args.place c.args.from.now c.requires image
    (subst (λ (d : DiskState). images d image)
    (c.put.ensures
    ∙ ap (λ (d : DiskState). record d { events = Wrote c.args.place c.args.from.now ∷ d.events; places = d.places - 1; room = d.room - length c.args.from.now }) c.in-Ok.ensures.ok) left)

pub returns-in-Err-clause-refused : goal.returns-in-Err-clause-refused
returns-in-Err-clause-refused c =
    let was = after_refusal c.args.self.now in
    subst (λ (d : DiskState). Becomes (IsTorn c.args.place (length c.args.from.now)) (content_of c.args.self.now) (content_of d))
    (sym (c.put_front.ensures ∙ ap (λ (d : DiskState). after_torn c.args.place c.args.from.now d) c.in-Err.ensures.err))
    (torn_becomes was c.args.place c.args.from.now c.requires (is_torn c.args.from.now was))

pub returns-in-Err-clause-crash : goal.returns-in-Err-clause-crash
returns-in-Err-clause-crash c =
    let was = after_refusal c.args.self.now in
    subst (λ (d : DiskState). Follows (IsTorn c.args.place (length c.args.from.now)) (images c.args.self.now) (images d))
    (sym (c.put_front.ensures ∙ ap (λ (d : DiskState). after_torn c.args.place c.args.from.now d) c.in-Err.ensures.err))
    (torn_follows was c.args.place c.args.from.now c.requires (is_torn c.args.from.now was))
