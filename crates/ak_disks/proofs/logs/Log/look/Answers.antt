use Rattle.std.proofs.Common.{◌<◌, ℕ, sym, ap, subst}
use Rattle.ak_disks.specs.LogStates.{LogState}
use Rattle.ak_disks.specs.declared.logs.Entry.TheVariants as entries
use Rattle.ak_disks.proofs.Kept.{log_call}
use Rattle.ak_disks.proofs.logs.Log.look.Goals as goal

pub invariant_of-self : goal.invariant_of-self
invariant_of-self c =
    let free = subst (λ (n : ℕ). 0 < n) (sym (ap (λ (s : LogState). s.places) c.self.view_is)) c.requires in
    log_call _ _ _ _ entries.Look c.add.ensures.items c.add.ensures.len c.add.ensures.capacity free _ c.self.invariant tt
