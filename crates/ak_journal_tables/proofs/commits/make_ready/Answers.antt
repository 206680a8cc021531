use Rattle.std.proofs.Common.{◌⊎◌, inl, inr, ⊎_elim, ℕ, List, Option, None, Vec, ap, arith}
use Rattle.std.specs.Option.{option_map}
use Rattle.std.specs.declared.alloc.Global.{Global}
use Rattle.ak_journals.specs.Journals.{StandsAfter, under_way}
use Rattle.ak_journal_tables.proofs.Images.{image_holds, image_lasts}
use Rattle.ak_journal_tables.proofs.Runs.{crash_leaves}
use Rattle.ak_journal_tables.specs.Holdings.{HoldsIfTold}
use Rattle.ak_journal_tables.proofs.commits.make_ready.Goals as goal

pub returns-in-Ok-clause-any_moment : goal.returns-in-Ok-clause-any_moment
returns-in-Ok-clause-any_moment g c = λ held stored. crash_leaves g.D.Disk.moment g.D.Disk.may_have_left c.args.journal.now c.mark.new.self
    (λ (image : List ℕ). g.D.Disk.may_leave c.args.journal.now.disk image ⊎ StandsAfter g.D.Disk.content c.args.journal.now None image)
    (λ (image : List ℕ). g.D.Disk.may_have_left c.args.journal.now.disk (g.D.Disk.moment c.args.journal.now.disk) image ⊎ HoldsIfTold g.D.Disk.content c.args.journal.now.disk held image) c.mark.ensures.any_moment
    (λ image left. ⊎_elim (λ was. inl (g.met.D.Disk.counts_now c.args.journal.now.disk (g.D.Disk.moment c.args.journal.now.disk) image (omega arith) was))
    (λ stands. inr (image_holds c.args.journal.now.gate (g.D.Disk.content c.args.journal.now.disk) held image stored stands)) left)

pub returns-in-Ok-clause-lasts : goal.returns-in-Ok-clause-lasts
returns-in-Ok-clause-lasts g c = λ held stored image left. image_lasts c.mark.new.self.gate c.mark.new.self.ready (under_way c.mark.new.self) (g.D.Disk.content c.mark.new.self.disk) (g.D.Disk.may_leave c.mark.new.self.disk) held image
    (ap (λ (o : Option (Vec ℕ Global)). option_map (λ (p : Vec ℕ Global). p.items) o) c.in-Ok.ensures.done) c.mark.ensures.in_order.told stored (g.met.D.Disk.only_now c.mark.new.self.disk image left)

pub returns-in-Err-clause-any_moment : goal.returns-in-Err-clause-any_moment
returns-in-Err-clause-any_moment g c = λ held stored. crash_leaves g.D.Disk.moment g.D.Disk.may_have_left c.args.journal.now c.mark.new.self
    (λ (image : List ℕ). g.D.Disk.may_leave c.args.journal.now.disk image ⊎ StandsAfter g.D.Disk.content c.args.journal.now None image)
    (λ (image : List ℕ). g.D.Disk.may_have_left c.args.journal.now.disk (g.D.Disk.moment c.args.journal.now.disk) image ⊎ HoldsIfTold g.D.Disk.content c.args.journal.now.disk held image) c.mark.ensures.any_moment
    (λ image left. ⊎_elim (λ was. inl (g.met.D.Disk.counts_now c.args.journal.now.disk (g.D.Disk.moment c.args.journal.now.disk) image (omega arith) was))
    (λ stands. inr (image_holds c.args.journal.now.gate (g.D.Disk.content c.args.journal.now.disk) held image stored stands)) left)
