use Rattle.std.proofs.Common.{◌⊎◌, inl, inr, ⊎_elim, ℕ, List, Option, None, Vec, ap, sym, subst, ◌∙◌}
use Rattle.std.specs.Option.{option_map}
use Rattle.std.specs.declared.alloc.Global.{Global}
use Rattle.ak_journals.specs.Journals.{StandsAfter, kept, under_way}
use Rattle.ak_journals.specs.Moments.{LeavesOnly}
use Rattle.ak_journals.specs.declared.journals.Journal.{Journal}
use Rattle.ak_journal_tables.proofs.Images.{image_holds, image_lasts, stores_still}
use Rattle.ak_journal_tables.proofs.Runs.{leaves_weaker}
use Rattle.ak_journal_tables.specs.Holdings.{HoldsIfTold, Stores}
use Rattle.ak_journal_tables.proofs.openings.ready_keeper.Goals as goal

pub returns-in-Ok-clause-stored : goal.returns-in-Ok-clause-stored
returns-in-Ok-clause-stored g c = subst (λ (j : Journal g.row.D.Denot). Stores g.D.Disk.content j c.args.memory.kept.current) (sym (c.of.ensures.tables ∙ c.over-tables.ensures)) (stores_still (kept g.D.Disk.content c.args.journal) (kept g.D.Disk.content c.mark.new.self) c.args.memory.kept.current c.mark.ensures.kept c.requires.stored)

pub returns-in-Ok-clause-any_moment : goal.returns-in-Ok-clause-any_moment
returns-in-Ok-clause-any_moment g c = subst (λ (j : Journal g.row.D.Denot). LeavesOnly g.D.Disk.moment g.D.Disk.may_have_left c.args.journal.disk j.disk (λ (image : List ℕ). g.D.Disk.may_leave c.args.journal.disk image ⊎ HoldsIfTold g.D.Disk.content c.args.journal.disk c.args.memory.kept.current image)) (sym (c.of.ensures.tables ∙ c.over-tables.ensures)) (leaves_weaker g.D.Disk.moment g.D.Disk.may_have_left c.args.journal.disk c.mark.new.self.disk (λ (image : List ℕ). g.D.Disk.may_leave c.args.journal.disk image ⊎ StandsAfter g.D.Disk.content c.args.journal None image) (λ (image : List ℕ). g.D.Disk.may_leave c.args.journal.disk image ⊎ HoldsIfTold g.D.Disk.content c.args.journal.disk c.args.memory.kept.current image) c.mark.ensures.any_moment
    (λ image left. ⊎_elim (λ was. inl was) (λ stands. inr (image_holds c.args.journal.gate (g.D.Disk.content c.args.journal.disk) c.args.memory.kept.current image c.requires.stored stands)) left))

pub returns-in-Ok-clause-lasts : goal.returns-in-Ok-clause-lasts
returns-in-Ok-clause-lasts g c =
    subst (λ (j : Journal g.row.D.Denot). (image : List ℕ) → g.D.Disk.may_have_left j.disk (g.D.Disk.moment j.disk) image → HoldsIfTold g.D.Disk.content j.disk c.args.memory.kept.current image) (sym (c.of.ensures.tables ∙ c.over-tables.ensures)) (λ image left. image_lasts c.mark.new.self.gate c.mark.new.self.ready (under_way c.mark.new.self) (g.D.Disk.content c.mark.new.self.disk) (g.D.Disk.may_leave c.mark.new.self.disk) c.args.memory.kept.current image
    (ap (λ (o : Option (Vec ℕ Global)). option_map (λ (p : Vec ℕ Global). p.items) o) c.in-Ok.ensures.done) c.mark.ensures.in_order.told (stores_still (kept g.D.Disk.content c.args.journal) (kept g.D.Disk.content c.mark.new.self) c.args.memory.kept.current c.mark.ensures.kept c.requires.stored) (g.met.D.Disk.only_now c.mark.new.self.disk image left))

pub returns-in-Err-clause-any_moment_err : goal.returns-in-Err-clause-any_moment_err
returns-in-Err-clause-any_moment_err g c = subst (λ (disk : g.row.D.Denot). LeavesOnly g.D.Disk.moment g.D.Disk.may_have_left c.args.journal.disk disk (λ (image : List ℕ). g.D.Disk.may_leave c.args.journal.disk image ⊎ HoldsIfTold g.D.Disk.content c.args.journal.disk c.args.memory.kept.current image)) (sym c.into_disk.ensures) (leaves_weaker g.D.Disk.moment g.D.Disk.may_have_left c.args.journal.disk c.mark.new.self.disk (λ (image : List ℕ). g.D.Disk.may_leave c.args.journal.disk image ⊎ StandsAfter g.D.Disk.content c.args.journal None image) (λ (image : List ℕ). g.D.Disk.may_leave c.args.journal.disk image ⊎ HoldsIfTold g.D.Disk.content c.args.journal.disk c.args.memory.kept.current image) c.mark.ensures.any_moment
    (λ image left. ⊎_elim (λ was. inl was) (λ stands. inr (image_holds c.args.journal.gate (g.D.Disk.content c.args.journal.disk) c.args.memory.kept.current image c.requires.stored stands)) left))
