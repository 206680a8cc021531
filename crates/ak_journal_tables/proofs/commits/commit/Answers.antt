use Rattle.std.proofs.Common.{◌⊎◌, inl, ℕ, List, [], ◌∷◌, ◌++◌, Option, Some, Vec, ap, ◌∙◌}
use Rattle.std.specs.Option.{option_map}
use Rattle.std.specs.declared.alloc.Global.{Global}
use Rattle.ak_journals.specs.Journals.{StandsAfter, kept, under_way}
use Rattle.ak_journal_changes.proofs.Differences.{makes}
use Rattle.ak_tables.specs.Tables.{holding}
use Rattle.ak_journal_tables.proofs.Images.{image_holds_either, image_lasts, stores_more}
use Rattle.ak_journal_tables.proofs.Runs.{crash_leaves, crash_leaves_nothing}
use Rattle.ak_journal_tables.specs.Holdings.{HoldsIfTold}
use Rattle.ak_journal_tables.proofs.commits.commit.Goals as goal

-- nothing was done
pub returns-in_err-change-clause-any_moment : goal.returns-in_err-change-clause-any_moment
returns-in_err-change-clause-any_moment g c = λ was stored covers. crash_leaves_nothing g.D.Disk.moment g.D.Disk.may_have_left c.args.journal.now (λ (image : List ℕ). HoldsIfTold g.D.Disk.content c.args.journal.now.disk was image ⊎ HoldsIfTold g.D.Disk.content c.args.journal.now.disk (holding c.args.rows.now.current c.args.head.now) image)
    (λ image left. inl (image_lasts c.args.journal.now.gate c.args.journal.now.ready (under_way c.args.journal.now) (g.D.Disk.content c.args.journal.now.disk) (g.D.Disk.may_leave c.args.journal.now.disk) was image
    (ap (λ (o : Option (Vec ℕ Global)). option_map (λ (p : Vec ℕ Global). p.items) o) (c.requires.in_order.none c.requires.ready)) c.requires.in_order.told stored (g.met.D.Disk.only_now c.args.journal.now.disk image left)))

pub returns-in_err-payload-clause-any_moment : goal.returns-in_err-payload-clause-any_moment
returns-in_err-payload-clause-any_moment g c = λ was stored covers. crash_leaves_nothing g.D.Disk.moment g.D.Disk.may_have_left c.args.journal.now (λ (image : List ℕ). HoldsIfTold g.D.Disk.content c.args.journal.now.disk was image ⊎ HoldsIfTold g.D.Disk.content c.args.journal.now.disk (holding c.args.rows.now.current c.args.head.now) image)
    (λ image left. inl (image_lasts c.args.journal.now.gate c.args.journal.now.ready (under_way c.args.journal.now) (g.D.Disk.content c.args.journal.now.disk) (g.D.Disk.may_leave c.args.journal.now.disk) was image
    (ap (λ (o : Option (Vec ℕ Global)). option_map (λ (p : Vec ℕ Global). p.items) o) (c.requires.in_order.none c.requires.ready)) c.requires.in_order.told stored (g.met.D.Disk.only_now c.args.journal.now.disk image left)))

-- it was committed
pub returns-in-Ok-clause-ok : goal.returns-in-Ok-clause-ok
returns-in-Ok-clause-ok g c = λ was stored covers. stores_more c.in_ok-payload.payload.items c.in_ok-change.change was (holding c.args.rows.now.current c.args.head.now) c.in_ok-payload.ensures (makes c.args.touched.now was (holding c.args.rows.now.current c.args.head.now) c.in_ok-change.change c.in_ok-change.ensures.formed c.in_ok-change.ensures.change covers) (kept g.D.Disk.content c.args.journal.now) (kept g.D.Disk.content c.commit.new.self) c.in-Ok.ensures.kept stored

pub returns-in-Ok-clause-any_moment : goal.returns-in-Ok-clause-any_moment
returns-in-Ok-clause-any_moment g c = λ was stored covers. crash_leaves g.D.Disk.moment g.D.Disk.may_have_left c.args.journal.now c.commit.new.self (StandsAfter g.D.Disk.content c.args.journal.now (Some c.in_ok-payload.payload.items))
    (λ (image : List ℕ). HoldsIfTold g.D.Disk.content c.args.journal.now.disk was image ⊎ HoldsIfTold g.D.Disk.content c.args.journal.now.disk (holding c.args.rows.now.current c.args.head.now) image) c.commit.ensures.any_moment
    (λ image stands. image_holds_either c.args.journal.now.gate c.in_ok-payload.payload.items c.in_ok-change.change was (holding c.args.rows.now.current c.args.head.now) c.in_ok-payload.ensures (makes c.args.touched.now was (holding c.args.rows.now.current c.args.head.now) c.in_ok-change.change c.in_ok-change.ensures.formed c.in_ok-change.ensures.change covers) (g.D.Disk.content c.args.journal.now.disk) image stored stands)

pub returns-in-Ok-clause-lasts : goal.returns-in-Ok-clause-lasts
returns-in-Ok-clause-lasts g c = λ was stored covers image left. image_lasts c.commit.new.self.gate c.commit.new.self.ready (under_way c.commit.new.self) (g.D.Disk.content c.commit.new.self.disk) (g.D.Disk.may_leave c.commit.new.self.disk) (holding c.args.rows.now.current c.args.head.now) image
    (ap (λ (o : Option (Vec ℕ Global)). option_map (λ (p : Vec ℕ Global). p.items) o) c.in-Ok.ensures.done) c.commit.ensures.in_order.told
    (stores_more c.in_ok-payload.payload.items c.in_ok-change.change was (holding c.args.rows.now.current c.args.head.now) c.in_ok-payload.ensures (makes c.args.touched.now was (holding c.args.rows.now.current c.args.head.now) c.in_ok-change.change c.in_ok-change.ensures.formed c.in_ok-change.ensures.change covers) (kept g.D.Disk.content c.args.journal.now) (kept g.D.Disk.content c.commit.new.self) c.in-Ok.ensures.kept stored) (g.met.D.Disk.only_now c.commit.new.self.disk image left)

pub returns-in-Ok-clause-frame : goal.returns-in-Ok-clause-frame
returns-in-Ok-clause-frame g c = λ payloads told. (
  c.in_ok-payload.payload.items,
  c.in_ok-change.change,
  c.in-Ok.ensures.kept ∙ ap (λ (o : Option (List (List ℕ))). option_map (λ (these : List (List ℕ)). these ++ c.in_ok-payload.payload.items ∷ []) o) told,
  c.in_ok-payload.ensures,
  c.in_ok-change.ensures.change,
)

-- it was refused
pub returns-in-Err-Failed-clause-any_moment : goal.returns-in-Err-Failed-clause-any_moment
returns-in-Err-Failed-clause-any_moment g c = λ was stored covers. crash_leaves g.D.Disk.moment g.D.Disk.may_have_left c.args.journal.now c.commit.new.self (StandsAfter g.D.Disk.content c.args.journal.now (Some c.in_ok-payload.payload.items))
    (λ (image : List ℕ). HoldsIfTold g.D.Disk.content c.args.journal.now.disk was image ⊎ HoldsIfTold g.D.Disk.content c.args.journal.now.disk (holding c.args.rows.now.current c.args.head.now) image) c.commit.ensures.any_moment
    (λ image stands. image_holds_either c.args.journal.now.gate c.in_ok-payload.payload.items c.in_ok-change.change was (holding c.args.rows.now.current c.args.head.now) c.in_ok-payload.ensures (makes c.args.touched.now was (holding c.args.rows.now.current c.args.head.now) c.in_ok-change.change c.in_ok-change.ensures.formed c.in_ok-change.ensures.change covers) (g.D.Disk.content c.args.journal.now.disk) image stored stands)

pub returns-clause-any_moment : goal.returns-clause-any_moment
returns-clause-any_moment g c = λ was stored covers. crash_leaves g.D.Disk.moment g.D.Disk.may_have_left c.args.journal.now c.commit.new.self (StandsAfter g.D.Disk.content c.args.journal.now (Some c.in_ok-payload.payload.items))
    (λ (image : List ℕ). HoldsIfTold g.D.Disk.content c.args.journal.now.disk was image ⊎ HoldsIfTold g.D.Disk.content c.args.journal.now.disk (holding c.args.rows.now.current c.args.head.now) image) c.commit.ensures.any_moment
    (λ image stands. image_holds_either c.args.journal.now.gate c.in_ok-payload.payload.items c.in_ok-change.change was (holding c.args.rows.now.current c.args.head.now) c.in_ok-payload.ensures (makes c.args.touched.now was (holding c.args.rows.now.current c.args.head.now) c.in_ok-change.change c.in_ok-change.ensures.formed c.in_ok-change.ensures.change covers) (g.D.Disk.content c.args.journal.now.disk) image stored stands)
