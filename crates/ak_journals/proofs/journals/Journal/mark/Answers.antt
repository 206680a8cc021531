use Rattle.std.proofs.Common.{◌⊎◌, inl, List, ℕ, refl, sym, ◌∙◌, None}
use Rattle.std.proofs.lemmas.Bool.{false≢true}
use Rattle.ak_journals.specs.Journals.{StandsAfter, under_way}
use Rattle.ak_journals.proofs.Marks.{gate_within, mid_within, cut_spares, cut_order, cut_kept, lone_spares, lone_order, lone_kept, shut_order, shut_kept}
use Rattle.ak_journals.proofs.Moments.{elapses_weaker, elapses_next, elapses_not, leaves_only}
use Rattle.ak_journals.proofs.journals.Journal.mark.Goals as goal

pub returns-then-self-clause-any_moment : goal.returns-then-self-clause-any_moment
returns-then-self-clause-any_moment g c =
    leaves_only g.D.Disk.moment g.D.Disk.may_have_left (g.D.Disk.may_leave c.args.self.now.disk) c.args.self.now.disk c.args.self.now.disk (λ (image : List ℕ). g.D.Disk.may_leave c.args.self.now.disk image ⊎ StandsAfter g.D.Disk.content c.args.self.now None image) (g.met.D.Disk.only_now c.args.self.now.disk)
    elapses_not
    (λ image left. inl left)

pub cut_synced-requires : goal.cut_synced-requires
cut_synced-requires g c = gate_within c.args.self.now.gate c.args.self.now.ready (under_way c.args.self.now) (g.D.Disk.content c.args.self.now.disk) (g.D.Disk.may_leave c.args.self.now.disk) c.requires.told

-- the cut was refused
pub returns-in_err-cut_synced-clause-in_order : goal.returns-in_err-cut_synced-clause-in_order
returns-in_err-cut_synced-clause-in_order g c = record {
  fits = c.requires.fits;
  none = c.requires.none;
  told = cut_order c.args.self.now.gate c.args.self.now.ready (under_way c.args.self.now) (g.D.Disk.content c.args.self.now.disk) (g.D.Disk.may_leave c.args.self.now.disk) c.requires.told (λ ready. false≢true (sym c.if-self.false ∙ ready)) (g.D.Disk.content c.cut_synced.new.disk) (g.D.Disk.may_leave c.cut_synced.new.disk) c.in_err-cut_synced.ensures.refused c.cut_synced.ensures.crash;
}

pub returns-in_err-cut_synced-clause-kept : goal.returns-in_err-cut_synced-clause-kept
returns-in_err-cut_synced-clause-kept g c = cut_kept c.args.self.now.gate c.args.self.now.ready (under_way c.args.self.now) (g.D.Disk.content c.args.self.now.disk) (g.D.Disk.may_leave c.args.self.now.disk) c.requires.told (g.D.Disk.content c.cut_synced.new.disk) c.in_err-cut_synced.ensures.refused

pub returns-in_err-cut_synced-clause-any_moment : goal.returns-in_err-cut_synced-clause-any_moment
returns-in_err-cut_synced-clause-any_moment g c =
    leaves_only g.D.Disk.moment g.D.Disk.may_have_left (g.D.Disk.may_leave c.args.self.now.disk) c.args.self.now.disk c.cut_synced.new.disk (λ (image : List ℕ). g.D.Disk.may_leave c.args.self.now.disk image ⊎ StandsAfter g.D.Disk.content c.args.self.now None image) (g.met.D.Disk.only_now c.args.self.now.disk)
    (elapses_weaker c.cut_synced.ensures.time (cut_spares c.args.self.now.gate c.args.self.now.ready (under_way c.args.self.now) (g.D.Disk.content c.args.self.now.disk) (g.D.Disk.may_leave c.args.self.now.disk) c.requires.told))
    (λ image left. inl left)

pub write_synced-requires : goal.write_synced-requires
write_synced-requires g c = mid_within c.args.self.now.gate c.args.self.now.ready (under_way c.args.self.now) (g.D.Disk.content c.args.self.now.disk) (g.D.Disk.may_leave c.args.self.now.disk) c.requires.told (g.D.Disk.content c.cut_synced.new.disk) (g.D.Disk.may_leave c.cut_synced.new.disk) c.in_ok-cut_synced.ensures.shortened c.in_ok-cut_synced.ensures.durable

-- the gate's write was refused
pub returns-in_err-write_synced-clause-in_order : goal.returns-in_err-write_synced-clause-in_order
returns-in_err-write_synced-clause-in_order g c = record {
  fits = c.requires.fits;
  none = c.requires.none;
  told = lone_order c.args.self.now.gate c.args.self.now.ready (under_way c.args.self.now) (g.D.Disk.content c.args.self.now.disk) (g.D.Disk.may_leave c.args.self.now.disk) c.requires.told (g.D.Disk.content c.cut_synced.new.disk) (g.D.Disk.may_leave c.cut_synced.new.disk) c.in_ok-cut_synced.ensures.shortened c.in_ok-cut_synced.ensures.durable (λ ready. false≢true (sym c.if-self.false ∙ ready)) (g.D.Disk.content c.write_synced.new.disk) (g.D.Disk.may_leave c.write_synced.new.disk) c.in_err-write_synced.ensures.refused c.write_synced.ensures.crash;
}

pub returns-in_err-write_synced-clause-kept : goal.returns-in_err-write_synced-clause-kept
returns-in_err-write_synced-clause-kept g c = lone_kept c.args.self.now.gate c.args.self.now.ready (under_way c.args.self.now) (g.D.Disk.content c.args.self.now.disk) (g.D.Disk.may_leave c.args.self.now.disk) c.requires.told (g.D.Disk.content c.cut_synced.new.disk) (g.D.Disk.may_leave c.cut_synced.new.disk) c.in_ok-cut_synced.ensures.shortened c.in_ok-cut_synced.ensures.durable (g.D.Disk.content c.write_synced.new.disk) c.in_err-write_synced.ensures.refused

pub returns-in_err-write_synced-clause-any_moment : goal.returns-in_err-write_synced-clause-any_moment
returns-in_err-write_synced-clause-any_moment g c =
    leaves_only g.D.Disk.moment g.D.Disk.may_have_left (g.D.Disk.may_leave c.args.self.now.disk) c.args.self.now.disk c.write_synced.new.disk (λ (image : List ℕ). g.D.Disk.may_leave c.args.self.now.disk image ⊎ StandsAfter g.D.Disk.content c.args.self.now None image) (g.met.D.Disk.only_now c.args.self.now.disk)
    (elapses_next (elapses_weaker c.cut_synced.ensures.time (cut_spares c.args.self.now.gate c.args.self.now.ready (under_way c.args.self.now) (g.D.Disk.content c.args.self.now.disk) (g.D.Disk.may_leave c.args.self.now.disk) c.requires.told)) c.write_synced.ensures.time (lone_spares c.args.self.now.gate c.args.self.now.ready (under_way c.args.self.now) (g.D.Disk.content c.args.self.now.disk) (g.D.Disk.may_leave c.args.self.now.disk) c.requires.told (g.D.Disk.content c.cut_synced.new.disk) (g.D.Disk.may_leave c.cut_synced.new.disk) c.in_ok-cut_synced.ensures.shortened c.in_ok-cut_synced.ensures.durable))
    (λ image left. inl left)

-- both were done
pub returns-clause-in_order : goal.returns-clause-in_order
returns-clause-in_order g c = record {
  fits = c.requires.fits;
  none = λ ready. refl;
  told = shut_order c.args.self.now.gate c.args.self.now.ready (under_way c.args.self.now) (g.D.Disk.content c.args.self.now.disk) (g.D.Disk.may_leave c.args.self.now.disk) c.requires.told (g.D.Disk.content c.cut_synced.new.disk) (g.D.Disk.may_leave c.cut_synced.new.disk) c.in_ok-cut_synced.ensures.shortened c.in_ok-cut_synced.ensures.durable (g.D.Disk.content c.write_synced.new.disk) (g.D.Disk.may_leave c.write_synced.new.disk) c.in_ok-write_synced.ensures.written c.in_ok-write_synced.ensures.durable;
}

pub returns-clause-kept : goal.returns-clause-kept
returns-clause-kept g c = shut_kept c.args.self.now.gate c.args.self.now.ready (under_way c.args.self.now) (g.D.Disk.content c.args.self.now.disk) (g.D.Disk.may_leave c.args.self.now.disk) c.requires.told (g.D.Disk.content c.cut_synced.new.disk) (g.D.Disk.may_leave c.cut_synced.new.disk) c.in_ok-cut_synced.ensures.shortened c.in_ok-cut_synced.ensures.durable (g.D.Disk.content c.write_synced.new.disk) (g.D.Disk.may_leave c.write_synced.new.disk) c.in_ok-write_synced.ensures.written c.in_ok-write_synced.ensures.durable

pub returns-clause-any_moment : goal.returns-clause-any_moment
returns-clause-any_moment g c =
    leaves_only g.D.Disk.moment g.D.Disk.may_have_left (g.D.Disk.may_leave c.args.self.now.disk) c.args.self.now.disk c.write_synced.new.disk (λ (image : List ℕ). g.D.Disk.may_leave c.args.self.now.disk image ⊎ StandsAfter g.D.Disk.content c.args.self.now None image) (g.met.D.Disk.only_now c.args.self.now.disk)
    (elapses_next (elapses_weaker c.cut_synced.ensures.time (cut_spares c.args.self.now.gate c.args.self.now.ready (under_way c.args.self.now) (g.D.Disk.content c.args.self.now.disk) (g.D.Disk.may_leave c.args.self.now.disk) c.requires.told)) c.write_synced.ensures.time (lone_spares c.args.self.now.gate c.args.self.now.ready (under_way c.args.self.now) (g.D.Disk.content c.args.self.now.disk) (g.D.Disk.may_leave c.args.self.now.disk) c.requires.told (g.D.Disk.content c.cut_synced.new.disk) (g.D.Disk.may_leave c.cut_synced.new.disk) c.in_ok-cut_synced.ensures.shortened c.in_ok-cut_synced.ensures.durable))
    (λ image left. inl left)
