use Rattle.std.proofs.Common.{List, ℕ, sym, ◌∙◌, subst, Option}
use Rattle.std.specs.Prelude.{IfSome}
use Rattle.ak_disks.specs.Disks.{Only}
use Rattle.ak_journals.proofs.Moments.{elapses_weaker, elapses_next}
use Rattle.ak_journals.proofs.Told.{becomes_cut, on_err}
use Rattle.ak_journals.proofs.steps.cut_synced.Goals as goal

pub returns-in_err-cut-clause-time : goal.returns-in_err-cut-clause-time
returns-in_err-cut-clause-time g c = elapses_weaker c.cut.ensures.time c.cut.ensures.crash

pub returns-in_err-sync-clause-refused : goal.returns-in_err-sync-clause-refused
returns-in_err-sync-clause-refused g c =
    on_err c.from_residual-in_err-sync.result (becomes_cut c.args.size _ _ (c.sync.ensures.same ∙ c.in_ok-cut.ensures.shortened))

pub returns-in_err-sync-clause-crash : goal.returns-in_err-sync-clause-crash
returns-in_err-sync-clause-crash g c image left = c.cut.ensures.crash image (c.sync.ensures.crash image left)

pub returns-in_err-sync-clause-time : goal.returns-in_err-sync-clause-time
returns-in_err-sync-clause-time g c =
    elapses_next (elapses_weaker c.cut.ensures.time c.cut.ensures.crash) c.sync.ensures.time (λ image now. c.cut.ensures.crash image (c.sync.ensures.crash image now))

pub returns-clause-crash : goal.returns-clause-crash
returns-clause-crash g c image left = c.cut.ensures.crash image (c.sync.ensures.crash image left)

pub returns-clause-time : goal.returns-clause-time
returns-clause-time g c =
    elapses_next (elapses_weaker c.cut.ensures.time c.cut.ensures.crash) c.sync.ensures.time (λ image now. c.cut.ensures.crash image (c.sync.ensures.crash image now))

pub returns-clause-durable : goal.returns-clause-durable
returns-clause-durable g c =
    subst (λ (o : Option (List ℕ)). IfSome o (Only (g.D.Disk.may_leave c.sync.new.self))) (sym c.sync.ensures.same) c.in_ok-sync.ensures.durable
