use Rattle.std.proofs.Common.{◌⊎◌, inl, inr, ℕ, List, Vec, ap, sym, subst, arith}
use Rattle.std.specs.declared.alloc.Global.{Global}
use Rattle.std.specs.Prelude.{Err}
use Rattle.std.proofs.lemmas.Result.{err_from_is_err_and}
use Rattle.ak_journal_forms.specs.Frames.{frames_length}
use Rattle.ak_base.specs.Bytes.{bytes_of_each}
use Rattle.ak_journal_rows.specs.Changes.{nothing_held}
use Rattle.ak_journal_rows.specs.Texts.{LeadTo}
use Rattle.ak_journals.specs.Moments.{LeavesOnly}
use Rattle.ak_journals.specs.declared.openings.JournalFault.{JournalFault}
use Rattle.ak_keep.specs.Collections.{Holding}
use Rattle.ak_keep.specs.Marks.{WithMark}
use Rattle.ak_journal_tables.proofs.Images.{file_holds, holds_same}
use Rattle.ak_journal_tables.proofs.Results.{if_err, if_ok, if_ok_both}
use Rattle.ak_journal_tables.proofs.Runs.{leaves_next, leaves_weaker}
use Rattle.ak_journal_tables.specs.Holdings.{HoldsIfTold, HoldsTheSame, IsOtherOf}
use Rattle.ak_journal_tables.proofs.openings.open.Goals as goal

-- the disk was not read, or is damaged
pub returns-in_err-opened-clause-any_moment_err : goal.returns-in_err-opened-clause-any_moment_err
returns-in_err-opened-clause-any_moment_err g c =
    let p = err_from_is_err_and c.from_residual.result c.from_residual.ensures.1 in
    rw (p.1, p.2) (leaves_weaker g.D.Disk.moment g.D.Disk.may_have_left c.args.disk c.in_err-opened.field-0.0.1 (g.D.Disk.may_leave c.args.disk) (λ (image : List ℕ). g.D.Disk.may_leave c.args.disk image ⊎ HoldsTheSame g.D.Disk.content c.args.disk image) c.in_err-opened.ensures.any_moment_err (λ image left. inl left))

pub returns-in_err-opened-clause-damaged : goal.returns-in_err-opened-clause-damaged
returns-in_err-opened-clause-damaged g c =
    let p = err_from_is_err_and c.from_residual.result c.from_residual.ensures.1 in
    rw (p.1, p.2) (λ place is file named. inl (c.in_err-opened.ensures.damaged place is file named))

pub collection_of-requires : goal.collection_of-requires
collection_of-requires g c = omega (arith, c.in_ok-opened.ensures.gate, c.in_ok-opened.ensures.in_order.fits, ap (λ (these : List (Vec ℕ Global)). frames_length (bytes_of_each these)) c.as_slice.ensures.value)

pub returns-in-Ok-clause-any_moment : goal.returns-in-Ok-clause-any_moment
returns-in-Ok-clause-any_moment g c = if_ok _ _ c.ready_keeper.result (λ keeper leaves. leaves_next g.D.Disk.moment g.D.Disk.may_have_left g.D.Disk.may_leave c.args.disk c.in_ok-opened.opened.journal.disk keeper.tables.disk (HoldsIfTold g.D.Disk.content c.in_ok-opened.opened.journal.disk c.in-Ok.memory.kept.current) (HoldsTheSame g.D.Disk.content c.args.disk)
    (g.met.D.Disk.counts_now c.in_ok-opened.opened.journal.disk) c.in_ok-opened.ensures.any_moment leaves (λ image holds. holds_same (g.D.Disk.content c.args.disk) (g.D.Disk.content c.in_ok-opened.opened.journal.disk) c.in-Ok.memory.kept.current image c.in_ok-opened.ensures.same (file_holds (g.D.Disk.content c.args.disk) (bytes_of_each c.in_ok-opened.opened.payloads.items) c.in-Ok.memory.kept.current c.in_ok-opened.ensures.read (subst (λ (these : List (Vec ℕ Global)). LeadTo nothing_held (bytes_of_each these) c.in-Ok.memory.kept.current) c.as_slice.ensures.value c.in-Ok.ensures.led)) holds)) c.ready_keeper.ensures.any_moment

pub returns-in-Ok-clause-any_moment_err : goal.returns-in-Ok-clause-any_moment_err
returns-in-Ok-clause-any_moment_err g c = if_err _ _ c.ready_keeper.result (λ refused leaves. leaves_next g.D.Disk.moment g.D.Disk.may_have_left g.D.Disk.may_leave c.args.disk c.in_ok-opened.opened.journal.disk refused.1 (HoldsIfTold g.D.Disk.content c.in_ok-opened.opened.journal.disk c.in-Ok.memory.kept.current) (HoldsTheSame g.D.Disk.content c.args.disk)
    (g.met.D.Disk.counts_now c.in_ok-opened.opened.journal.disk) c.in_ok-opened.ensures.any_moment leaves (λ image holds. holds_same (g.D.Disk.content c.args.disk) (g.D.Disk.content c.in_ok-opened.opened.journal.disk) c.in-Ok.memory.kept.current image c.in_ok-opened.ensures.same (file_holds (g.D.Disk.content c.args.disk) (bytes_of_each c.in_ok-opened.opened.payloads.items) c.in-Ok.memory.kept.current c.in_ok-opened.ensures.read (subst (λ (these : List (Vec ℕ Global)). LeadTo nothing_held (bytes_of_each these) c.in-Ok.memory.kept.current) c.as_slice.ensures.value c.in-Ok.ensures.led)) holds)) c.ready_keeper.ensures.any_moment_err

pub returns-in-Ok-clause-lasts : goal.returns-in-Ok-clause-lasts
returns-in-Ok-clause-lasts g c =
    if_ok_both _ _ _ c.ready_keeper.result
    (λ keeper same lasts. subst (λ (w : WithMark Holding). (image : List ℕ) → g.D.Disk.may_have_left keeper.tables.disk (g.D.Disk.moment keeper.tables.disk) image → HoldsIfTold g.D.Disk.content keeper.tables.disk w.current image) (sym same) lasts)
    c.ready_keeper.ensures.kept c.ready_keeper.ensures.lasts

-- a payload is that of no change
pub returns-clause-damaged : goal.returns-clause-damaged
returns-clause-damaged g c = λ place is file named. inr (
  (bytes_of_each c.in_ok-opened.opened.payloads.items),
  c.in_ok-opened.ensures.read file named,
  subst (λ (these : List (Vec ℕ Global)). IsOtherOf place (bytes_of_each these)) c.as_slice.ensures.value (c.in-Err.ensures.damaged place (ap (λ (fault : JournalFault). Err fault) is)),
)

pub returns-clause-any_moment_err : goal.returns-clause-any_moment_err
returns-clause-any_moment_err g c = subst (λ (left : g.row.D.Denot). LeavesOnly g.D.Disk.moment g.D.Disk.may_have_left c.args.disk left (λ (image : List ℕ). g.D.Disk.may_leave c.args.disk image ⊎ HoldsTheSame g.D.Disk.content c.args.disk image)) (sym c.into_disk.ensures)
    (leaves_weaker g.D.Disk.moment g.D.Disk.may_have_left c.args.disk c.in_ok-opened.opened.journal.disk (g.D.Disk.may_leave c.args.disk) (λ (image : List ℕ). g.D.Disk.may_leave c.args.disk image ⊎ HoldsTheSame g.D.Disk.content c.args.disk image) c.in_ok-opened.ensures.any_moment (λ image left. inl left))
