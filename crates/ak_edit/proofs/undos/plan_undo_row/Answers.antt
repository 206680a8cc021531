use Rattle.std.proofs.Common.{◌≡◌, Ok, Option, w64, SFits, ap, ◌∙◌, rules}
use Rattle.std.proofs.lemmas.Int.{to_z-of_z}
use Rattle.std.specs.FinMap.{get}
use Rattle.std.specs.Option.{option_map_or}
use Rattle.ak_base.specs.Rows.{check_of}
use Rattle.ak_base.specs.declared.rows.Row.{Row}
use Rattle.ak_keep.proofs.Causing.{cause-ok}
use Rattle.ak_keep.proofs.Told.{where_told-map}
use Rattle.ak_edit.proofs.Undoing.{write_so}
use Rattle.ak_edit.proofs.UnsentRows.{put_back_passes}
use Rattle.ak_edit.specs.UndoPlans.{undo_write}
use Rattle.ak_edit.specs.declared.plans.Write.{Write}
use Rattle.ak_edit.proofs.undos.plan_undo_row.Goals as goal

pub returns-clause-reads : goal.returns-clause-reads
returns-clause-reads g c =
    let K = g.K.Lookup in
    let fits : SFits w64 c.undo_stamp-stamp.result = search rules in
    let write : Write = record { name = c.args.before.now.name; before = c.in_ok-present.present; row = c.in_ok-row.row; stamp = c.undo_stamp-stamp.result } in
    rw (to_z-of_z w64 c.undo_stamp-stamp.result fits)
    (record {
      kept = c.in_ok-present.ensures.reads.kept;
      same = c.in_ok-present.ensures.reads.same;
      cause = cause-ok _ c.in_ok-present.ensures.reads.cause.goes;
      told = where_told-map (K.keeping c.args.keeper.now) (λ h. c.in_ok-present.present ≡ get h.rows c.args.before.now.name)
          (λ h. write ≡ undo_write c.args.now.second (get h.rows) c.args.before.now)
          (λ h held. write_so c.args.now.second (get h.rows) c.args.before.now c.in_ok-present.present c.in_ok-row.row c.undo_stamp-stamp.result held c.in_ok-row.ensures c.undo_stamp-stamp.ensures)
          c.in_ok-present.ensures.reads.told;
    })

pub returns-clause-passing : goal.returns-clause-passing
returns-clause-passing g c = ap (λ (row : Option Row). option_map_or check_of row (Ok tt)) c.in_ok-row.ensures ∙ put_back_passes c.args.before.now.name c.args.before.now.row c.requires
