use Rattle.std.proofs.Common.{ℤ, pos, get_or, ◌∙◌, rules, w64, SFits}
use Rattle.std.proofs.lemmas.Int.{to_z-of_z}
use Rattle.ak_base.specs.declared.names.Table.TheVariants as tables
use Rattle.ak_edit_calls.proofs.Missing.{passed_one}
use Rattle.ak_faults.proofs.Healths.{goes_further}
use Rattle.ak_notes.proofs.DeletionRules.{removed_one}
use Rattle.ak_notes.proofs.deletions.remove_notes.Goals as goal

pub loop-id-preserved : goal.loop-id-preserved
loop-id-preserved g c =
    let K = g.K.Lookup in
    let id : ℤ = get_or c.args.notes.now c.loop-id.id-index (pos 0) in
    let fits : SFits w64 id = search rules in
    record {
      same = c.in_ok-remove_note.ensures.same ∙ c.loop-id.invariant.same;
      removed = removed_one (K.keeping c.args.keeper.now) c.args.notes.now c.loop-id.id-index c.args.change.now c.loop-id.change c.remove_note.new.change c.loop-id-test.true
          c.loop-id.invariant.removed (rw c.loop-id.invariant.same at (rw (to_z-of_z w64 id fits) at c.in_ok-remove_note.ensures.ok));
      missing = passed_one (K.keeping c.args.keeper.now) tables.Note c.args.notes.now c.loop-id.id-index c.in_ok-remove_note.field-0 c.loop-id-test.true
          c.loop-id.invariant.missing (rw c.loop-id.invariant.same at (rw (to_z-of_z w64 id fits) at c.in_ok-remove_note.ensures.refused));
      goes = goes_further c.loop-id.invariant.goes c.in_ok-remove_note.ensures.cause.goes;
    }
