use Rattle.std.proofs.Common.{ℤ, pos, get_or, ◌∙◌, rules, w64, SFits}
use Rattle.std.proofs.lemmas.Int.{to_z-of_z}
use Rattle.ak_faults.proofs.Healths.{goes_further}
use Rattle.ak_types.proofs.NoteParts.{more_kept}
use Rattle.ak_types.proofs.retyped_notes.kept_cards.Goals as goal

pub loop-id-preserved : goal.loop-id-preserved
loop-id-preserved g c =
    let K = g.K.Lookup in
    let id : ℤ = get_or c.args.ids.now c.loop-id.id-index (pos 0) in
    let fits : SFits w64 id = search rules in
    record {
      kept = c.in_ok-add_kept.ensures.reads.kept ∙ c.loop-id.invariant.kept;
      same = c.in_ok-add_kept.ensures.reads.same ∙ c.loop-id.invariant.same;
      told = more_kept (K.keeping c.args.keeper.now) c.args.retyping.now.given.now c.args.retyping.now.old.now c.args.ids.now c.loop-id.id-index c.loop-id.kept c.add_kept.new.kept c.loop-id-test.true
          c.loop-id.invariant.told (rw c.loop-id.invariant.same at (rw (to_z-of_z w64 id fits) at c.in_ok-add_kept.ensures.reads.told));
      goes = goes_further c.loop-id.invariant.goes c.in_ok-add_kept.ensures.reads.cause.goes;
    }
