use Rattle.std.proofs.Common.{ℤ, pos, get_or, ◌∙◌, rules, w64, SFits}
use Rattle.std.proofs.lemmas.Int.{to_z-of_z}
use Rattle.ak_faults.proofs.Healths.{goes_further}
use Rattle.ak_study.proofs.BuriedSiblings.{put_one}
use Rattle.ak_study.proofs.siblings.bury_siblings.Goals as goal

pub loop-id-preserved : goal.loop-id-preserved
loop-id-preserved g c =
    let R = g.R.Lookup in
    let id : ℤ = get_or c.args.ids.now c.loop-id.id-index (pos 0) in
    let fits : SFits w64 id = search rules in
    record {
      kept = c.in_ok-bury_sibling.ensures.reads.kept ∙ c.loop-id.invariant.kept;
      same = c.in_ok-bury_sibling.ensures.reads.same ∙ c.loop-id.invariant.same;
      put = put_one (R.keeping c.args.from.now) c.args.ids.now c.loop-id.id-index c.args.change.now c.loop-id.change c.bury_sibling.new.change c.loop-id-test.true
          c.loop-id.invariant.put (rw c.loop-id.invariant.same at (rw (to_z-of_z w64 id fits) at c.in_ok-bury_sibling.ensures.reads.told));
      goes = goes_further c.loop-id.invariant.goes c.in_ok-bury_sibling.ensures.reads.cause.goes;
    }
