use Rattle.std.proofs.Common.{◌≡◌, ◌-◌, ◌≤◌, List, ℕ, length, drop, ◌∙◌, arith, length-take, length-drop}
use Rattle.ak_disks.specs.Disks.{IsRead}
use Rattle.ak_faults.proofs.Healths.{goes_further}
use Rattle.ak_journals.proofs.Filling.{filled, length-put}
use Rattle.ak_journals.proofs.Moments.{elapses_next}
use Rattle.ak_journals.proofs.Told.{for_some}
use Rattle.ak_journals.proofs.reads.fill.Goals as goal

pub loop-done-preserved : goal.loop-done-preserved
loop-done-preserved g c =
    let so_far = c.loop-done.invariant in
    let part : length c.read_at.new.into ≡ length c.loop-done.into - c.loop-done.done =
    omega (arith, c.read_at.auto.into, length-take (length c.loop-done.into - c.loop-done.done) (drop c.loop-done.done c.loop-done.into), length-drop c.loop-done.done c.loop-done.into) in
    let long = length-put c.loop-done.into c.read_at.new.into c.loop-done.done c.loop-done.invariant.within part in
    let some : c.in_ok-count.count ≤ length c.read_at.new.into = omega (arith, c.in_ok-count.ensures.bound) in
    record {
      within = omega (arith, long, part, some, c.loop-done.invariant.within);
      told = λ file named same.
          let piece = for_some (g.D.Disk.content c.loop-done.disk) (λ (f : List ℕ). IsRead f c.loop-done.done c.in_ok-count.count c.read_at.new.into) c.in_ok-count.ensures.told file (so_far.same ∙ named) in
          filled c.loop-done.into c.read_at.new.into file c.loop-done.done c.in_ok-count.count so_far.within some (so_far.told file named (same ∙ long)) piece.bytes;
      same = c.read_at.ensures.same ∙ so_far.same;
      crash = λ image left. so_far.crash image (c.read_at.ensures.crash image left);
      time = elapses_next so_far.time c.read_at.ensures.time (λ image now. so_far.crash image (c.read_at.ensures.crash image now));
      calm = c.in_ok-count.ensures.calm ∙ so_far.calm;
      goes = goes_further so_far.goes c.read_at.ensures.cause.goes;
    }
