use Rattle.std.proofs.Common.{arith}
use Rattle.ak_cardgen.proofs.Generating.{shown_end, shown_step}
use Rattle.ak_cardgen.proofs.fronts.shown_ords.Goals as goal

pub loop-place-preserved : goal.loop-place-preserved
loop-place-preserved c = λ templates are. shown_step c.args.face.now c.loop-place.place templates c.args.fronts.now c.index-fronts-place.result c.loop-place.ords c.add_place.new.ords are c.loop-place-test.true c.index-fronts-place.is c.in_ok-add_place.ensures (c.loop-place.invariant templates are)

pub returns : goal.returns
returns c = λ templates are. shown_end c.args.face.now c.loop-place.place templates c.args.fronts.now c.loop-place.ords are (omega arith) (c.loop-place.invariant templates are)
