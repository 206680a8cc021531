use Rattle.std.proofs.Common.{w64}
use Rattle.std.proofs.lemmas.Int.{to_z-of_z}
use Rattle.ak_device.proofs.Closing.{committed_after}
use Rattle.ak_keep.specs.Keepers.{moments_set}
use Rattle.ak_device.proofs.closings.commit_moments.Goals as goal

pub returns-clause-ok : goal.returns-clause-ok
returns-clause-ok g c =
    committed_after c.set_moments-made.result c.keep_or_back.result (moments_set c.args.moment c.args.schema c.args.usn c.args.last_sync)
    (g.K.Lookup.keeping c.args.keeper.now) (g.K.Lookup.keeping c.set_moments-made.new.self) (g.K.Lookup.keeping c.keep_or_back.new.keeper)
    c.keep_or_back.ensures.made
    (rw (to_z-of_z w64 c.args.moment c.ranges.moment, to_z-of_z w64 c.args.schema c.ranges.schema, to_z-of_z w64 c.args.usn c.ranges.usn, to_z-of_z w64 c.args.last_sync c.ranges.last_sync) at c.set_moments-made.ensures.ok)
    c.keep_or_back.ensures.ok
