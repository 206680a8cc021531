use Rattle.std.proofs.Common.{rules, arith, w64, SFits}
use Rattle.std.proofs.lemmas.Int.{ints, to_z-of_z}
use Rattle.ak_edit.proofs.StampedRows.{stamp_at_most}
use Rattle.ak_edit.proofs.undos.advanced_past.Goals as goal

pub advanced-requires : goal.advanced-requires
advanced-requires c =
    let fits : SFits w64 c.stamp.result = search rules in
    let most = stamp_at_most c.args.row.now c.requires in
    rw (to_z-of_z w64 c.stamp.result fits, c.stamp.ensures) (omega (arith, ints, most))
