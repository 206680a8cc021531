use Rattle.std.proofs.Common.{rules, arith, ap, ◌∙◌, w64, SFits}
use Rattle.std.proofs.lemmas.Int.{ints, to_z-of_z}
use Rattle.ak_merge.specs.Edits.{advanced}
use Rattle.ak_edit.proofs.StampedRows.{stamp_at_most}
use Rattle.ak_edit.proofs.plans.advanced_stamp.Goals as goal

pub advanced-requires : goal.advanced-requires
advanced-requires c =
    let fits : SFits w64 c.stamp.result = search rules in
    let most = stamp_at_most c.args.row.now c.requires in
    rw (to_z-of_z w64 c.stamp.result fits, c.stamp.ensures) (omega (arith, ints, most))

pub returns : goal.returns
returns c =
    let fits : SFits w64 c.stamp.result = search rules in
    let second : SFits w64 c.args.now.second = search rules in
    let whole : SFits w64 c.advanced.result = search rules in
    to_z-of_z w64 c.advanced.result whole ∙ (rw (to_z-of_z w64 c.args.now.second second, to_z-of_z w64 c.stamp.result fits) at c.advanced.ensures) ∙ ap (advanced c.args.now.second) c.stamp.ensures
