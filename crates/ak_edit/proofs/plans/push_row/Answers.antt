use Rattle.std.proofs.Common.{◌≡◌, true, ◌++◌, List, ap, ◌∙◌, rules, w64, SFits}
use Rattle.std.proofs.lemmas.Int.{to_z-of_z}
use Rattle.ak_merge.specs.Edits.{changes_row}
use Rattle.ak_edit.proofs.Planning.{row_written}
use Rattle.ak_edit.specs.declared.plans.Write.{Write}
use Rattle.ak_edit.proofs.plans.push_row.Goals as goal

pub returns-clause-row : goal.returns-clause-row
returns-clause-row c =
    let changes : changes_row c.args.before c.args.asked.made.now ≡ true = search rules in
    let fits : SFits w64 c.stamp_made-stamp.result = search rules in
    (rw (to_z-of_z w64 c.stamp_made-stamp.result fits, c.in_ok-row.ensures, c.stamp_made-stamp.ensures) at c.in_ok-push_write.ensures.ok)
    ∙ ap (λ (ws : List Write). c.args.writes.now.items ++ ws) (row_written c.args.now.second c.args.asked.name c.args.before c.args.asked.made.now changes)
