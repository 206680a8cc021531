use Rattle.std.proofs.Common.{◌≡◌, ◌∷◌, false, rules, subst}
use Rattle.std.specs.Prelude.{is_some}
use Rattle.std.specs.List.Sorted.{IsStrictlySortedBy}
use Rattle.ak_base.specs.Names.{name_cmp}
use Rattle.ak_journal_rows.specs.Changes.{row_put}
use Rattle.ak_journal_rows.proofs.Walks.{Decide, behind_names, left_apart}
use Rattle.ak_journal_rows.proofs.apart.are_apart.Goals as goal

pub loop-name-preserved : goal.loop-name-preserved
loop-name-preserved c =
    let is : c.loop-name.names.now ≡ c.in-Some.name.now ∷ c.in-Some.behind.now = search rules in
    let sorted = subst (IsStrictlySortedBy name_cmp) is c.loop-name.invariant.names in
    let none : is_some (row_put c.rows_from-rows.result.now c.in-Some.name.now) ≡ false = search rules in
    record {
      names = behind_names c.in-Some.name.now c.in-Some.behind.now sorted;
      rows = c.rows_from-rows.ensures.ascend;
      left = left_apart c.in-Some.name.now c.in-Some.behind.now c.loop-name.rows.now c.rows_from-rows.result.now c.args.put.now c.args.cut.now sorted c.rows_from-rows.ensures.same none
          (subst (λ names. Decide c.loop-name.rows.now names c.args.put.now c.args.cut.now) is c.loop-name.invariant.left);
    }
