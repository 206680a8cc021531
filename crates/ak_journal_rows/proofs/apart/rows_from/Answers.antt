use Rattle.std.proofs.Common.{◌≡◌, ◌∷◌, map, rules, subst}
use Rattle.std.specs.List.Sorted.{IsStrictlySortedBy}
use Rattle.ak_base.specs.Names.{name_cmp}
use Rattle.ak_base.specs.Rows.{name_of}
use Rattle.ak_journal_rows.proofs.Walks.{SameFrom, behind_ascend, rows_skipped}
use Rattle.ak_journal_rows.proofs.apart.rows_from.Goals as goal

pub loop-row-preserved : goal.loop-row-preserved
loop-row-preserved c =
    let is : c.loop-row.rest.now ≡ c.in-Some.row.now ∷ c.in-Some.behind.now = search rules in
    record {
      ascend = behind_ascend c.in-Some.row.now c.in-Some.behind.now (subst (λ rest. IsStrictlySortedBy name_cmp (map name_of rest)) is c.loop-row.invariant.ascend);
      same = rows_skipped c.in-Some.row.now c.in-Some.behind.now c.args.rows.now c.args.name.now (c.is_before.ensures.0 (search rules))
          (subst (λ rest. SameFrom c.args.name.now rest c.args.rows.now) is c.loop-row.invariant.same);
    }
