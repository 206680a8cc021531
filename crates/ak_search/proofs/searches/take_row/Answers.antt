use Rattle.std.proofs.Common.{◌≡◌, ◌++◌, [], ◌∷◌, ap, cond, rules, sym, ◌∙◌}
use Rattle.ak_base.specs.Rows.{name_of}
use Rattle.ak_keep.proofs.Causing.{cause-ok}
use Rattle.ak_search.proofs.Passing.{row_passed}
use Rattle.ak_search.proofs.Telling.{row_told}
use Rattle.ak_search.proofs.searches.take_row.Goals as goal

pub returns-else-branch-clause-ascend : goal.returns-else-branch-clause-ascend
returns-else-branch-clause-ascend g c = λ past over takes. row_passed past c.args.row.now c.args.found.now over takes

pub returns-in_ok-push-clause-reads : goal.returns-in_ok-push-clause-reads
returns-in_ok-push-clause-reads g c =
    let found = c.args.found.now in
    let pushed : c.push.new.self ≡ found ++ ((name_of c.args.row.now).id ∷ []) = search rules in
    let hit = c.in_ok-is_hit.ensures.reads in
    record {
      kept = hit.kept;
      same = hit.same;
      cause = cause-ok tt hit.cause.goes;
      told = row_told (g.R.Lookup.keeping c.args.from.now).told c.args.search.now c.is_hit.new.search found c.push.new.self c.args.row.now c.in_ok-is_hit.field-0
          (pushed ∙ ap (λ is. cond is (found ++ ((name_of c.args.row.now).id ∷ [])) found) (sym c.if-branch.true)) hit.told;
    }

pub returns-else-branch-clause-reads : goal.returns-else-branch-clause-reads
returns-else-branch-clause-reads g c =
    let found = c.args.found.now in
    let hit = c.in_ok-is_hit.ensures.reads in
    record {
      kept = hit.kept;
      same = hit.same;
      cause = cause-ok tt hit.cause.goes;
      told = row_told (g.R.Lookup.keeping c.args.from.now).told c.args.search.now c.is_hit.new.search found found c.args.row.now c.in_ok-is_hit.field-0
          (ap (λ is. cond is (found ++ ((name_of c.args.row.now).id ∷ [])) found) (sym c.if-branch.false)) hit.told;
    }
