use Rattle.cases_keepers.proofs.Distinct.{one_is_distinct}
use Rattle.cases_keepers.proofs.heads.one_row.Goals as goal

-- src/heads.rt:208:1
pub returns-clause-distinct : goal.returns-clause-distinct
returns-clause-distinct c = one_is_distinct c.new-rows.result c.push.new.self c.in_ok-row.row c.new-rows.ensures c.in_ok-push.ensures.ok
