use Rattle.cases_keepers.proofs.Distinct.{none_is_distinct}
use Rattle.cases_keepers.proofs.heads.replace_by_none.Goals as goal

-- src/heads.rt:176:17
pub replace_all-requires-clause-distinct : goal.replace_all-requires-clause-distinct
replace_all-requires-clause-distinct g c = none_is_distinct c.new.result c.new.ensures
