use Rattle.std.proofs.Common.{◌≡◌, drop}
use Rattle.ak_base.specs.Names.{name_cmp}
use Rattle.ak_base.specs.Rows.{name_of}
use Rattle.ak_session.specs.Refusals.{has_twins, same_names}
use Rattle.ak_server_rules.proofs.Twins.{meets}
use Rattle.ak_server_rules.proofs.objections.has_twin_rows.Given as goal

-- rows that are left meet the names so far or each other exactly if there are twins among all
abbrev pub invariant-loop-row : goal.invariant-loop-row
invariant-loop-row l = meets name_cmp (λ n. n) name_of l.names.keys (drop l.row-index l.fn.rows) ≡ has_twins same_names l.fn.rows
