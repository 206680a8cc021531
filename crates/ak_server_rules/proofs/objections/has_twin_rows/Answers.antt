use Rattle.std.proofs.Common.{sym, ◌∙◌}
use Rattle.ak_base.specs.Names.{name_cmp}
use Rattle.ak_base.specs.Rows.{name_of}
use Rattle.ak_session.specs.Refusals.{has_twins, same_names}
use Rattle.ak_server_rules.proofs.Twins.{meets_first, meets_next}
use Rattle.ak_server_rules.proofs.objections.has_twin_rows.Goals as goal

pub loop-row-init : goal.loop-row-init
loop-row-init c = meets_first name_cmp (λ n. n) name_of c.new-names.result.keys c.args.rows.now c.new-names.ensures.empty

pub loop-row-preserved : goal.loop-row-preserved
loop-row-preserved c =
    meets_next name_cmp (λ n. n) name_of c.loop-row.names.keys c.add_name.new.names.keys c.args.rows.now c.loop-row.row-index
    c.row-item.result c.name.result (has_twins same_names c.args.rows.now) c.loop-row-test.true c.row-item.is c.name.ensures
    c.loop-row.invariant (sym c.in_ok-add_name.ensures.found ∙ c.if-branch.false) (λ other. c.in_ok-add_name.ensures.added other)
