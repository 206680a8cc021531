use Rattle.std.proofs.Common.{◌≡◌, ◌∷◌, length, rules}
use Rattle.ak_wire.proofs.Tables.{on_ok, tables_none, tables_step}
use Rattle.ak_wire.proofs.wholes.+read_tables.Goals as goal

pub returns-in-Some-clause-ok : goal.returns-in-Some-clause-ok
returns-in-Some-clause-ok t c =
    let is : c.args.tables.now ≡ c.in-Some.field-0-0.now ∷ c.in-Some.others.now = search rules in
    on_ok c.read_tables.result (λ rest. tables_step _ _ c.in-Some.field-0-0.now _ _ _ _ _ is c.items_under.ensures c.in_ok-read_table.ensures.ok rest) c.read_tables.ensures.ok

pub returns-clause-ok : goal.returns-clause-ok
returns-clause-ok t c =
    let none : length c.args.tables.now ≡ 0 = search rules in
    tables_none c.args.tables.now _ _ none
