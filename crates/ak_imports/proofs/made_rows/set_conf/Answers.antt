use Rattle.ak_imports.proofs.Tellings.{sets_ok}
use Rattle.ak_imports.proofs.made_rows.set_conf.Goals as goal

pub returns-clause-ok : goal.returns-clause-ok
returns-clause-ok g c =
    sets_ok c.set_head.result (g.K.Lookup.keeping c.args.keeper.now) (g.K.Lookup.keeping c.head.new.self) (g.K.Lookup.keeping c.set_head.new.self) c.in-Some.head c.args.conf c.in_ok-head.field-0
    c.head.ensures.reads.same c.in_ok-head.ensures.reads.told c.in-Some.is c.set_head.ensures.ok
