use Rattle.ak_imports.proofs.Tellings.{keeps_ok}
use Rattle.ak_imports.proofs.made_rows.keep_made.Goals as goal

pub returns-clause-ok : goal.returns-clause-ok
returns-clause-ok g c =
    keeps_ok c.set_conf.result c.args.rows.items c.args.conf (g.K.Lookup.keeping c.args.keeper.now) (g.K.Lookup.keeping c.put_rows.new.keeper) (g.K.Lookup.keeping c.set_conf.new.keeper)
    c.in_ok-put_rows.ensures.ok c.set_conf.ensures.ok
