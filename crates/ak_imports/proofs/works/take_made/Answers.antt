use Rattle.std.proofs.Common.{w64, SFits, rules}
use Rattle.std.proofs.lemmas.Int.{to_z-of_z}
use Rattle.ak_imports.proofs.Taking.{puts_made}
use Rattle.ak_imports.proofs.works.take_made.Goals as goal

pub returns-clause-ok : goal.returns-clause-ok
returns-clause-ok g c =
    let at : SFits w64 c.args.taken.at = search rules in
    let moment : SFits w64 c.in_ok-moment.moment = search rules in
    puts_made (g.K.Lookup.keeping c.args.keeper.now) (g.K.Lookup.keeping c.keep_made.new.keeper) c.args.taken.at c.in_ok-moment.moment c.args.taken.is_new c.args.tags.now c.args.taken.made
    c.in_ok-rows.rows.items c.in_ok-copy.field-0 c.args.change.now c.put_made.new.change
    c.in_ok-moment.ensures.reads.told c.in_ok-rows.ensures c.in_ok-copy.ensures (rw (to_z-of_z w64 c.args.taken.at at, to_z-of_z w64 c.in_ok-moment.moment moment) at c.in_default.ensures.ok)
    (rw c.moment_of.ensures.reads.same at c.in_ok-keep_made.ensures.ok) c.in_ok-put_made.ensures
