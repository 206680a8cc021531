use Rattle.std.proofs.Common.{rules}
use Rattle.ak_template.proofs.Applying.{at_ok, at_err}
use Rattle.ak_template.specs.contracts.filters.apply_at as clauses
use Rattle.ak_template.proofs.filters.apply_at.Goals as goal

pub returns-clause-ok : goal.returns-clause-ok
returns-clause-ok g c = at_ok (λ b. ((clauses.dyn-1-ghosts g.dyn-1).0.entry b.vtable).1.meaning b.value) c.args.place c.args.text.now c.args.filters.now.items _ c.index_mut.result.now c.apply_box.result c.requires (search rules) c.apply_box.ensures.text c.apply_box.ensures.ok

pub returns-clause-err : goal.returns-clause-err
returns-clause-err g c = at_err (λ b. ((clauses.dyn-1-ghosts g.dyn-1).0.entry b.vtable).1.meaning b.value) c.args.place c.args.filters.now.items _ c.index_mut.result.now c.apply_box.result c.requires (search rules) c.apply_box.ensures.err
