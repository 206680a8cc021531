use Rattle.std.proofs.Common.{map}
use Rattle.ak_template.specs.contracts.pages.tag_text as clauses
use Rattle.ak_template.proofs.Running.{if_err}
use Rattle.ak_template.proofs.Onward.{tag_onward}
use Rattle.ak_template.proofs.pages.tag_text.Goals as goal

pub returns-in_err-shown-clause-onward : goal.returns-in_err-shown-clause-onward
returns-in_err-shown-clause-onward g c = if_err c.from_residual.result (λ fault e. tag_onward c.args.face.now c.args.names.now c.args.value.now (map (λ b. ((clauses.dyn-1-ghosts g.dyn-1).0.entry b.vtable).1.meaning b.value) c.args.filters.now.items))
