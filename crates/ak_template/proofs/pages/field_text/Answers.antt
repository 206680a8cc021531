use Rattle.ak_template.proofs.Running.{if_err}
use Rattle.ak_template.proofs.Turning.{some_none}
use Rattle.std.proofs.Common.{map}
use Rattle.ak_template.specs.contracts.pages.field_text as clauses
use Rattle.ak_template.proofs.Onward.{field_onward}
use Rattle.ak_template.proofs.pages.field_text.Goals as goal

pub returns-in_err-name-in-None-clause-memory : goal.returns-in_err-name-in-None-clause-memory
returns-in_err-name-in-None-clause-memory g c = if_err c.from_residual.result (λ fault e. some_none _ _)

pub returns-in_err-name-in-None-clause-onward : goal.returns-in_err-name-in-None-clause-onward
returns-in_err-name-in-None-clause-onward g c = if_err c.from_residual.result (λ fault e. field_onward c.args.face.now c.args.names.now c.args.name.now (map (λ b. ((clauses.dyn-1-ghosts g.dyn-1).0.entry b.vtable).1.meaning b.value) c.args.filters.now.items))
