use Rattle.ak_template.proofs.Running.{if_err}
use Rattle.ak_template.proofs.Turning.{some_none, field_turned}
use Rattle.std.proofs.Common.{map}
use Rattle.ak_template.specs.contracts.pages.add_step as clauses
use Rattle.ak_template.proofs.Onward.{step_onward, field_passed}
use Rattle.ak_template.proofs.pages.add_step.Goals as goal

pub returns-in_err-push_str-in-Words-step-clause-memory : goal.returns-in_err-push_str-in-Words-step-clause-memory
returns-in_err-push_str-in-Words-step-clause-memory g c = if_err c.from_residual.result (λ fault e. some_none _ _)

pub returns-in_err-push_str-in-Field-step-clause-memory : goal.returns-in_err-push_str-in-Field-step-clause-memory
returns-in_err-push_str-in-Field-step-clause-memory g c = if_err c.from_residual-in_err-push_str-in-Field-step.result (λ fault e. field_turned c.args.face.now c.args.hidden c.args.step.now c.in-Field-step.names c.as_slice.result.now c.in-Field-step.name c.as_str-in-Field-step.result.now c.in_ok-text-in-Field-step.text _ _ c.if-hidden-gt0.false c.in-Field-step.is c.as_slice.ensures c.in_ok-text-in-Field-step.ensures.ok)

pub returns-in_err-push_str-in-Words-step-clause-onward : goal.returns-in_err-push_str-in-Words-step-clause-onward
returns-in_err-push_str-in-Words-step-clause-onward g c = if_err c.from_residual.result (λ fault e. step_onward c.args.face.now c.args.hidden c.args.step.now (map (λ b. ((clauses.dyn-1-ghosts g.dyn-1).0.entry b.vtable).1.meaning b.value) c.args.filters.now.items))

pub returns-in_err-push_str-in-Field-step-clause-onward : goal.returns-in_err-push_str-in-Field-step-clause-onward
returns-in_err-push_str-in-Field-step-clause-onward g c = if_err c.from_residual-in_err-push_str-in-Field-step.result (λ fault e. field_passed c.args.face.now c.args.hidden c.args.step.now c.in-Field-step.names c.as_slice.result.now c.in-Field-step.name c.as_str-in-Field-step.result.now c.in_ok-text-in-Field-step.text _ _ c.if-hidden-gt0.false c.in-Field-step.is c.as_slice.ensures c.as_str-in-Field-step.ensures c.in_ok-text-in-Field-step.ensures.ok)
