use Rattle.std.proofs.Common.{arith, drop, map, string_bytes, refl}
use Rattle.ak_template.specs.Pages.{walk, hidden_after, step_filters}
use Rattle.ak_template.specs.contracts.pages.render_steps as clauses
use Rattle.ak_template.proofs.Running.{err_was, if_err, nothing_yet, walk_goes, walk_stops}
use Rattle.ak_template.proofs.Turning.{midway_start, midway_next, midway_stop, stopped_within, step_turns, steps_left}
use Rattle.ak_template.proofs.Onward.{steps_stopped, step_stopped}
use Rattle.ak_template.proofs.pages.render_steps.Goals as goal

pub loop-step-init : goal.loop-step-init
loop-step-init g c = record { few = omega arith; left = nothing_yet _ _ c.new-made.ensures.bytes; midway = midway_start _ _ _ refl }

pub returns-in_err-hidden-clause-fault : goal.returns-in_err-hidden-clause-fault
returns-in_err-hidden-clause-fault g c = err_was c.from_residual.result c.from_residual.ensures.1 (λ fault f. walk_stops c.args.face.now c.loop-step.hidden c.args.steps.now c.loop-step.step-index c.step-item.result (string_bytes c.loop-step.made) fault c.in_err-hidden.field-0.0 (map (λ b. ((clauses.dyn-1-ghosts g.dyn-1).0.entry b.vtable).1.meaning b.value) c.loop-step.filters.items) (map (λ b. ((clauses.dyn-1-ghosts g.dyn-1).0.entry b.vtable).1.meaning b.value) c.add_step.new.filters.items) (walk c.args.face.now 0 c.args.steps.now (map (λ b. ((clauses.dyn-1-ghosts g.dyn-1).0.entry b.vtable).1.meaning b.value) c.args.filters.now.items)) c.loop-step-test.true c.step-item.is c.loop-step.invariant.left f c.in_err-hidden.ensures.fault)

pub returns-in_err-hidden-clause-memory : goal.returns-in_err-hidden-clause-memory
returns-in_err-hidden-clause-memory g c = err_was c.from_residual.result c.from_residual.ensures.1 (λ fault f. stopped_within _ (step_filters c.loop-step.hidden c.step-item.result) _ _ fault c.in_err-hidden.field-0.0 _ _ _ (steps_left c.args.face.now c.loop-step.hidden (hidden_after c.args.face.now c.loop-step.hidden c.step-item.result) c.args.steps.now c.loop-step.step-index c.step-item.result c.loop-step-test.true c.step-item.is refl) c.loop-step.invariant.midway f c.in_err-hidden.ensures.memory)

pub loop-step-preserved : goal.loop-step-preserved
loop-step-preserved g c = record {
  few = omega (arith, c.loop-step.invariant.few, c.in_ok-hidden.ensures.bound);
  left = walk_goes c.args.face.now c.loop-step.hidden c.in_ok-hidden.hidden c.args.steps.now c.loop-step.step-index c.step-item.result (string_bytes c.loop-step.made) (string_bytes c.add_step.new.made) (map (λ b. ((clauses.dyn-1-ghosts g.dyn-1).0.entry b.vtable).1.meaning b.value) c.loop-step.filters.items) (map (λ b. ((clauses.dyn-1-ghosts g.dyn-1).0.entry b.vtable).1.meaning b.value) c.add_step.new.filters.items) (walk c.args.face.now 0 c.args.steps.now (map (λ b. ((clauses.dyn-1-ghosts g.dyn-1).0.entry b.vtable).1.meaning b.value) c.args.filters.now.items)) c.loop-step-test.true c.step-item.is c.loop-step.invariant.left c.in_ok-hidden.ensures.ok c.in_ok-hidden.ensures.hidden;
  midway = midway_next _ (step_filters c.loop-step.hidden c.step-item.result) _ _ _ _ _ (steps_left c.args.face.now c.loop-step.hidden c.in_ok-hidden.hidden c.args.steps.now c.loop-step.step-index c.step-item.result c.loop-step-test.true c.step-item.is c.in_ok-hidden.ensures.hidden) c.loop-step.invariant.midway (step_turns c.args.face.now c.loop-step.hidden c.step-item.result (string_bytes c.loop-step.made) (string_bytes c.add_step.new.made) _ _ c.in_ok-hidden.ensures.ok);
}

pub returns-in_err-made-clause-memory : goal.returns-in_err-made-clause-memory
returns-in_err-made-clause-memory g c = if_err c.from_residual-in_err-made.result (λ fault e. midway_stop _ _ _ _ c.loop-step.invariant.midway)

pub returns-in_err-hidden-clause-onward : goal.returns-in_err-hidden-clause-onward
returns-in_err-hidden-clause-onward g c = err_was c.from_residual.result c.from_residual.ensures.1 (λ fault f. step_stopped c.args.face.now c.loop-step.hidden c.args.steps.now c.loop-step.step-index c.step-item.result (string_bytes c.loop-step.made) fault c.in_err-hidden.field-0.0 _ _ _ c.loop-step-test.true c.step-item.is c.loop-step.invariant.left f c.in_err-hidden.ensures.onward)

pub returns-in_err-made-clause-onward : goal.returns-in_err-made-clause-onward
returns-in_err-made-clause-onward g c = if_err c.from_residual-in_err-made.result (λ fault e. steps_stopped c.args.face.now c.loop-step.hidden (drop c.loop-step.step-index c.args.steps.now) (string_bytes c.loop-step.made) _ _ c.loop-step.invariant.left)
