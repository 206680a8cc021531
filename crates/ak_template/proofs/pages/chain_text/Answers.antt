use Rattle.std.proofs.Common.{arith, map, take, [], ◌∷◌}
use Rattle.ak_template.specs.Pages.{chain_text}
use Rattle.ak_template.specs.contracts.pages.chain_text as clauses
use Rattle.ak_template.proofs.Running.{err_was, if_err, chain_whole, chain_goes, chain_stops}
use Rattle.ak_template.proofs.Turning.{some_none, midway_start, midway_next, stopped_before, one_turns, order_next, order_all}
use Rattle.ak_template.proofs.Onward.{chain_onward, chain_stopped}
use Rattle.ak_template.proofs.pages.chain_text.Goals as goal

pub returns-in_err-text-clause-memory : goal.returns-in_err-text-clause-memory
returns-in_err-text-clause-memory g c = if_err c.from_residual.result (λ fault e. some_none _ _)

pub loop-left-init : goal.loop-left-init
loop-left-init g c = record { within = omega arith; same = chain_whole c.args.names.now c.in_ok-text.text c.args.value.now (map (λ b. ((clauses.dyn-1-ghosts g.dyn-1).0.entry b.vtable).1.meaning b.value) c.args.filters.now.items) c.in_ok-text.ensures; midway = midway_start _ _ _ (order_all c.args.names.now) }

pub returns-in_err-text-2-clause-fault : goal.returns-in_err-text-2-clause-fault
returns-in_err-text-2-clause-fault g c = err_was c.from_residual-in_err-text-2.result c.from_residual-in_err-text-2.ensures.1 (λ fault f. chain_stops c.args.names.now c.loop-left.left c.index-names-left.result c.as_str.result.now c.loop-left.text c.as_str-in-loop-left.result.now fault c.in_err-text-2.field-0.0 (map (λ b. ((clauses.dyn-1-ghosts g.dyn-1).0.entry b.vtable).1.meaning b.value) c.loop-left.filters.items) (map (λ b. ((clauses.dyn-1-ghosts g.dyn-1).0.entry b.vtable).1.meaning b.value) c.apply_named.new.filters.items) (chain_text c.args.names.now c.args.value.now (map (λ b. ((clauses.dyn-1-ghosts g.dyn-1).0.entry b.vtable).1.meaning b.value) c.args.filters.now.items)) c.loop-left-test.true c.loop-left.invariant.within c.index-names-left.is c.as_str.ensures c.as_str-in-loop-left.ensures c.loop-left.invariant.same f c.in_err-text-2.ensures.fault)

pub returns-in_err-text-2-clause-memory : goal.returns-in_err-text-2-clause-memory
returns-in_err-text-2-clause-memory g c = err_was c.from_residual-in_err-text-2.result c.from_residual-in_err-text-2.ensures.1 (λ fault f. stopped_before _ _ fault c.in_err-text-2.field-0.0 _ _ _ c.loop-left.invariant.midway f c.in_err-text-2.ensures.memory)

pub loop-left-preserved : goal.loop-left-preserved
loop-left-preserved g c = record {
  within = omega (arith, c.loop-left.invariant.within);
  same = chain_goes c.args.names.now c.loop-left.left c.index-names-left.result c.as_str.result.now c.loop-left.text c.as_str-in-loop-left.result.now c.in_ok-text-2.text (map (λ b. ((clauses.dyn-1-ghosts g.dyn-1).0.entry b.vtable).1.meaning b.value) c.loop-left.filters.items) (map (λ b. ((clauses.dyn-1-ghosts g.dyn-1).0.entry b.vtable).1.meaning b.value) c.apply_named.new.filters.items) (chain_text c.args.names.now c.args.value.now (map (λ b. ((clauses.dyn-1-ghosts g.dyn-1).0.entry b.vtable).1.meaning b.value) c.args.filters.now.items)) c.loop-left-test.true c.loop-left.invariant.within c.index-names-left.is c.as_str.ensures c.as_str-in-loop-left.ensures c.loop-left.invariant.same c.in_ok-text-2.ensures.ok;
  midway = midway_next _ (c.index-names-left.result ∷ []) _ _ _ _ _ (order_next c.args.names.now c.loop-left.left c.index-names-left.result c.loop-left-test.true c.loop-left.invariant.within c.index-names-left.is) c.loop-left.invariant.midway (one_turns c.index-names-left.result c.as_str.result.now c.as_str-in-loop-left.result.now c.in_ok-text-2.text _ _ c.as_str.ensures c.in_ok-text-2.ensures.ok);
}

pub returns-in_err-text-clause-onward : goal.returns-in_err-text-clause-onward
returns-in_err-text-clause-onward g c = if_err c.from_residual.result (λ fault e. chain_onward c.args.names.now c.args.value.now (map (λ b. ((clauses.dyn-1-ghosts g.dyn-1).0.entry b.vtable).1.meaning b.value) c.args.filters.now.items))

pub returns-in_err-text-2-clause-onward : goal.returns-in_err-text-2-clause-onward
returns-in_err-text-2-clause-onward g c = err_was c.from_residual-in_err-text-2.result c.from_residual-in_err-text-2.ensures.1 (λ fault f. chain_stopped (take c.loop-left.left c.args.names.now) c.loop-left.text fault c.in_err-text-2.field-0.0 _ _ _ c.loop-left.invariant.same f c.in_err-text-2.ensures.memory)
