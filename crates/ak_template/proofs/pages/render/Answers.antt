use Rattle.std.proofs.Common.{map}
use Rattle.ak_template.specs.contracts.pages.render as clauses
use Rattle.ak_template.proofs.Running.{kinds_kept, steps_page}
use Rattle.ak_template.proofs.Turning.{filters_walked}
use Rattle.ak_template.proofs.pages.render.Goals as goal

pub returns-clause-ok : goal.returns-clause-ok
returns-clause-ok g c = λ tree lays. rw (← (steps_page c.args.face.now tree c.as_slice.result.now c.args.template.now.steps (map (λ b. ((clauses.dyn-1-ghosts g.dyn-1).0.entry b.vtable).1.meaning b.value) c.args.filters.now.items) c.as_slice.ensures lays)) c.render_steps.ensures.ok

pub returns-clause-fault : goal.returns-clause-fault
returns-clause-fault g c = λ tree lays. rw (← (steps_page c.args.face.now tree c.as_slice.result.now c.args.template.now.steps (map (λ b. ((clauses.dyn-1-ghosts g.dyn-1).0.entry b.vtable).1.meaning b.value) c.args.filters.now.items) c.as_slice.ensures lays)) c.render_steps.ensures.fault

pub returns-clause-onward : goal.returns-clause-onward
returns-clause-onward g c = λ tree lays. rw (← (steps_page c.args.face.now tree c.as_slice.result.now c.args.template.now.steps (map (λ b. ((clauses.dyn-1-ghosts g.dyn-1).0.entry b.vtable).1.meaning b.value) c.args.filters.now.items) c.as_slice.ensures lays)) c.render_steps.ensures.onward

pub returns-clause-memory : goal.returns-clause-memory
returns-clause-memory g c = λ tree lays. rw (← (filters_walked c.args.face.now tree c.as_slice.result.now c.args.template.now.steps c.as_slice.ensures lays)) c.render_steps.ensures.memory

pub returns-clause-kinds : goal.returns-clause-kinds
returns-clause-kinds g c = kinds_kept c.args.face.now c.as_slice.result.now (map (λ b. ((clauses.dyn-1-ghosts g.dyn-1).0.entry b.vtable).1.meaning b.value) c.args.filters.now.items) (map (λ b. ((clauses.dyn-1-ghosts g.dyn-1).0.entry b.vtable).1.meaning b.value) c.render_steps.new.filters.items) c.render_steps.result c.render_steps.ensures.ok c.render_steps.ensures.fault c.render_steps.ensures.memory
