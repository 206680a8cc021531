use Rattle.std.proofs.Common.{rules, map, refl, sym, ap, ◌∙◌}
use Rattle.ak_filters.proofs.Dropping.{leads_none, leads_past, dropped_at, held_at, not_held}
use Rattle.ak_filters.specs.Lists.{has_filter, without_filter}
use Rattle.ak_filters.specs.contracts.lists.drop_filter as clauses
use Rattle.ak_filters.proofs.lists.drop_filter.Goals as goal

pub loop-place-init : goal.loop-place-init
loop-place-init g c = (leads_none c.args.name.now _, refl)

pub loop-place-preserved : goal.loop-place-preserved
loop-place-preserved g c = (leads_past (λ b. ((clauses.dyn-1-ghosts g.dyn-1).0.entry b.vtable).1.meaning b.value) c.loop-place.place c.args.name.now c.loop-place.filters.items c.index.result.now c.loop-place.invariant.0 (search rules) (search rules) (sym c.is_named.ensures ∙ c.if-is_named.false), c.loop-place.invariant.1)

pub returns-then-is_named-clause-filters : goal.returns-then-is_named-clause-filters
returns-then-is_named-clause-filters g c = ap (map (λ b. ((clauses.dyn-1-ghosts g.dyn-1).0.entry b.vtable).1.meaning b.value)) c.remove.ensures.items ∙ dropped_at (λ b. ((clauses.dyn-1-ghosts g.dyn-1).0.entry b.vtable).1.meaning b.value) c.loop-place.place c.args.name.now c.loop-place.filters.items c.index.result.now c.loop-place.invariant.0 (search rules) (search rules) (sym c.is_named.ensures ∙ c.if-is_named.true) ∙ ap (without_filter c.args.name.now) c.loop-place.invariant.1

pub returns-then-is_named-clause-held : goal.returns-then-is_named-clause-held
returns-then-is_named-clause-held g c = sym (held_at (λ b. ((clauses.dyn-1-ghosts g.dyn-1).0.entry b.vtable).1.meaning b.value) c.loop-place.place c.args.name.now c.loop-place.filters.items c.index.result.now (search rules) (search rules) (sym c.is_named.ensures ∙ c.if-is_named.true)) ∙ ap (has_filter c.args.name.now) c.loop-place.invariant.1

pub returns-clause-filters : goal.returns-clause-filters
returns-clause-filters g c = (not_held (λ b. ((clauses.dyn-1-ghosts g.dyn-1).0.entry b.vtable).1.meaning b.value) c.loop-place.place c.args.name.now c.loop-place.filters.items (map (λ b. ((clauses.dyn-1-ghosts g.dyn-1).0.entry b.vtable).1.meaning b.value) c.args.filters.now.items) c.loop-place.invariant.0 (search rules) c.loop-place.invariant.1).0

pub returns-clause-held : goal.returns-clause-held
returns-clause-held g c = (not_held (λ b. ((clauses.dyn-1-ghosts g.dyn-1).0.entry b.vtable).1.meaning b.value) c.loop-place.place c.args.name.now c.loop-place.filters.items (map (λ b. ((clauses.dyn-1-ghosts g.dyn-1).0.entry b.vtable).1.meaning b.value) c.args.filters.now.items) c.loop-place.invariant.0 (search rules) c.loop-place.invariant.1).1
