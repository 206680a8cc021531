use Rattle.std.proofs.Common.{inr, rules, refl, sym, ap, ◌∙◌}
use Rattle.ak_template.specs.Pages.{filter_text}
use Rattle.ak_filters.proofs.Dropping.{leads_none, leads_past}
use Rattle.ak_template.proofs.Applying.{first_at, none_at}
use Rattle.ak_template.specs.contracts.filters.apply_named as clauses
use Rattle.ak_template.proofs.filters.apply_named.Goals as goal

pub loop-place-init : goal.loop-place-init
loop-place-init g c = (leads_none c.args.name.now _, refl)

pub loop-place-preserved : goal.loop-place-preserved
loop-place-preserved g c = (leads_past (λ b. ((clauses.dyn-1-ghosts g.dyn-1).0.entry b.vtable).1.meaning b.value) c.loop-place.place c.args.name.now c.loop-place.filters.items c.index.result.now c.loop-place.invariant.0 (search rules) (search rules) (sym c.is_named.ensures ∙ c.if-is_named.false), c.loop-place.invariant.1)

pub returns-then-is_named-clause-ok : goal.returns-then-is_named-clause-ok
returns-then-is_named-clause-ok g c = ap (filter_text c.args.name.now c.args.text.now) (sym c.loop-place.invariant.1) ∙ first_at (λ b. ((clauses.dyn-1-ghosts g.dyn-1).0.entry b.vtable).1.meaning b.value) c.loop-place.place c.args.name.now c.args.text.now c.in_ok-made.made c.loop-place.filters.items _ c.index.result.now c.loop-place.invariant.0 (search rules) (search rules) (sym c.is_named.ensures ∙ c.if-is_named.true) c.in_ok-made.ensures.ok

pub returns-clause-fault : goal.returns-clause-fault
returns-clause-fault g c = inr (ap (filter_text c.args.name.now c.args.text.now) (sym c.loop-place.invariant.1) ∙ none_at (λ b. ((clauses.dyn-1-ghosts g.dyn-1).0.entry b.vtable).1.meaning b.value) c.loop-place.place c.args.name.now c.in_ok-name.name c.args.text.now c.loop-place.filters.items c.loop-place.invariant.0 (search rules) c.in_ok-name.ensures)
