use Rattle.std.proofs.Common.{◌≡◌, map}
use Rattle.ak_filters.specs.contracts.lists.drop_filter as clauses
use Rattle.ak_filters.proofs.Dropping.{Leads}
use Rattle.ak_filters.proofs.lists.drop_filter.Given as goal

-- no filter in front of the place has the name
abbrev pub invariant-loop-place : goal.invariant-loop-place
invariant-loop-place g l = Leads l.place l.name (map (λ b. ((clauses.dyn-1-ghosts g.dyn-1).0.entry b.vtable).1.meaning b.value) l.filters.items) × (map (λ b. ((clauses.dyn-1-ghosts g.dyn-1).0.entry b.vtable).1.meaning b.value) l.filters.items ≡ map (λ b. ((clauses.dyn-1-ghosts g.dyn-1).0.entry b.vtable).1.meaning b.value) l.fn.filters.items)
