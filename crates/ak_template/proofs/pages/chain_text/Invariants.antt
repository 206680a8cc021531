use Rattle.std.proofs.Common.{◌≡◌, ◌≤◌, length, take, map}
use Rattle.ak_template.specs.Pages.{chain_text, applied_order}
use Rattle.ak_template.specs.contracts.pages.chain_text as clauses
use Rattle.ak_template.proofs.Turning.{Midway}
use Rattle.ak_template.proofs.pages.chain_text.Given as goal

-- the filters that are left make of the text what all make of the value; all others were applied
abbrev pub invariant-loop-left : goal.invariant-loop-left
invariant-loop-left g l = record {
  within : l.left ≤ length l.names;
  same : chain_text (take l.left l.names) l.text (map (λ b. ((clauses.dyn-1-ghosts g.dyn-1).0.entry b.vtable).1.meaning b.value) l.filters.items) ≡ chain_text l.names l.value (map (λ b. ((clauses.dyn-1-ghosts g.dyn-1).0.entry b.vtable).1.meaning b.value) l.fn.filters.items);
  midway : Midway (applied_order (take l.left l.names)) (applied_order l.names) (map (λ b. ((clauses.dyn-1-ghosts g.dyn-1).0.entry b.vtable).1.meaning b.value) l.fn.filters.items) (map (λ b. ((clauses.dyn-1-ghosts g.dyn-1).0.entry b.vtable).1.meaning b.value) l.filters.items);
}

abbrev pub decreases-loop-left : goal.decreases-loop-left
decreases-loop-left g l = l.left
