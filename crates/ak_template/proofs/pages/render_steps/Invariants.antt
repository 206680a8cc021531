use Rattle.std.proofs.Common.{◌≡◌, ◌≤◌, drop, map, string_bytes}
use Rattle.ak_template.specs.Pages.{prefixed, walk, walk_filters}
use Rattle.ak_template.specs.contracts.pages.render_steps as clauses
use Rattle.ak_template.proofs.Turning.{Midway}
use Rattle.ak_template.proofs.pages.render_steps.Given as goal

-- what is left of the steps, after what was made, gives the page of all; its filters alone are still to be applied
abbrev pub invariant-loop-step : goal.invariant-loop-step
invariant-loop-step g l = record {
  few : l.hidden ≤ l.step-index;
  left : prefixed (string_bytes l.made) (walk l.face l.hidden (drop l.step-index l.steps) (map (λ b. ((clauses.dyn-1-ghosts g.dyn-1).0.entry b.vtable).1.meaning b.value) l.filters.items)) ≡ walk l.face 0 l.steps (map (λ b. ((clauses.dyn-1-ghosts g.dyn-1).0.entry b.vtable).1.meaning b.value) l.fn.filters.items);
  midway : Midway (walk_filters l.face l.hidden (drop l.step-index l.steps)) (walk_filters l.face 0 l.steps) (map (λ b. ((clauses.dyn-1-ghosts g.dyn-1).0.entry b.vtable).1.meaning b.value) l.fn.filters.items) (map (λ b. ((clauses.dyn-1-ghosts g.dyn-1).0.entry b.vtable).1.meaning b.value) l.filters.items);
}
