use Rattle.std.proofs.Common.{ℕ, List, ap, ◌∙◌}
use Rattle.ak_makes.proofs.made_servers.made_server.Goals as goal
use Rattle.ak_sync_in_memory.specs.LoggedServers.{begins_with}

pub returns : goal.returns
returns c = (
  c.in_ok-made.made,
  c.in_ok-made.ensures.is,
  c.in_ok-server.ensures ∙ ap (λ (host : List ℕ). begins_with host c.in_ok-made.made) c.make_key.ensures,
)
