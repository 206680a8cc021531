-- Which routers find the methods of targets.
use Rattle.std.specs.Prelude.{◌≡◌, ℕ, List}
use Rattle.std.specs.Option.{option_map}
use Rattle.matchit.specs.Rows.{RowsOf}
use Rattle.matchit.specs.Router.{RouteOf}
use Rattle.matchit.specs.Seek.{first}
use Rattle.ak_messages.specs.declared.methods.Method.{Method}
use Rattle.ak_http_heads.specs.Heads.{route_of}

-- each target is found where it is `/sync/` and the name of a method, with this method
pub record IsRoutes (rows : RowsOf (RouteOf Method)) : Type 0 where
  pub finds : (target : List ℕ) → option_map (λ route. route.value) (first rows target) ≡ route_of target
