use Rattle.std.proofs.Common.{◌≡◌, true, arith}
use Rattle.ak_server.proofs.Places.{found, has_host}
use Rattle.ak_server.proofs.servers.place_of.Goals as goal

pub returns-then-eq : goal.returns-then-eq
returns-then-eq g c =
    let named : has_host c.args.host.digits c.index-accounts-place.result ≡ true = cc in
    found _ _ _ c.index-accounts-place.result (omega arith) c.index-accounts-place.is named c.loop-place.invariant.first
