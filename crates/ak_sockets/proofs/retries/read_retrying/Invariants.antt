-- so far nothing was read
use Rattle.std.specs.Io.KnownBytes.{Keeps}
use Rattle.ak_sockets.proofs.retries.read_retrying.Given as goal

abbrev pub invariant-loop : goal.invariant-loop
invariant-loop g l = Keeps (g.S.Read.remaining l.fn.stream) (g.S.Read.remaining l.stream)
