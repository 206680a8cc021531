-- so far nothing was written
use Rattle.std.specs.Io.KnownBytes.{Keeps}
use Rattle.ak_sockets.proofs.retries.write_retrying.Given as goal

abbrev pub invariant-loop : goal.invariant-loop
invariant-loop g l = Keeps (g.S.Write.contents l.fn.stream) (g.S.Write.contents l.stream)
