use Rattle.std.proofs.Common.{◌-◌, length}
use Rattle.std.specs.Io.KnownBytes.{Consumes}
use Rattle.ak_faults.specs.Causes.{GoesOn}
use Rattle.ak_account_keepers.proofs.files.read_all.Given as goal

abbrev pub invariant-loop-source : goal.invariant-loop-source
invariant-loop-source g l = record {
  so_far : Consumes (g.S.Source.left l.fn.source) (g.S.Source.left l.source) l.bytes.items;
  goes : GoesOn (g.S.End.health l.fn.source) (g.S.End.health l.source);
}

abbrev pub decreases-loop-source : goal.decreases-loop-source
decreases-loop-source g l = 1_048_577 - length l.bytes.items
