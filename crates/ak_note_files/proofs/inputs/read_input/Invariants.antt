use Rattle.std.proofs.Common.{◌-◌, length}
use Rattle.std.specs.Io.KnownBytes.{Consumes}
use Rattle.ak_faults.specs.Causes.{GoesOn}
use Rattle.ak_note_files.proofs.inputs.read_input.Given as goal

-- the bytes so far are those that were taken
abbrev pub invariant-loop-input : goal.invariant-loop-input
invariant-loop-input g l = record {
  so_far : Consumes (g.I.Source.left l.fn.input) (g.I.Source.left l.input) l.bytes.items;
  goes : GoesOn (g.I.End.health l.fn.input) (g.I.End.health l.input);
}

abbrev pub decreases-loop-input : goal.decreases-loop-input
decreases-loop-input g l = 1_073_741_825 - length l.bytes.items
