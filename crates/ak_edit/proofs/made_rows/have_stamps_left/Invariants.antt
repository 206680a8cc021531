use Rattle.std.proofs.Common.{◌≡◌, drop}
use Rattle.ak_edit.specs.MadeRows.{have_stamps_left}
use Rattle.ak_edit.proofs.made_rows.have_stamps_left.Given as goal

-- the stamps that were passed are in range
abbrev pub invariant-loop-write : goal.invariant-loop-write
invariant-loop-write l = have_stamps_left (drop l.write-index l.writes) ≡ have_stamps_left l.writes
