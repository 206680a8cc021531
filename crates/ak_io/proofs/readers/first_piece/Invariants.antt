use Rattle.std.proofs.Common.{◌≡◌, ◌+◌, length, drop}
use Rattle.ak_io.specs.Lines.{first_line, first_size}
use Rattle.ak_io.proofs.readers.first_piece.Given as goal

abbrev pub invariant-loop-place : goal.invariant-loop-place
invariant-loop-place l = record {
  line : length (first_line l.bytes) ≡ l.place + length (first_line (drop l.place l.bytes));
  size : first_size l.bytes ≡ l.place + first_size (drop l.place l.bytes);
}
