use Rattle.std.proofs.Common.{◌≡◌, ◌++◌, drop}
use Rattle.ak_io.specs.Scripts.{written_lines}
use Rattle.ak_line_runs.proofs.came_prints.bytes_of.Given as goal

-- the bytes so far, and those of the lines that are left, are the bytes of all
abbrev pub invariant-loop-line : goal.invariant-loop-line
invariant-loop-line l = written_lines l.lines ≡ l.bytes.items ++ written_lines (drop l.line-index l.lines)
