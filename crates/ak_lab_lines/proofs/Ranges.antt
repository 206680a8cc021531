-- A line that is read has words and numbers as its form wants them.
use Rattle.std.proofs.Common.{ℕ, List, Result, Ok, Err, IfOk}
use Rattle.ak_lab_lines.specs.LabLines.{lab_line_of}
use Rattle.ak_lab_lines.specs.Reading.{Reads}
use Rattle.ak_lab_lines.specs.Written.{IsLabLine}
use Rattle.ak_lab_lines.specs.declared.lab_faults.LabLineFault.{LabLineFault}
use Rattle.ak_lab_lines.specs.declared.lab_lines.LabLine.{LabLine}
use Rattle.ak_lab_lines.proofs.LinesWritten.{read_said}

pub ranges_kept : (text : List ℕ) (read : Result LabLine LabLineFault) → IfOk read (Reads (lab_line_of text)) → IfOk read IsLabLine
ranges_kept text (Ok line) h = (read_said text line h).0
ranges_kept text (Err fault) h = tt
