-- How a text is read: as the line that it says, if it says one.
use Rattle.std.specs.Prelude.{◌≡◌, Option, Some, None, ⊤}
use Rattle.ak_lab_lines.specs.declared.lab_faults.LabLineFault.{LabLineFault}
use Rattle.ak_lab_lines.specs.declared.lab_faults.LabLineFault.TheVariants as faults
use Rattle.ak_lab_lines.specs.declared.lab_lines.LabLine.{LabLine}

-- the line is the one said
abbrev pub Reads : Option LabLine → LabLine → Type 0
Reads said line = said ≡ Some line

-- none is said, or memory was out
abbrev pub Refuses : Option LabLine → LabLineFault → Type 0
Refuses said faults.BadLine = said ≡ None
Refuses said faults.Memory = ⊤
