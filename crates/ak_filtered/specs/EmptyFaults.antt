-- What the emptying of a deck may answer.
use Rattle.std.specs.Prelude.{◌≡◌, ◌⊎◌, ℤ}
use Rattle.ak_edit.specs.Refusals.{IsEndFault}
use Rattle.ak_edit.specs.declared.desk_faults.DeskFault.{DeskFault}
use Rattle.ak_filtered.specs.FilteredDecks.{IsDeckFault}
use Rattle.ak_filtered.specs.FilteredFaults.{of_desk_fault}
use Rattle.ak_filtered.specs.declared.faults.FilteredFault.{FilteredFault}

-- what the end of an edit may answer
abbrev pub IsEndOf : FilteredFault → Type 0
IsEndOf fault = (own : DeskFault) × IsEndFault own × (fault ≡ of_desk_fault own)

-- what the call may answer, told or not
abbrev pub IsEmptyFault : ℤ → FilteredFault → Type 0
IsEmptyFault deck fault = IsDeckFault deck fault ⊎ IsEndOf fault
