-- What the making of a filtered deck may answer, told or not.
use Rattle.std.specs.Prelude.{◌≡◌, ◌⊎◌, pos}
use Rattle.ak_deck_paths.specs.Additions.{IsUseFault}
use Rattle.ak_deck_paths.specs.ChangedDecks.{IsPathFault}
use Rattle.ak_edit.specs.declared.desk_faults.DeskFault.{DeskFault}
use Rattle.ak_filtered.specs.Building.{IsSearchFault}
use Rattle.ak_filtered.specs.FilteredFaults.{IsOutside, of_desk_fault}
use Rattle.ak_filtered.specs.declared.faults.FilteredFault.{FilteredFault}
use Rattle.ak_filtered.specs.declared.faults.FilteredFault.TheVariants as faults

-- a fault of the path, of free ids, or of the plan that was given, which has no id
abbrev pub IsMakingFault : FilteredFault → Type 0
IsMakingFault fault =
    IsOutside fault ⊎ ((own : DeskFault) × IsPathFault own × (fault ≡ of_desk_fault own))
    ⊎ (fault ≡ faults.BadPlan (pos 0)) ⊎ IsSearchFault fault

-- a deck has the path, or the plan that was given is bad, or memory was out
abbrev pub IsGivenFault : FilteredFault → Type 0
IsGivenFault fault =
    (fault ≡ faults.Memory) ⊎ ((own : DeskFault) × IsUseFault own × (fault ≡ of_desk_fault own))
    ⊎ (fault ≡ faults.BadPlan (pos 0)) ⊎ IsSearchFault fault
