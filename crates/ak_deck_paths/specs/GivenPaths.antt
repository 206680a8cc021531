-- The path that a call is given, and why it is refused.
use Rattle.std.specs.Prelude.{◌≡◌, ℕ, pos, Bool, ◌||◌, ◌==◌, nat_lt, if◌then◌else◌, List, length, Option, Some, None}
use Rattle.std.specs.List.{list_any}
use Rattle.ak_base.specs.Paths.{parts_of}
use Rattle.ak_base.specs.declared.errors.RowFault.{RowFault}
use Rattle.ak_base.specs.declared.errors.RowFault.TheVariants.{BadCode, TooLong}
use Rattle.ak_edit.specs.Refusals.{Refusal}
use Rattle.ak_edit.specs.declared.desk_faults.DeskFault.{DeskFault}
use Rattle.ak_edit.specs.declared.desk_faults.DeskFault.TheVariants as faults

-- a byte that no path may have: one under a space
abbrev pub is_control : ℕ → Bool
is_control byte = nat_lt byte 32

-- whether one of a path's parts is empty: so is the one part of the empty path
abbrev pub has_empty_part : List ℕ → Bool
has_empty_part path = list_any (λ (part : List ℕ). length part == 0) (parts_of path)

-- a path has at most 512 bytes, none of them under a space, and no part that is empty
abbrev pub path_fault : List ℕ → Option RowFault
path_fault path =
    if nat_lt 512 (length path) then Some (TooLong 3 (length path))
    else if list_any is_control path || has_empty_part path then Some (BadCode 3 (pos 0))
    else None

-- the path that was given is out of its range
abbrev pub RefusesPath : List ℕ → Refusal
RefusesPath path fault = (row : RowFault) × (path_fault path ≡ Some row) × (fault ≡ faults.Row row)

-- a fault of a row
abbrev pub IsRowFault : DeskFault → Type 0
IsRowFault fault = (row : RowFault) × (fault ≡ faults.Row row)
