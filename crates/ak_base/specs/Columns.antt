-- The ranges of a row's columns, and the first fault in the order of the columns.
use Rattle.std.specs.Prelude.{ℕ, ℤ, pos, ◌||◌, int_lt, nat_lt, if◌then◌else◌, List, [], ◌∷◌}
use Rattle.std.specs.Prelude.{Option, Some, None, Result, Ok, Err}
use Rattle.ak_base.specs.Limits.{last_id, last_stamp}
use Rattle.ak_base.specs.declared.errors.RowFault.{RowFault}
use Rattle.ak_base.specs.declared.errors.RowFault.TheVariants.{TooLong, StampRange, IdRange, BadCode}

-- an id is 1 to the last id
unfoldable pub id_fault : ℤ → Option RowFault
id_fault id = if int_lt id (pos 1) || int_lt last_id id then Some IdRange else None

-- 0 stands for no row
unfoldable pub id_or_zero_fault : ℤ → Option RowFault
id_or_zero_fault id = if int_lt id (pos 0) || int_lt last_id id then Some IdRange else None

-- a time of change is 0 to the last stamp, in seconds
unfoldable pub stamp_fault : ℤ → Option RowFault
stamp_fault stamp = if int_lt stamp (pos 0) || int_lt last_stamp stamp then Some StampRange else None

-- a text has at most so many bytes, a list so many entries
unfoldable pub long_fault : ℕ → ℕ → ℕ → Option RowFault
long_fault column length most = if nat_lt most length then Some (TooLong column length) else None

-- any other whole number is from the least to the most of its column
unfoldable pub code_fault : ℕ → ℤ → ℤ → ℤ → Option RowFault
code_fault column value least most =
    if int_lt value least || int_lt most value then Some (BadCode column value) else None

-- the first fault of the columns, in their order
abbrev pub first_fault : List (Option RowFault) → Result (Unit {0}) RowFault
first_fault [] = Ok tt
first_fault (None ∷ faults) = first_fault faults
first_fault (Some fault ∷ faults) = Err fault
