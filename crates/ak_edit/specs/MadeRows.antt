-- The tests of the rows that an edit makes.
use Rattle.std.specs.Prelude.{pos, ◌&&◌, Bool, true, not, int_lt, List, [], ◌∷◌, Result, Ok, Err}
use Rattle.std.specs.Option.{option_map_or}
use Rattle.ak_base.specs.Limits.{last_stamp}
use Rattle.ak_base.specs.Rows.{check_of}
use Rattle.ak_base.specs.declared.errors.RowFault.{RowFault}
use Rattle.ak_edit.specs.declared.plans.Write.{Write}

-- Ok if the row that is made passes its check, or none is made, else its first fault
abbrev pub check_of_write : Write → Result (Unit {0}) RowFault
check_of_write write = option_map_or check_of write.row (Ok tt)

-- what the first test says, and if that is Ok, what the second says
abbrev pub first_of : Result (Unit {0}) RowFault → Result (Unit {0}) RowFault → Result (Unit {0}) RowFault
first_of (Ok one) other = other
first_of (Err fault) other = Err fault

-- the first fault of the rows that are made
abbrev pub check_of_rows : List Write → Result (Unit {0}) RowFault
check_of_rows [] = Ok tt
check_of_rows (write ∷ writes) = first_of (check_of_write write) (check_of_rows writes)

-- whether the stamp is 0 to the last one
abbrev pub is_stamp_left : Write → Bool
is_stamp_left write = not (int_lt write.stamp (pos 0)) && not (int_lt last_stamp write.stamp)

-- the same of all of them
abbrev pub have_stamps_left : List Write → Bool
have_stamps_left [] = true
have_stamps_left (write ∷ writes) = is_stamp_left write && have_stamps_left writes
