-- The first fault of columns that come in two parts.
use Rattle.std.proofs.Common.{◌≡◌, Option, Some, None, Ok, Err, List, [], ◌∷◌, ◌++◌, refl}
use Rattle.ak_base.specs.Columns.{first_fault}
use Rattle.ak_base.specs.declared.errors.RowFault.{RowFault}

-- a fault of the first columns is the fault of the row
pub fault_of_front : (fs gs : List (Option RowFault)) (fault : RowFault) → first_fault fs ≡ Err fault → first_fault (fs ++ gs) ≡ Err fault
fault_of_front [] gs fault e = cc
fault_of_front (None ∷ fs) gs fault e = fault_of_front fs gs fault e
fault_of_front (Some f ∷ fs) gs fault e = e

-- where the first columns have none, the fault of the others is
pub fault_behind : (fs gs : List (Option RowFault)) (good : Unit {0}) → first_fault fs ≡ Ok good → first_fault (fs ++ gs) ≡ first_fault gs
fault_behind [] gs good e = refl
fault_behind (None ∷ fs) gs good e = fault_behind fs gs good e
fault_behind (Some f ∷ fs) gs good e = cc
