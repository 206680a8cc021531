-- One promise for all calls that only read.
use Rattle.std.specs.Prelude.{Result}
use Rattle.ak_keep.specs.Collections.{Holding}
use Rattle.ak_keep.specs.Keepers.{Reads}
use Rattle.ak_keep.specs.declared.keepers.KeepFault.{KeepFault}
use Rattle.ak_keep.specs.declared.readables.Lookup.{Ghosts}

-- a call that only reads what `R` says can be looked up: it leaves all as it was, fails only for the reader's cause, and this
-- is true of its answer and of what is held, where that is told
abbrev pub ReadsBy : {Self T : Type 0} → Ghosts Self → Self → Self → Result T KeepFault → (Holding → T → Type 0) → Type 0
ReadsBy R was now result P = Reads (R.kept was) (R.kept now) (R.keeping was) (R.keeping now) (R.health was) (R.health now) result P
