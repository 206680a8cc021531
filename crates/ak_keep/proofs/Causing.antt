-- The cause of a call that was not refused.
use Rattle.std.specs.Prelude.{Ok}
use Rattle.ak_faults.specs.Causes.{Health, GoesOn}
use Rattle.ak_keep.specs.Keepers.{KeepCause}

pub cause-ok : {T : Type 0} {a b : Health} (answer : T) → GoesOn a b → KeepCause a b (Ok answer)
cause-ok answer goes = record { goes = goes; failed = λ h. cc; unfailed = λ _ h. cc }
