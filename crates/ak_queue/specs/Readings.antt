-- The promise of the calls that ask for a day's queue.
use Rattle.std.specs.Prelude.{◌≡◌, ◌⊎◌, ℤ, None, Result, IfOk, IfErr}
use Rattle.ak_faults.specs.Causes.{HasCauseOf}
use Rattle.ak_keep.specs.Collections.{Holding}
use Rattle.ak_keep.specs.Keepers.{WhereTold}
use Rattle.ak_keep.specs.Lookups.{deck_at}
use Rattle.ak_keep.specs.declared.readables.Lookup.{Ghosts}
use Rattle.ak_queue.specs.declared.faults.QueueFault.{QueueFault}
use Rattle.ak_queue.specs.declared.faults.QueueFault.TheVariants as faults
use Rattle.ak_keep.specs.declared.keepers.KeepFault.{KeepFault}
use Rattle.ak_keep.specs.declared.keepers.KeepFault.TheVariants as reading

-- what a refused reading is told as
abbrev pub fault_of : KeepFault → QueueFault
fault_of reading.Failed = faults.Failed
fault_of reading.Memory = faults.Memory

-- a call that asks for the queue of a deck: it leaves all as it was, answers `Failed` only if a fault was counted in it, and this is true
-- of its answer and of what is held, if that is told
pub record AsksFor {Self T : Type 0} (R : Ghosts Self) (deck : ℤ) (was now : Self) (result : Result T QueueFault) (P : Holding → T → Type 0) : Type 0 where
  pub kept : R.kept now ≡ R.kept was
  pub same : R.keeping now ≡ R.keeping was
  pub cause : HasCauseOf faults.Failed (R.health was) (R.health now) result
  -- the deck is missed only if it is not held
  pub missed : IfErr result (λ fault. fault ≡ faults.NoDeck deck → WhereTold (R.keeping was) (λ h. deck_at h.rows deck ≡ None))
  pub others : IfErr result (λ fault. (fault ≡ faults.NoDeck deck) ⊎ ((fault ≡ faults.Failed) ⊎ (fault ≡ faults.Memory)))
  pub told : IfOk result (λ answer. WhereTold (R.keeping was) (λ h. P h answer))
