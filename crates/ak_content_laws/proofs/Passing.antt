-- Tests that do not refuse, one by one.
use Rattle.std.specs.Prelude.{◌≡◌, Option, Some, None}
use Rattle.std.proofs.Common.{inl, inr, refl}
use Rattle.ak_base.specs.declared.names.Name.{Name}
use Rattle.ak_edit.specs.Refusals.{OrElse, Refusal}
use Rattle.ak_edit.specs.declared.desk_faults.DeskFault.{DeskFault}
use Rattle.ak_edit.specs.declared.desk_faults.DeskFault.TheVariants as faults
use Rattle.ak_notes.specs.MadeNotes.{NeedsHeld}

-- if none of the tests holds, neither the first does
pub first_passes : (first others : Refusal) → ((fault : DeskFault) → OrElse first others fault → ⊥) → (fault : DeskFault) → first fault → ⊥
first_passes first others passes fault is = passes fault (inl is)

-- nor one of the others
pub others_pass : (first others : Refusal) → ((fault : DeskFault) → OrElse first others fault → ⊥) → (fault : DeskFault) → others fault → ⊥
others_pass first others passes fault is = passes fault (inr ((λ any held. passes any (inl held)), is))

-- a row that a call needs is held, and the tests with it do not hold
pub needs_pass : {A : Type 0} (x : Option A) (name : Name) (tests : A → Refusal) → ((fault : DeskFault) → NeedsHeld x name tests fault → ⊥) → (a : A) × (x ≡ Some a) × ((fault : DeskFault) → tests a fault → ⊥)
needs_pass None name tests passes = absurd (passes (faults.NoSuch name) refl)
needs_pass (Some a) name tests passes = (a, refl, passes)
