-- The promise of a call that asks for a queue, after a read.
use Rattle.std.proofs.Common.{◌≡◌, ◌∙◌, ℤ, None, Result, Ok, Err, IsErrOf, ap, subst}
use Rattle.ak_faults.proofs.Healths.{cause_after, goes_further}
use Rattle.ak_faults.specs.Causes.{Health, GoesOn, HasCauseOf}
use Rattle.ak_keep.specs.Collections.{Holding}
use Rattle.ak_keep.specs.Keepers.{Keeping, WhereTold}
use Rattle.ak_keep.specs.Lookups.{deck_at}
use Rattle.ak_keep.specs.declared.readables.Lookup.{Ghosts}
use Rattle.ak_queue.specs.Readings.{AsksFor}
use Rattle.ak_queue.specs.declared.faults.QueueFault.{QueueFault}
use Rattle.ak_queue.specs.declared.faults.QueueFault.TheVariants as faults

-- an answer has a cause
pub answered : {T : Type 0} {a b : Health} (answer : T) → GoesOn a b → HasCauseOf faults.Failed a b (Ok answer)
answered answer goes = record { goes = goes; failed = λ h. cc; unfailed = λ _ h. cc }

-- a refusal is the same of whatever was asked for
same_refusal : {T U : Type 0} (fault other : QueueFault) → IsErrOf {T = T} (Err fault) other → IsErrOf {T = U} (Err fault) other
same_refusal fault other is = let same : fault ≡ other = cc is in ap Err same

-- a call that was refused after a read
pub refused_after : {Self T U : Type 0} (R : Ghosts Self) (deck : ℤ) (was mid now : Self) (fault : QueueFault) (P : Holding → T → Type 0) (Q : Holding → U → Type 0) → R.kept mid ≡ R.kept was → R.keeping mid ≡ R.keeping was
    → GoesOn (R.health was) (R.health mid) → AsksFor R deck mid now (Err fault) P → AsksFor R deck was now (Err fault) Q
refused_after R deck was mid now fault P Q kept same goes call =
    let cause = cause_after goes call.cause in
    record {
      kept = call.kept ∙ kept;
      same = call.same ∙ same;
      cause = record {
        goes = cause.goes;
        failed = λ is. cause.failed (same_refusal fault faults.Failed is);
        unfailed = λ calm is. cause.unfailed calm (same_refusal fault faults.Failed is);
      };
      missed = subst (λ (k : Keeping). fault ≡ faults.NoDeck deck → WhereTold k (λ h. deck_at h.rows deck ≡ None)) same call.missed;
      others = call.others;
      told = tt;
    }

-- a call after a read, of whose answer more is known by what was read
pub asked_after : {Self T : Type 0} (R : Ghosts Self) (deck : ℤ) (was mid now : Self) (result : Result T QueueFault) (P Q : Holding → T → Type 0) → R.kept mid ≡ R.kept was → R.keeping mid ≡ R.keeping was
    → GoesOn (R.health was) (R.health mid) → ((answer : T) → WhereTold (R.keeping was) (λ h. P h answer) → WhereTold (R.keeping was) (λ h. Q h answer)) → AsksFor R deck mid now result P → AsksFor R deck was now result Q
asked_after R deck was mid now (Ok answer) P Q kept same goes step call = record {
  kept = call.kept ∙ kept;
  same = call.same ∙ same;
  cause = answered answer (goes_further goes call.cause.goes);
  missed = tt;
  others = tt;
  told = step answer (subst (λ (k : Keeping). WhereTold k (λ h. P h answer)) same call.told);
}
asked_after R deck was mid now (Err fault) P Q kept same goes step call = refused_after R deck was mid now fault P Q kept same goes call
