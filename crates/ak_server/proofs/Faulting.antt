-- Calls that are refused for the fault of another.
use Rattle.std.specs.Prelude.{◌≡◌, Result, Ok, Err, IfOk, IsErrAnd, OnErr, OnOk}
use Rattle.std.specs.Result.{IsErrOf}
use Rattle.std.proofs.Common.{sym, ap, subst}
use Rattle.ak_faults.specs.Causes.{Health}
use Rattle.ak_keep.specs.Keepers.{KeepCause}
use Rattle.ak_keep.specs.declared.keepers.KeepFault.{KeepFault}
use Rattle.ak_keep.specs.declared.keepers.KeepFault.TheVariants.{Failed}

pub err_on : {T : Type 0} (r : Result T KeepFault) (P : Type 0) → P → OnErr r P
err_on (Ok x) P p = tt
err_on (Err y) P p = p

same_err : {T : Type 0} (x y : KeepFault) → IsErrOf {T = T} (Err x) y → x ≡ y
same_err x y is = cc

err_of : {T : Type 0} (x y : KeepFault) → x ≡ y → IsErrOf {T = T} (Err x) y
err_of x y is = ap (λ (f : KeepFault). Err f) is

-- the cause of the one is that of the other
pub err_cause : {T U : Type 0} {a b : Health} (r : Result T KeepFault) (fault : KeepFault) → IsErrAnd r (λ y. y ≡ fault) → KeepCause {T = U} a b (Err fault) → KeepCause {T = T} a b r
err_cause (Ok x) fault is cause = absurd is
err_cause {T = T} {U = U} {a = a} {b = b} (Err y) fault is cause =
    subst (λ (f : KeepFault). KeepCause {T = T} a b (Err f)) (sym is) (record {
      goes = cause.goes;
      failed = λ h. cause.failed (err_of {T = U} fault Failed (same_err {T = T} fault Failed h));
      unfailed = λ calm h. cause.unfailed calm (err_of {T = U} fault Failed (same_err {T = T} fault Failed h));
    })

-- ---- a last call
-- what follows from three facts of a call that was not refused
pub on_ok : {T : Type 0} (r : Result T KeepFault) (A B C P : Type 0) → (A → B → C → P) → OnOk r A → OnOk r B → OnOk r C → OnOk r P
on_ok (Ok x) A B C P so a b c = so a b c
on_ok (Err y) A B C P so a b c = tt

-- and from its answer too
pub if_ok : {T : Type 0} (r : Result T KeepFault) (given : T) (A B C : Type 0) (P : T → Type 0) → (A → B → C → P given) → IfOk r (λ x. x ≡ given)
    → OnOk r A → OnOk r B → OnOk r C → IfOk r P
if_ok (Ok x) given A B C P so is a b c = subst P (sym is) (so a b c)
if_ok (Err y) given A B C P so is a b c = tt

-- what holds of an answer follows from what holds of it
pub ok_so : {T : Type 0} (r : Result T KeepFault) (P Q : T → Type 0) → ((x : T) → P x → Q x) → IfOk r P → IfOk r Q
ok_so (Ok x) P Q so is = so x is
ok_so (Err y) P Q so is = tt

-- and of a refusal
pub err_so : {T : Type 0} (r : Result T KeepFault) (P Q : Type 0) → (P → Q) → OnErr r P → OnErr r Q
err_so (Ok x) P Q so is = tt
err_so (Err y) P Q so is = so is
