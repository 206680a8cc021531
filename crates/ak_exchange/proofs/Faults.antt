-- A part of a sync stops because the keeper failed only if the keeper's count of faults rose.
use Rattle.std.specs.Prelude.{◌≡◌, ◌≢◌, true, false, Result, Ok, Err, IsErrAnd, IfErr}
use Rattle.std.proofs.Common.{refl, sym, ap, subst, ◌∙◌, arith}
use Rattle.ak_client_wire.specs.declared.asks.Unanswered.{Unanswered}
use Rattle.ak_client_wire.specs.declared.asks.Unanswered.TheVariants as unanswered
use Rattle.ak_exchange.specs.Stops.{is_keep, keep_stop, wire_stop}
use Rattle.ak_exchange.specs.declared.stops.Stop.{Stop}
use Rattle.ak_exchange.specs.declared.stops.Stop.TheVariants as stops
use Rattle.ak_faults.specs.Causes.{GoesOn, HasCauseOf, Health, Rose}
use Rattle.ak_keep.specs.Keepers.{KeepCause}
use Rattle.ak_keep.specs.declared.keepers.KeepFault.{KeepFault}
use Rattle.ak_keep.specs.declared.keepers.KeepFault.TheVariants as faults

-- ---- whatever the errors are
pub err_is : {T E : Type 0} (result : Result T E) (why : E) → IsErrAnd result (λ (e : E). e ≡ why) → result ≡ Err why
err_is {T} {E} (Ok x) why is = absurd is
err_is {T} {E} (Err e) why is = ap (λ (x : E). Err x) is

pub same_err : {T E : Type 0} (one other : E) → (let refused : Result T E = Err one in refused ≡ Err other) → one ≡ other
same_err one other is = grind (arith, is)

-- it ended well, or with another error
pub cause_unlike : {T E : Type 0} {error : E} (result : Result T E) {a b : Health} → GoesOn a b → IfErr result (λ (e : E). e ≢ error)
    → HasCauseOf error a b result
cause_unlike {T} {E} {error} result {a} {b} goes unlike = record {
  goes = goes;
  failed = λ is. absurd (never result unlike is);
  unfailed = λ calm is. never result unlike is;
}
  where
    never : (r : Result T E) → IfErr r (λ (e : E). e ≢ error) → r ≡ Err error → ⊥
    never (Ok x) other is = grind (arith, is)
    never (Err e) other is = other (same_err {T = T} e error is)

pub cause_ok : {T E : Type 0} {error : E} (x : T) {a b : Health} → GoesOn a b → HasCauseOf {T = T} error a b (Ok x)
cause_ok {T} {E} {error} x goes = cause_unlike {T = T} {E = E} {error = error} (Ok x) goes tt

-- it passed on what a part of it ended with
pub cause_passed : {T U E : Type 0} {error : E} (result : Result T E) (e : E) {a b : Health} → HasCauseOf {T = U} error a b (Err e)
    → IsErrAnd result (λ (other : E). other ≡ e) → HasCauseOf error a b result
cause_passed {T} {U} {E} {error} result e cause is = record {
  goes = cause.goes;
  failed = λ so. cause.failed (ap (λ (x : E). Err x) (why so));
  unfailed = λ calm so. cause.unfailed calm (ap (λ (x : E). Err x) (why so));
}
  where
    why : result ≡ Err error → e ≡ error
    why so = same_err {T = T} e error (sym (err_is result e is) ∙ so)

-- ---- it stopped for another reason
abbrev pub IsUnkept : {T : Type 0} → Result T Stop → Type 0
IsUnkept result = IfErr result (λ (stop : Stop). is_keep stop ≡ false)

unkept_as : {T : Type 0} (result : Result T Stop) (why : Stop) → is_keep why ≡ false → IsErrAnd result (λ (stop : Stop). stop ≡ why) → IsUnkept result
unkept_as (Ok x) why not_keep is = tt
unkept_as (Err stop) why not_keep is = ap is_keep is ∙ not_keep

pub unkept_memory : {T : Type 0} (result : Result T Stop) → IsErrAnd result (λ (stop : Stop). stop ≡ stops.Memory) → IsUnkept result
unkept_memory result is = unkept_as result stops.Memory refl is

pub unkept_wire : {T : Type 0} (result : Result T Stop) (why : Unanswered) → IsErrAnd result (λ (stop : Stop). stop ≡ wire_stop why) → IsUnkept result
unkept_wire result why is = unkept_as result (wire_stop why) (each why) is
  where
    each : (u : Unanswered) → is_keep (wire_stop u) ≡ false
    each unanswered.Lost = refl
    each unanswered.BadReply = refl
    each (unanswered.Refused status word seen) = refl
    each unanswered.Memory = refl

pub cause_unkept : {T : Type 0} (result : Result T Stop) {a b : Health} → GoesOn a b → IsUnkept result → HasCauseOf stops.Keep a b result
cause_unkept {T} result {a} {b} goes unkept = record {
  goes = goes;
  failed = λ is. absurd (never is);
  unfailed = λ calm is. never is;
}
  where
    never : result ≡ Err stops.Keep → ⊥
    never is = let not : true ≡ false = subst (λ (r : Result T Stop). IsUnkept r) is unkept in grind (arith, not)

pub cause_memory : {T : Type 0} (result : Result T Stop) {a b : Health} → GoesOn a b → IsErrAnd result (λ (stop : Stop). stop ≡ stops.Memory)
    → HasCauseOf stops.Keep a b result
cause_memory result goes is = cause_unkept result goes (unkept_memory result is)

pub cause_wire : {T : Type 0} (result : Result T Stop) (why : Unanswered) {a b : Health} → GoesOn a b → IsErrAnd result (λ (stop : Stop). stop ≡ wire_stop why)
    → HasCauseOf stops.Keep a b result
cause_wire result why goes is = cause_unkept result goes (unkept_wire result why is)

-- ---- it stopped since the keeper refused
pub cause_keeper : {T U : Type 0} (result : Result T Stop) (fault : KeepFault) {a b : Health} → KeepCause {T = U} a b (Err fault)
    → IsErrAnd result (λ (stop : Stop). stop ≡ keep_stop fault) → HasCauseOf stops.Keep a b result
cause_keeper {T} {U} result fault {a} {b} cause is = record {
  goes = cause.goes;
  failed = λ keep. rose fault cause (why keep);
  unfailed = λ calm keep. never fault cause (why keep) calm;
}
  where
    why : result ≡ Err stops.Keep → keep_stop fault ≡ stops.Keep
    why keep = same_err {T = T} (keep_stop fault) stops.Keep (sym (err_is result (keep_stop fault) is) ∙ keep)

    rose : (f : KeepFault) → KeepCause {T = U} a b (Err f) → keep_stop f ≡ stops.Keep → Rose a b
    rose faults.Failed by keep = by.failed refl
    rose faults.Memory by keep = absurd (grind (arith, keep))

    never : (f : KeepFault) → KeepCause {T = U} a b (Err f) → keep_stop f ≡ stops.Keep → a.calm ≡ true → ⊥
    never faults.Failed by keep calm = by.unfailed calm refl
    never faults.Memory by keep calm = grind (arith, keep)
