-- A sync ends because the keeper failed only if the keeper's count of faults rose.
use Rattle.std.specs.Prelude.{◌≡◌, ℤ, Bool, true, false, Result, Ok, Err, IsErrAnd, IfErr}
use Rattle.std.proofs.Common.{refl, sym, ap, ◌∙◌, arith}
use Rattle.ak_client.proofs.Clocks.{same_stop}
use Rattle.ak_client.specs.Outcomes.{HasOutcomeCause, outcome_at, outcome_of}
use Rattle.ak_client.specs.declared.outcomes.Outcome.{Outcome}
use Rattle.ak_client.specs.declared.outcomes.Outcome.TheVariants as outcomes
use Rattle.ak_client_wire.specs.declared.asks.Unanswered.{Unanswered}
use Rattle.ak_exchange.proofs.Faults.{IsUnkept, cause_keeper, cause_wire, err_is, same_err}
use Rattle.ak_exchange.specs.Stops.{comes_before_finish, is_keep, keep_stop, wire_stop}
use Rattle.ak_exchange.specs.declared.stops.Stop.{Stop}
use Rattle.ak_exchange.specs.declared.stops.Stop.TheVariants as stops
use Rattle.ak_faults.proofs.Healths.{cause_after, goes_further}
use Rattle.ak_faults.specs.Causes.{GoesOn, HasCauseOf, Health}
use Rattle.ak_keep.specs.Keepers.{KeepCause}
use Rattle.ak_keep.specs.declared.keepers.KeepFault.{KeepFault}
use Rattle.ak_protocol.proofs.Commits.{not_both}

-- a finish asks nothing of the keeper
late_unkept : (stop : Stop) → comes_before_finish stop ≡ false → is_keep stop ≡ false
late_unkept (stops.BadRow fault) late = refl
late_unkept (stops.BadCounts client server) late = refl
late_unkept (stops.Refused status word seen) late = refl
late_unkept stops.Lost late = refl
late_unkept stops.BadReply late = refl
late_unkept stops.TooManyChunks late = refl
late_unkept stops.Keep late = late
late_unkept stops.Memory late = refl

pub finish_unkept : (result : Result ℤ Stop) → IfErr result (λ (stop : Stop). comes_before_finish stop ≡ false) → IsUnkept result
finish_unkept (Ok moment) late = tt
finish_unkept (Err stop) late = late_unkept stop late

is_kept : (stop : Stop) → is_keep stop ≡ true → stop ≡ stops.Keep
is_kept (stops.BadRow fault) is = absurd (grind (arith, is))
is_kept (stops.BadCounts client server) is = absurd (grind (arith, is))
is_kept (stops.Refused status word seen) is = absurd (grind (arith, is))
is_kept stops.Lost is = absurd (grind (arith, is))
is_kept stops.BadReply is = absurd (grind (arith, is))
is_kept stops.TooManyChunks is = absurd (grind (arith, is))
is_kept stops.Keep is = refl
is_kept stops.Memory is = absurd (grind (arith, is))

-- ---- the outcome
-- the cause of a stop is that of its outcome
pub outcome_cause : {T U : Type 0} (result : Result T Outcome) (stop : Stop) {a b : Health} → HasCauseOf {T = U} stops.Keep a b (Err stop)
    → IsErrAnd result (λ (outcome : Outcome). outcome ≡ outcome_at stop) → HasCauseOf outcomes.Keep a b result
outcome_cause {T} {U} result stop cause is = record {
  goes = cause.goes;
  failed = λ keep. cause.failed (ap (λ (s : Stop). Err s) (why keep));
  unfailed = λ calm keep. cause.unfailed calm (ap (λ (s : Stop). Err s) (why keep));
}
  where
    why : result ≡ Err outcomes.Keep → stop ≡ stops.Keep
    why keep = same_stop stop stops.Keep (same_err {T = T} (outcome_at stop) outcomes.Keep (sym (err_is result (outcome_at stop) is) ∙ keep))

-- of the keeper's refusal
pub keeper_cause : {T U : Type 0} (result : Result T Outcome) (fault : KeepFault) {a b : Health} → KeepCause {T = U} a b (Err fault)
    → IsErrAnd result (λ (outcome : Outcome). outcome ≡ outcome_at (keep_stop fault)) → HasCauseOf outcomes.Keep a b result
keeper_cause {T} {U} result fault cause is = outcome_cause {U = T} result (keep_stop fault) (cause_keeper {T = T} {U = U} (Err (keep_stop fault)) fault cause refl) is

-- of a request that was not granted
pub wire_cause : {T : Type 0} (result : Result T Outcome) (why : Unanswered) {a b : Health} → GoesOn a b
    → IsErrAnd result (λ (outcome : Outcome). outcome ≡ outcome_at (wire_stop why)) → HasCauseOf outcomes.Keep a b result
wire_cause {T} result why goes is = outcome_cause {U = T} result (wire_stop why) (cause_wire {T = T} (Err (wire_stop why)) why goes refl) is

-- ---- an end
-- for a stop that is no fault of the keeper
pub stop_unkept : (stop : Stop) (outcome : Outcome) {a b : Health} → GoesOn a b → outcome ≡ outcome_at stop → is_keep stop ≡ false → HasOutcomeCause outcomes.Keep a b outcome
stop_unkept stop outcome goes is other = record {
  goes = goes;
  failed = λ keep. absurd (never keep);
  unfailed = λ calm keep. never keep;
}
  where
    never : outcome ≡ outcomes.Keep → ⊥
    never keep = not_both (ap is_keep (same_stop stop stops.Keep (sym is ∙ keep))) other

-- for the keeper's refusal
pub refusal_kept : {T : Type 0} (fault : KeepFault) (outcome : Outcome) {a b : Health} → KeepCause {T = T} a b (Err fault) → outcome ≡ outcome_at (keep_stop fault)
    → HasOutcomeCause outcomes.Keep a b outcome
refusal_kept {T} fault outcome {a} {b} cause is =
    let own : HasCauseOf {T = T} outcomes.Keep a b (Err outcome) = keeper_cause {T = T} {U = T} (Err outcome) fault cause is in
    record {
      goes = own.goes;
      failed = λ keep. own.failed (ap (λ (o : Outcome). Err o) keep);
      unfailed = λ calm keep. own.unfailed calm (ap (λ (o : Outcome). Err o) keep);
    }

-- of an exchange that stopped, once the keeper was taken back and what followed on it was done
pub cause_stopped : {T U : Type 0} (stop : Stop) (outcome : Outcome) {a b c d e : Health} → GoesOn a b → HasCauseOf {T = T} stops.Keep b c (Err stop)
    → GoesOn c d → GoesOn d e → (is_keep stop ≡ false → HasOutcomeCause outcomes.Keep d e outcome) → HasCauseOf {T = U} outcomes.Keep a e (Err outcome)
cause_stopped {T} {U} stop outcome {a} {b} {c} {d} {e} first cause back later after = by (is_keep stop) refl
  where
    by : (kept : Bool) → is_keep stop ≡ kept → HasCauseOf {T = U} outcomes.Keep a e (Err outcome)
    by false is =
        let own = after is in
        cause_after (goes_further (goes_further first cause.goes) back) (record {
          goes = own.goes;
          failed = λ keep. own.failed (same_err {T = U} outcome outcomes.Keep keep);
          unfailed = λ calm keep. own.unfailed calm (same_err {T = U} outcome outcomes.Keep keep);
        })
    by true is =
        let keep : Err stop ≡ Err stops.Keep = ap (λ (s : Stop). Err s) (is_kept stop is) in
        let goes : GoesOn a e = goes_further (goes_further (goes_further first cause.goes) back) later in
        record {
          goes = goes;
          failed = λ any. let rose = cause.failed keep in let early = first.later in let middle = back.later in let late = later.later in grind (arith, rose, early, middle, late);
          unfailed = λ calm any. cause.unfailed (first.calm calm) keep;
        }

-- of a whole sync
was_kept : (result : Result (Unit {0}) Outcome) → outcome_of result ≡ outcomes.Keep → result ≡ Err outcomes.Keep
was_kept (Ok done) is = absurd (grind (arith, is))
was_kept (Err outcome) is = ap (λ (o : Outcome). Err o) is

pub kept_cause : (result : Result (Unit {0}) Outcome) {a b : Health} → HasCauseOf outcomes.Keep a b result → HasOutcomeCause outcomes.Keep a b (outcome_of result)
kept_cause result cause = record {
  goes = cause.goes;
  failed = λ is. cause.failed (was_kept result is);
  unfailed = λ calm is. cause.unfailed calm (was_kept result is);
}
