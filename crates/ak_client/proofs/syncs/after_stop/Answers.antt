use Rattle.std.specs.Prelude.{◌≡◌, true, false}
use Rattle.std.proofs.Common.{refl, sym, subst, ◌∙◌, inl, inr, rules, arith, w64, SFits}
use Rattle.std.proofs.lemmas.Int.{to_z-of_z}
use Rattle.ak_client.proofs.Clocks.{bad_keeps, bad_takes, fault_keeps, fault_takes, stop_keeps, stop_takes}
use Rattle.ak_client.proofs.Keeping.{refusal_kept, stop_unkept}
use Rattle.ak_client.specs.Syncs.{KeepsDevice, TakesMoments}
use Rattle.ak_client.specs.declared.outcomes.Outcome.{Outcome}
use Rattle.ak_faults.proofs.Healths.{goes_nowhere}
use Rattle.ak_client.proofs.syncs.after_stop.Goals as goal

-- no bad sanity check
pub returns-then-not-shows_bad_check-clause-ends : goal.returns-then-not-shows_bad_check-clause-ends
returns-then-not-shows_bad_check-clause-ends g c = inl c.from.ensures

pub returns-then-not-shows_bad_check-clause-device : goal.returns-then-not-shows_bad_check-clause-device
returns-then-not-shows_bad_check-clause-device g c =
    let good : c.shows_bad_check.result ≡ false = grind (arith, c.if-not-shows_bad_check.true) in
    subst (λ (o : Outcome). KeepsDevice 0 (g.K.Lookup.keeping c.args.keeper.now) (g.K.Lookup.keeping c.args.keeper.now) (g.C.Clock.to_come c.args.clock.now) (g.C.Clock.to_come c.args.clock.now) o) (sym c.from.ensures)
    (stop_keeps 0 (g.K.Lookup.keeping c.args.keeper.now) (g.K.Lookup.keeping c.args.keeper.now) (g.C.Clock.to_come c.args.clock.now) (g.C.Clock.to_come c.args.clock.now) c.args.stop (sym c.shows_bad_check.ensures ∙ good) refl)

pub returns-then-not-shows_bad_check-clause-clock : goal.returns-then-not-shows_bad_check-clause-clock
returns-then-not-shows_bad_check-clause-clock g c =
    let good : c.shows_bad_check.result ≡ false = grind (arith, c.if-not-shows_bad_check.true) in
    subst (λ (o : Outcome). TakesMoments 1 (g.C.Clock.to_come c.args.clock.now) (g.C.Clock.to_come c.args.clock.now) o) (sym c.from.ensures)
    (stop_takes c.args.stop (g.C.Clock.to_come c.args.clock.now) (sym c.shows_bad_check.ensures ∙ good))

pub returns-then-not-shows_bad_check-clause-cause : goal.returns-then-not-shows_bad_check-clause-cause
returns-then-not-shows_bad_check-clause-cause g c = stop_unkept c.args.stop c.from.result (goes_nowhere _) c.from.ensures

-- the moments have risen
pub returns-in-Ok-clause-ends : goal.returns-in-Ok-clause-ends
returns-in-Ok-clause-ends g c = inl c.from-in-Ok.ensures

pub returns-in-Ok-clause-device : goal.returns-in-Ok-clause-device
returns-in-Ok-clause-device g c =
    let fits : SFits w64 c.now-at.result = search rules in
    let bad : c.shows_bad_check.result ≡ true = grind (arith, c.if-not-shows_bad_check.false) in
    subst (λ (o : Outcome). KeepsDevice 0 (g.K.Lookup.keeping c.args.keeper.now) (g.K.Lookup.keeping c.raise_moments.new.keeper) (g.C.Clock.to_come c.args.clock.now) (g.C.Clock.to_come c.now-at.new.self) o) (sym c.from-in-Ok.ensures)
    (bad_keeps 0 (g.K.Lookup.keeping c.args.keeper.now) (g.K.Lookup.keeping c.raise_moments.new.keeper) (g.C.Clock.to_come c.args.clock.now) (g.C.Clock.to_come c.now-at.new.self) c.args.stop (sym c.shows_bad_check.ensures ∙ bad) (record {
      at = c.now-at.result;
      given = c.now-at.ensures.given;
      moment = c.now-at.ensures.range;
      raises = rw (to_z-of_z w64 c.now-at.result fits) at c.in-Ok.ensures.ok;
    }))

pub returns-in-Ok-clause-clock : goal.returns-in-Ok-clause-clock
returns-in-Ok-clause-clock g c =
    let bad : c.shows_bad_check.result ≡ true = grind (arith, c.if-not-shows_bad_check.false) in
    subst (λ (o : Outcome). TakesMoments 1 (g.C.Clock.to_come c.args.clock.now) (g.C.Clock.to_come c.now-at.new.self) o) (sym c.from-in-Ok.ensures)
    (bad_takes c.args.stop (g.C.Clock.to_come c.args.clock.now) (g.C.Clock.to_come c.now-at.new.self) (sym c.shows_bad_check.ensures ∙ bad) (c.now-at.result, c.now-at.ensures.given))

pub returns-in-Ok-clause-cause : goal.returns-in-Ok-clause-cause
returns-in-Ok-clause-cause g c = stop_unkept c.args.stop c.from-in-Ok.result c.in-Ok.ensures.cause.goes c.from-in-Ok.ensures

-- the keeper refused that
pub returns-in-Err-clause-ends : goal.returns-in-Err-clause-ends
returns-in-Err-clause-ends g c =
    let bad : c.shows_bad_check.result ≡ true = grind (arith, c.if-not-shows_bad_check.false) in
    inr (c.in-Err.fault, sym c.shows_bad_check.ensures ∙ bad, c.from-in-Err.ensures)

pub returns-in-Err-clause-device : goal.returns-in-Err-clause-device
returns-in-Err-clause-device g c =
    subst (λ (o : Outcome). KeepsDevice 0 (g.K.Lookup.keeping c.args.keeper.now) (g.K.Lookup.keeping c.raise_moments.new.keeper) (g.C.Clock.to_come c.args.clock.now) (g.C.Clock.to_come c.now-at.new.self) o) (sym c.from-in-Err.ensures)
    (fault_keeps 0 (g.K.Lookup.keeping c.args.keeper.now) (g.K.Lookup.keeping c.raise_moments.new.keeper) (g.C.Clock.to_come c.args.clock.now) (g.C.Clock.to_come c.now-at.new.self) c.in-Err.fault c.in-Err.ensures.err)

pub returns-in-Err-clause-clock : goal.returns-in-Err-clause-clock
returns-in-Err-clause-clock g c =
    subst (λ (o : Outcome). TakesMoments 1 (g.C.Clock.to_come c.args.clock.now) (g.C.Clock.to_come c.now-at.new.self) o) (sym c.from-in-Err.ensures)
    (fault_takes c.in-Err.fault 1 (g.C.Clock.to_come c.args.clock.now) (g.C.Clock.to_come c.now-at.new.self) (omega arith) (c.now-at.result, c.now-at.ensures.given))

pub returns-in-Err-clause-cause : goal.returns-in-Err-clause-cause
returns-in-Err-clause-cause g c = λ other. refusal_kept c.in-Err.fault c.from-in-Err.result c.in-Err.ensures.cause c.from-in-Err.ensures
