use Rattle.std.specs.Prelude.{◌≡◌, ℤ, Ok, Err, IfErr, Result, None, false}
use Rattle.std.proofs.Common.{refl, sym, subst, ◌∙◌, inl, rules, w64, SFits}
use Rattle.std.proofs.lemmas.Int.{to_z-of_z}
use Rattle.ak_client.proofs.Clocks.{greeting_takes, unanswered_takes, unanswered_unchanged}
use Rattle.ak_client.proofs.Greeting.{greets_on, greets_stop}
use Rattle.ak_client.proofs.Keeping.{wire_cause}
use Rattle.ak_client.proofs.Testing.{below_last, ends_by_heads, ends_by_rows, exits, finds_told, greeting_by_clocks, greeting_by_device, greeting_goes_on, greeting_unheard, heads_pass, passed, ready_where, usn_within}
use Rattle.ak_client.specs.Greetings.{GreetsTold, IsGreeting, clock_stop, head_stop}
use Rattle.ak_client.specs.Outcomes.{changes_device, outcome_at}
use Rattle.ak_client.specs.Syncs.{TakesMoments}
use Rattle.ak_client.specs.declared.outcomes.Outcome.{Outcome}
use Rattle.ak_exchange.proofs.Faults.{cause_ok, cause_passed, cause_unlike}
use Rattle.ak_exchange.specs.Stops.{wire_stop}
use Rattle.ak_exchange.specs.declared.envelopes.Met.{Met}
use Rattle.ak_faults.proofs.Healths.{cause_after, goes_further, goes_nowhere}
use Rattle.ak_keep.specs.Keepers.{Keeping, WhereTold}
use Rattle.ak_merge.specs.Edits.{second_of}
use Rattle.ak_merge.specs.Soundness.{first_fault}
use Rattle.ak_messages.specs.declared.requests.Request.{Request}
use Rattle.ak_client_wire.specs.Forms.{meta_in}
use Rattle.ak_client_wire.specs.Tries.{Answered}
use Rattle.ak_client.proofs.greetings.greet.Goals as goal

pub test_device-requires-clause-usn : goal.test_device-requires-clause-usn
test_device-requires-clause-usn g c =
    usn_within c.meta_request-request.result (g.W.End.health c.args.wire.now) (g.W.End.health c.ask.new.wire) (g.W.Wire.state c.args.wire.now) (g.W.Wire.state c.ask.new.wire) c.in_ok-meta.meta c.in_ok-meta.ensures

pub returns-in_err-meta-clause-greets : goal.returns-in_err-meta-clause-greets
returns-in_err-meta-clause-greets g c =
    exits c.from_residual.result (outcome_at (wire_stop c.in_err-meta.field-0.0)) (λ (r : Result Met Outcome). GreetsTold c.args.ids (g.W.Wire.state c.args.wire.now).log (g.W.Wire.state c.ask.new.wire).log r) c.from_residual.ensures.1
    (greets_stop c.args.ids (g.W.End.health c.args.wire.now) (g.W.End.health c.ask.new.wire) (g.W.Wire.state c.args.wire.now) (g.W.Wire.state c.ask.new.wire) (Err c.in_err-meta.field-0.0) (outcome_at (wire_stop c.in_err-meta.field-0.0))
    (subst (λ (request : Request). Answered (g.W.End.health c.args.wire.now) (g.W.End.health c.ask.new.wire) (g.W.Wire.state c.args.wire.now) (g.W.Wire.state c.ask.new.wire) request meta_in (Err c.in_err-meta.field-0.0)) c.meta_request-request.ensures c.in_err-meta.ensures))

pub returns-in_err-meta-clause-clock : goal.returns-in_err-meta-clause-clock
returns-in_err-meta-clause-clock g c =
    exits c.from_residual.result (outcome_at (wire_stop c.in_err-meta.field-0.0)) (λ (r : Result Met Outcome). IfErr r (TakesMoments 0 (g.C.Clock.to_come c.args.clock.now) (g.C.Clock.to_come c.args.clock.now))) c.from_residual.ensures.1
    (unanswered_takes c.in_err-meta.field-0.0 (g.C.Clock.to_come c.args.clock.now))

pub returns-in_err-meta-clause-early : goal.returns-in_err-meta-clause-early
returns-in_err-meta-clause-early g c =
    exits c.from_residual.result (outcome_at (wire_stop c.in_err-meta.field-0.0)) (λ (r : Result Met Outcome). IfErr r (λ (outcome : Outcome). changes_device outcome ≡ false)) c.from_residual.ensures.1
    (unanswered_unchanged c.in_err-meta.field-0.0)

pub returns-in_err-test_clocks-clause-early : goal.returns-in_err-test_clocks-clause-early
returns-in_err-test_clocks-clause-early g c =
    exits c.from_residual-in_err-test_clocks.result c.in_err-test_clocks.field-0.0 (λ (r : Result Met Outcome). IfErr r (λ (outcome : Outcome). changes_device outcome ≡ false)) c.from_residual-in_err-test_clocks.ensures.1
    c.in_err-test_clocks.ensures.early.unchanged

pub returns-in_err-test_clocks-clause-greets : goal.returns-in_err-test_clocks-clause-greets
returns-in_err-test_clocks-clause-greets g c =
    exits c.from_residual-in_err-test_clocks.result c.in_err-test_clocks.field-0.0 (λ (r : Result Met Outcome). GreetsTold c.args.ids (g.W.Wire.state c.args.wire.now).log (g.W.Wire.state c.ask.new.wire).log r) c.from_residual-in_err-test_clocks.ensures.1
    (greets_stop c.args.ids (g.W.End.health c.args.wire.now) (g.W.End.health c.ask.new.wire) (g.W.Wire.state c.args.wire.now) (g.W.Wire.state c.ask.new.wire) (Ok c.in_ok-meta.meta) c.in_err-test_clocks.field-0.0
    (subst (λ (request : Request). Answered (g.W.End.health c.args.wire.now) (g.W.End.health c.ask.new.wire) (g.W.Wire.state c.args.wire.now) (g.W.Wire.state c.ask.new.wire) request meta_in (Ok c.in_ok-meta.meta)) c.meta_request-request.ensures c.in_ok-meta.ensures))

pub returns-in_err-test_clocks-clause-clock : goal.returns-in_err-test_clocks-clause-clock
returns-in_err-test_clocks-clause-clock g c =
    exits c.from_residual-in_err-test_clocks.result c.in_err-test_clocks.field-0.0 (λ (r : Result Met Outcome). IfErr r (TakesMoments 0 (g.C.Clock.to_come c.args.clock.now) (g.C.Clock.to_come c.now-at.new.self))) c.from_residual-in_err-test_clocks.ensures.1
    (greeting_takes c.in_err-test_clocks.field-0.0 (g.C.Clock.to_come c.args.clock.now) (g.C.Clock.to_come c.now-at.new.self) c.in_err-test_clocks.ensures.early (c.now-at.result, c.now-at.ensures.given))

pub returns-in_err-head-clause-greets : goal.returns-in_err-head-clause-greets
returns-in_err-head-clause-greets g c =
    exits c.from_residual-in_err-head.result c.in_err-head.field-0.0 (λ (r : Result Met Outcome). GreetsTold c.args.ids (g.W.Wire.state c.args.wire.now).log (g.W.Wire.state c.ask.new.wire).log r) c.from_residual-in_err-head.ensures.1
    (greets_stop c.args.ids (g.W.End.health c.args.wire.now) (g.W.End.health c.ask.new.wire) (g.W.Wire.state c.args.wire.now) (g.W.Wire.state c.ask.new.wire) (Ok c.in_ok-meta.meta) c.in_err-head.field-0.0
    (subst (λ (request : Request). Answered (g.W.End.health c.args.wire.now) (g.W.End.health c.ask.new.wire) (g.W.Wire.state c.args.wire.now) (g.W.Wire.state c.ask.new.wire) request meta_in (Ok c.in_ok-meta.meta)) c.meta_request-request.ensures c.in_ok-meta.ensures))

pub returns-in_err-head-clause-early : goal.returns-in_err-head-clause-early
returns-in_err-head-clause-early g c =
    exits c.from_residual-in_err-head.result c.in_err-head.field-0.0 (λ (r : Result Met Outcome). IfErr r (λ (outcome : Outcome). changes_device outcome ≡ false)) c.from_residual-in_err-head.ensures.1
    c.in_err-head.ensures.early.unchanged

pub returns-in_err-head-clause-clock : goal.returns-in_err-head-clause-clock
returns-in_err-head-clause-clock g c =
    exits c.from_residual-in_err-head.result c.in_err-head.field-0.0 (λ (r : Result Met Outcome). IfErr r (TakesMoments 0 (g.C.Clock.to_come c.args.clock.now) (g.C.Clock.to_come c.now-at.new.self))) c.from_residual-in_err-head.ensures.1
    (greeting_takes c.in_err-head.field-0.0 (g.C.Clock.to_come c.args.clock.now) (g.C.Clock.to_come c.now-at.new.self) c.in_err-head.ensures.early (c.now-at.result, c.now-at.ensures.given))

pub returns-clause-greets : goal.returns-clause-greets
returns-clause-greets g c =
    greets_on c.args.ids (g.W.End.health c.args.wire.now) (g.W.End.health c.ask.new.wire) (g.W.Wire.state c.args.wire.now) (g.W.Wire.state c.ask.new.wire) c.in_ok-meta.meta c.in_ok-head.head
    (subst (λ (request : Request). Answered (g.W.End.health c.args.wire.now) (g.W.End.health c.ask.new.wire) (g.W.Wire.state c.args.wire.now) (g.W.Wire.state c.ask.new.wire) request meta_in (Ok c.in_ok-meta.meta)) c.meta_request-request.ensures c.in_ok-meta.ensures)

pub returns-clause-low : goal.returns-clause-low
returns-clause-low g c =
    (usn_within c.meta_request-request.result (g.W.End.health c.args.wire.now) (g.W.End.health c.ask.new.wire) (g.W.Wire.state c.args.wire.now) (g.W.Wire.state c.ask.new.wire) c.in_ok-meta.meta c.in_ok-meta.ensures).low

pub returns-clause-clocks : goal.returns-clause-clocks
returns-clause-clocks g c =
    let moment : SFits w64 c.now-at.result = search rules in
    let fits : SFits w64 c.second_of-second.result = search rules in
    let second : c.second_of-second.result ≡ second_of c.now-at.result = rw (to_z-of_z w64 c.now-at.result moment) at c.second_of-second.ensures.second in (
      c.now-at.result,
      c.now-at.ensures.given,
      subst (λ (at : ℤ). clock_stop c.in_ok-meta.meta at ≡ None) (to_z-of_z w64 c.second_of-second.result fits ∙ second)
          (passed _ (sym c.in_ok-test_clocks.ensures.stop)),
    )

pub returns-in_err-meta-clause-heard : goal.returns-in_err-meta-clause-heard
returns-in_err-meta-clause-heard g c =
    exits c.from_residual.result (outcome_at (wire_stop c.in_err-meta.field-0.0)) (λ (r : Result Met Outcome). IsGreeting c.args.ids (g.W.End.health c.args.wire.now) (g.W.End.health c.ask.new.wire) (g.W.Wire.state c.args.wire.now) (g.W.Wire.state c.ask.new.wire) (g.C.Clock.to_come c.args.clock.now) (g.C.Clock.to_come c.args.clock.now) (g.K.Lookup.keeping c.args.keeper.now) r) c.from_residual.ensures.1
    (greeting_unheard c.args.ids (g.W.End.health c.args.wire.now) (g.W.End.health c.ask.new.wire) (g.W.Wire.state c.args.wire.now) (g.W.Wire.state c.ask.new.wire) (g.C.Clock.to_come c.args.clock.now) (g.K.Lookup.keeping c.args.keeper.now) c.in_err-meta.field-0.0
    (subst (λ (request : Request). Answered (g.W.End.health c.args.wire.now) (g.W.End.health c.ask.new.wire) (g.W.Wire.state c.args.wire.now) (g.W.Wire.state c.ask.new.wire) request meta_in (Err c.in_err-meta.field-0.0)) c.meta_request-request.ensures c.in_err-meta.ensures))

pub returns-in_err-test_clocks-clause-heard : goal.returns-in_err-test_clocks-clause-heard
returns-in_err-test_clocks-clause-heard g c =
    let moment : SFits w64 c.now-at.result = search rules in
    let fits : SFits w64 c.second_of-second.result = search rules in
    let second : c.second_of-second.result ≡ second_of c.now-at.result = rw (to_z-of_z w64 c.now-at.result moment) at c.second_of-second.ensures.second in
    exits c.from_residual-in_err-test_clocks.result c.in_err-test_clocks.field-0.0 (λ (r : Result Met Outcome). IsGreeting c.args.ids (g.W.End.health c.args.wire.now) (g.W.End.health c.ask.new.wire) (g.W.Wire.state c.args.wire.now) (g.W.Wire.state c.ask.new.wire) (g.C.Clock.to_come c.args.clock.now) (g.C.Clock.to_come c.now-at.new.self) (g.K.Lookup.keeping c.args.keeper.now) r) c.from_residual-in_err-test_clocks.ensures.1
    (greeting_by_clocks c.args.ids (g.W.End.health c.args.wire.now) (g.W.End.health c.ask.new.wire) (g.W.Wire.state c.args.wire.now) (g.W.Wire.state c.ask.new.wire) (g.C.Clock.to_come c.args.clock.now) (g.C.Clock.to_come c.now-at.new.self) (g.K.Lookup.keeping c.args.keeper.now) c.in_ok-meta.meta c.in_err-test_clocks.field-0.0
    (subst (λ (request : Request). Answered (g.W.End.health c.args.wire.now) (g.W.End.health c.ask.new.wire) (g.W.Wire.state c.args.wire.now) (g.W.Wire.state c.ask.new.wire) request meta_in (Ok c.in_ok-meta.meta)) c.meta_request-request.ensures c.in_ok-meta.ensures)
    c.now-at.result _ c.now-at.ensures.given (to_z-of_z w64 c.second_of-second.result fits ∙ second)
    c.in_err-test_clocks.ensures.stop)

pub returns-in_err-head-clause-heard : goal.returns-in_err-head-clause-heard
returns-in_err-head-clause-heard g c =
    let moment : SFits w64 c.now-at.result = search rules in
    let fits : SFits w64 c.second_of-second.result = search rules in
    let second : c.second_of-second.result ≡ second_of c.now-at.result = rw (to_z-of_z w64 c.now-at.result moment) at c.second_of-second.ensures.second in
    exits c.from_residual-in_err-head.result c.in_err-head.field-0.0 (λ (r : Result Met Outcome). IsGreeting c.args.ids (g.W.End.health c.args.wire.now) (g.W.End.health c.ask.new.wire) (g.W.Wire.state c.args.wire.now) (g.W.Wire.state c.ask.new.wire) (g.C.Clock.to_come c.args.clock.now) (g.C.Clock.to_come c.now-at.new.self) (g.K.Lookup.keeping c.args.keeper.now) r) c.from_residual-in_err-head.ensures.1
    (greeting_by_device c.args.ids (g.W.End.health c.args.wire.now) (g.W.End.health c.ask.new.wire) (g.W.Wire.state c.args.wire.now) (g.W.Wire.state c.ask.new.wire) (g.C.Clock.to_come c.args.clock.now) (g.C.Clock.to_come c.now-at.new.self) (g.K.Lookup.keeping c.args.keeper.now) c.in_ok-meta.meta c.in_err-head.field-0.0
    (subst (λ (request : Request). Answered (g.W.End.health c.args.wire.now) (g.W.End.health c.ask.new.wire) (g.W.Wire.state c.args.wire.now) (g.W.Wire.state c.ask.new.wire) request meta_in (Ok c.in_ok-meta.meta)) c.meta_request-request.ensures c.in_ok-meta.ensures)
    c.now-at.result _ c.now-at.ensures.given (to_z-of_z w64 c.second_of-second.result fits ∙ second)
    c.in_ok-test_clocks.ensures.stop c.in_err-head.ensures.ends)

pub returns-clause-heard : goal.returns-clause-heard
returns-clause-heard g c =
    greeting_goes_on c.args.ids (g.W.End.health c.args.wire.now) (g.W.End.health c.ask.new.wire) (g.W.Wire.state c.args.wire.now) (g.W.Wire.state c.ask.new.wire) (g.C.Clock.to_come c.args.clock.now) (g.C.Clock.to_come c.now-at.new.self) (g.K.Lookup.keeping c.args.keeper.now) (record { meta = c.in_ok-meta.meta; head = c.in_ok-head.head })
    (subst (λ (request : Request). Answered (g.W.End.health c.args.wire.now) (g.W.End.health c.ask.new.wire) (g.W.Wire.state c.args.wire.now) (g.W.Wire.state c.ask.new.wire) request meta_in (Ok c.in_ok-meta.meta)) c.meta_request-request.ensures c.in_ok-meta.ensures)

pub returns-in_err-meta-clause-keeper : goal.returns-in_err-meta-clause-keeper
returns-in_err-meta-clause-keeper g c = wire_cause _ _ (goes_nowhere _) c.from_residual.ensures.1

pub returns-in_err-test_clocks-clause-keeper : goal.returns-in_err-test_clocks-clause-keeper
returns-in_err-test_clocks-clause-keeper g c =
    cause_passed {U = Unit {0}} _ _ (cause_unlike _ (goes_nowhere _) c.in_err-test_clocks.ensures.unkept) c.from_residual-in_err-test_clocks.ensures.1

pub returns-in_err-head-clause-keeper : goal.returns-in_err-head-clause-keeper
returns-in_err-head-clause-keeper g c = cause_passed _ _ c.in_err-head.ensures.keeper c.from_residual-in_err-head.ensures.1

pub returns-clause-keeper : goal.returns-clause-keeper
returns-clause-keeper g c = cause_ok _ c.in_ok-head.ensures.keeper.goes
