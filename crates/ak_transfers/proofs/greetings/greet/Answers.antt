use Rattle.std.specs.Prelude.{◌≡◌, Ok, Err, Result}
use Rattle.std.proofs.Common.{refl, subst, ◌∙◌, rules, w64, SFits}
use Rattle.std.proofs.lemmas.Int.{to_z-of_z}
use Rattle.ak_client.proofs.Testing.{exits}
use Rattle.ak_client.specs.Outcomes.{outcome_at}
use Rattle.ak_exchange.specs.Stops.{wire_stop}
use Rattle.ak_client.specs.declared.outcomes.Outcome.{Outcome}
use Rattle.ak_merge.specs.Edits.{second_of}
use Rattle.ak_messages.specs.declared.requests.Request.{Request}
use Rattle.ak_transfers.proofs.Greeted.{greets_on, greets_stopped, greets_unheard}
use Rattle.ak_transfers.specs.Greetings.{GreetsFirst}
use Rattle.ak_client_wire.specs.Forms.{meta_in}
use Rattle.ak_client_wire.specs.Tries.{Answered}
use Rattle.ak_client_wire.specs.declared.wires.MetaSaid.{MetaSaid}
use Rattle.ak_transfers.proofs.greetings.greet.Goals as goal

pub returns-in_err-meta : goal.returns-in_err-meta
returns-in_err-meta g c =
    exits c.from_residual.result (outcome_at (wire_stop c.in_err-meta.field-0.0)) (λ (r : Result MetaSaid Outcome). GreetsFirst c.args.ids
    (record { line = record { health = g.W.End.health c.args.wire.now; wire = g.W.Wire.state c.args.wire.now }; moments = g.C.Clock.to_come c.args.clock.now })
    (record { line = record { health = g.W.End.health c.ask.new.wire; wire = g.W.Wire.state c.ask.new.wire }; moments = g.C.Clock.to_come c.args.clock.now }) r)
    c.from_residual.ensures.1
    (greets_unheard c.args.ids
    (record { line = record { health = g.W.End.health c.args.wire.now; wire = g.W.Wire.state c.args.wire.now }; moments = g.C.Clock.to_come c.args.clock.now })
    (record { line = record { health = g.W.End.health c.ask.new.wire; wire = g.W.Wire.state c.ask.new.wire }; moments = g.C.Clock.to_come c.args.clock.now })
    c.in_err-meta.field-0.0
    (subst (λ (request : Request). Answered (g.W.End.health c.args.wire.now) (g.W.End.health c.ask.new.wire) (g.W.Wire.state c.args.wire.now) (g.W.Wire.state c.ask.new.wire) request meta_in (Err c.in_err-meta.field-0.0)) c.meta_request-request.ensures c.in_err-meta.ensures)
    refl)

pub returns-in_err-test_clocks : goal.returns-in_err-test_clocks
returns-in_err-test_clocks g c =
    let moment : SFits w64 c.now-at.result = search rules in
    let fits : SFits w64 c.second_of-second.result = search rules in
    let second : c.second_of-second.result ≡ second_of c.now-at.result = rw (to_z-of_z w64 c.now-at.result moment) at c.second_of-second.ensures.second in
    exits c.from_residual-in_err-test_clocks.result c.in_err-test_clocks.field-0.0 (λ (r : Result MetaSaid Outcome). GreetsFirst c.args.ids
    (record { line = record { health = g.W.End.health c.args.wire.now; wire = g.W.Wire.state c.args.wire.now }; moments = g.C.Clock.to_come c.args.clock.now })
    (record { line = record { health = g.W.End.health c.ask.new.wire; wire = g.W.Wire.state c.ask.new.wire }; moments = g.C.Clock.to_come c.now-at.new.self }) r)
    c.from_residual-in_err-test_clocks.ensures.1
    (greets_stopped c.args.ids
    (record { line = record { health = g.W.End.health c.args.wire.now; wire = g.W.Wire.state c.args.wire.now }; moments = g.C.Clock.to_come c.args.clock.now })
    (record { line = record { health = g.W.End.health c.ask.new.wire; wire = g.W.Wire.state c.ask.new.wire }; moments = g.C.Clock.to_come c.now-at.new.self })
    c.in_ok-meta.meta c.now-at.result _
    (subst (λ (request : Request). Answered (g.W.End.health c.args.wire.now) (g.W.End.health c.ask.new.wire) (g.W.Wire.state c.args.wire.now) (g.W.Wire.state c.ask.new.wire) request meta_in (Ok c.in_ok-meta.meta)) c.meta_request-request.ensures c.in_ok-meta.ensures)
    c.now-at.ensures.given (to_z-of_z w64 c.second_of-second.result fits ∙ second)
    c.in_err-test_clocks.field-0.0 c.in_err-test_clocks.ensures.stop)

pub returns : goal.returns
returns g c =
    let moment : SFits w64 c.now-at.result = search rules in
    let fits : SFits w64 c.second_of-second.result = search rules in
    let second : c.second_of-second.result ≡ second_of c.now-at.result = rw (to_z-of_z w64 c.now-at.result moment) at c.second_of-second.ensures.second in
    greets_on c.args.ids
    (record { line = record { health = g.W.End.health c.args.wire.now; wire = g.W.Wire.state c.args.wire.now }; moments = g.C.Clock.to_come c.args.clock.now })
    (record { line = record { health = g.W.End.health c.ask.new.wire; wire = g.W.Wire.state c.ask.new.wire }; moments = g.C.Clock.to_come c.now-at.new.self })
    c.in_ok-meta.meta c.now-at.result _
    (subst (λ (request : Request). Answered (g.W.End.health c.args.wire.now) (g.W.End.health c.ask.new.wire) (g.W.Wire.state c.args.wire.now) (g.W.Wire.state c.ask.new.wire) request meta_in (Ok c.in_ok-meta.meta)) c.meta_request-request.ensures c.in_ok-meta.ensures)
    c.now-at.ensures.given (to_z-of_z w64 c.second_of-second.result fits ∙ second)
    c.in_ok-test_clocks.ensures.stop
