use Rattle.std.specs.Prelude.{ℤ, Result}
use Rattle.std.proofs.Common.{rules, w64, SFits}
use Rattle.std.proofs.lemmas.Int.{to_z-of_z}
use Rattle.ak_client.proofs.Ending.{asked_all, stopped}
use Rattle.ak_client.proofs.Keeping.{finish_unkept}
use Rattle.ak_client.proofs.Testing.{exits}
use Rattle.ak_client.specs.Endings.{ExchangesAll}
use Rattle.ak_exchange.proofs.Faults.{cause_passed, cause_unkept}
use Rattle.ak_exchange.specs.declared.stops.Stop.{Stop}
use Rattle.ak_client.proofs.syncs.exchange_all.Goals as goal

pub returns-in_err-exchange-clause-exchanges : goal.returns-in_err-exchange-clause-exchanges
returns-in_err-exchange-clause-exchanges g c =
    let fits : SFits w64 c.args.met.now.meta.moment = search rules in
    exits c.from_residual.result c.in_err-exchange.field-0.0
    (λ (r : Result ℤ Stop). ExchangesAll c.args.ids c.args.met.now (g.K.Lookup.keeping c.args.keeper.now) (g.K.Lookup.keeping c.exchange.new.keeper)
    (g.W.End.health c.args.wire.now) (g.W.End.health c.exchange.new.wire) (g.W.Wire.state c.args.wire.now) (g.W.Wire.state c.exchange.new.wire) r)
    c.from_residual.ensures.1
    (stopped c.args.ids c.args.met.now (g.K.Lookup.keeping c.args.keeper.now) (g.K.Lookup.keeping c.exchange.new.keeper)
    (g.W.End.health c.args.wire.now) (g.W.End.health c.exchange.new.wire) (g.W.End.health c.exchange.new.wire)
    (g.W.Wire.state c.args.wire.now) (g.W.Wire.state c.exchange.new.wire) (g.W.Wire.state c.exchange.new.wire)
    c.exchange.new.envelopes c.exchange.new.envelopes c.in_err-exchange.field-0.0
    (rw (to_z-of_z w64 c.args.met.now.meta.moment fits) at c.in_err-exchange.ensures.exchanges))

pub returns-clause-exchanges : goal.returns-clause-exchanges
returns-clause-exchanges g c =
    let fits : SFits w64 c.args.met.now.meta.moment = search rules in
    asked_all c.args.ids c.args.met.now (g.K.Lookup.keeping c.args.keeper.now) (g.K.Lookup.keeping c.exchange.new.keeper)
    (g.W.End.health c.args.wire.now) (g.W.End.health c.exchange.new.wire) (g.W.End.health c.finish.new.wire)
    (g.W.Wire.state c.args.wire.now) (g.W.Wire.state c.exchange.new.wire) (g.W.Wire.state c.finish.new.wire)
    c.exchange.new.envelopes c.finish.new.envelopes c.finish.result c.in_ok-exchange.field-0
    (rw (to_z-of_z w64 c.args.met.now.meta.moment fits) at c.in_ok-exchange.ensures.exchanges) c.finish.ensures.leads

pub returns-in_err-exchange-clause-keeper : goal.returns-in_err-exchange-clause-keeper
returns-in_err-exchange-clause-keeper g c = cause_passed _ _ c.in_err-exchange.ensures.keeper c.from_residual.ensures.1

pub returns-clause-keeper : goal.returns-clause-keeper
returns-clause-keeper g c = cause_unkept _ c.in_ok-exchange.ensures.keeper.goes (finish_unkept c.finish.result c.finish.ensures.leads.late)
