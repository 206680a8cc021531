use Rattle.std.specs.Prelude.{◌∷◌}
use Rattle.std.proofs.Common.{sym, subst}
use Rattle.ak_client.proofs.Keeping.{kept_cause}
use Rattle.ak_client.proofs.Losing.{lost_cause, lost_thrice, shows_refusal}
use Rattle.ak_client.specs.Greetings.{meta_of}
use Rattle.ak_client.specs.Outcomes.{HasLostThrice, HasOutcomeCause, ShowsRefusal, outcome_of}
use Rattle.ak_client.specs.declared.outcomes.Outcome.{Outcome}
use Rattle.ak_client.specs.declared.outcomes.Outcome.TheVariants as outcomes
use Rattle.ak_exchange.proofs.Tried.{tried_reads}
use Rattle.ak_exchange.specs.Asked.{answers_in, asker, asks_in}
use Rattle.ak_session.specs.Plans.{requests_from}
use Rattle.ak_client.proofs.syncs.sync_over.Goals as goal

pub returns-clause-kept : goal.returns-clause-kept
returns-clause-kept g c =
    subst (λ (outcome : Outcome). HasOutcomeCause outcomes.Keep (g.K.Lookup.health c.args.keeper.now) (g.K.Lookup.health c.sync_device.new.keeper) outcome)
    (sym c.outcome_of.ensures) (kept_cause c.sync_device.result c.sync_device.ensures.keeper)

pub returns-clause-keeper : goal.returns-clause-keeper
returns-clause-keeper g c = c.sync_device.ensures.keeper.goes

pub returns-clause-lost : goal.returns-clause-lost
returns-clause-lost g c =
    subst (λ (outcome : Outcome). HasOutcomeCause outcomes.Lost (g.W.End.health c.args.wire.now) (g.W.End.health c.sync_device.new.wire) outcome)
    (sym c.outcome_of.ensures) (lost_cause c.args.ids (g.K.Lookup.keeping c.args.keeper.now) (g.K.Lookup.keeping c.sync_device.new.keeper)
    (g.W.End.health c.args.wire.now) (g.W.End.health c.sync_device.new.wire) (g.W.Wire.state c.args.wire.now) (g.W.Wire.state c.sync_device.new.wire)
    (outcome_of c.sync_device.result) c.sync_device.ensures.spares.ended.sync)

pub returns-clause-thrice : goal.returns-clause-thrice
returns-clause-thrice g c =
    subst (λ (outcome : Outcome). HasLostThrice (g.W.End.health c.args.wire.now) (g.W.End.health c.sync_device.new.wire)
    (g.W.Wire.state c.args.wire.now).silence (g.W.Wire.state c.sync_device.new.wire).silence outcome)
    (sym c.outcome_of.ensures) (lost_thrice c.args.ids (g.K.Lookup.keeping c.args.keeper.now) (g.K.Lookup.keeping c.sync_device.new.keeper)
    (g.W.End.health c.args.wire.now) (g.W.End.health c.sync_device.new.wire) (g.W.Wire.state c.args.wire.now) (g.W.Wire.state c.sync_device.new.wire)
    (outcome_of c.sync_device.result) c.sync_device.ensures.spares.ended.sync)

pub returns-clause-shown : goal.returns-clause-shown
returns-clause-shown g c =
    subst (λ (outcome : Outcome). ShowsRefusal (g.W.Wire.state c.args.wire.now).reading (g.W.Wire.state c.sync_device.new.wire).reading
    (g.W.Wire.state c.sync_device.new.wire).said outcome)
    (sym c.outcome_of.ensures) (shows_refusal c.args.ids (g.K.Lookup.keeping c.args.keeper.now) (g.K.Lookup.keeping c.sync_device.new.keeper)
    (g.W.End.health c.args.wire.now) (g.W.End.health c.sync_device.new.wire) (g.W.Wire.state c.args.wire.now) (g.W.Wire.state c.sync_device.new.wire)
    (outcome_of c.sync_device.result) c.sync_device.ensures.spares.ended.sync)

pub returns-clause-wire : goal.returns-clause-wire
returns-clause-wire g c =
    (lost_cause c.args.ids (g.K.Lookup.keeping c.args.keeper.now) (g.K.Lookup.keeping c.sync_device.new.keeper)
    (g.W.End.health c.args.wire.now) (g.W.End.health c.sync_device.new.wire) (g.W.Wire.state c.args.wire.now) (g.W.Wire.state c.sync_device.new.wire)
    (outcome_of c.sync_device.result) c.sync_device.ensures.spares.ended.sync).goes

pub returns-clause-reading : goal.returns-clause-reading
returns-clause-reading g c =
    tried_reads (meta_of c.args.ids ∷ requests_from (asker c.args.ids) c.sync_device.ensures.spares.ended.sync.asked.moment 1 (asks_in c.sync_device.ensures.spares.ended.sync.asked.tries))
    (c.sync_device.ensures.spares.ended.sync.asked.meta ∷ answers_in c.sync_device.ensures.spares.ended.sync.asked.tries)
    (g.W.End.health c.args.wire.now) (g.W.End.health c.sync_device.new.wire) (g.W.Wire.state c.args.wire.now) (g.W.Wire.state c.sync_device.new.wire)
    c.sync_device.ensures.spares.ended.sync.asked.tried
