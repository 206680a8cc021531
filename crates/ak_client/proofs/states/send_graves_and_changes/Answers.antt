use Rattle.ak_client.proofs.Stating.{changes_exchanged}
use Rattle.ak_exchange.proofs.Passing.{advances_held}
use Rattle.ak_keep.specs.Keepers.{back}
use Rattle.ak_sync_rows.proofs.Taking.{stays_marked}
use Rattle.ak_client.proofs.states.send_graves_and_changes.Goals as goal

pub exchange_changes-requires-clause-marked : goal.exchange_changes-requires-clause-marked
exchange_changes-requires-clause-marked g c = c.in_ok-send_graves.ensures.stays.marked

pub exchange_changes-requires-clause-held : goal.exchange_changes-requires-clause-held
exchange_changes-requires-clause-held g c =
    advances_held _ _ _ _ _ _ _ _ _ _ _ c.in_ok-send_graves.ensures.leads.2 c.requires.in_sync.held

pub returns-clause-leads : goal.returns-clause-leads
returns-clause-leads g c =
    changes_exchanged c.args.met.now (g.K.Lookup.keeping c.args.keeper.now) (g.K.Lookup.keeping c.send_graves.new.keeper)
    (g.K.Lookup.keeping c.exchange_changes.new.keeper)
    (record { health = g.W.End.health c.args.wire.now; wire = g.W.Wire.state c.args.wire.now; envelopes = c.args.envelopes.now })
    (record { health = g.W.End.health c.send_graves.new.wire; wire = g.W.Wire.state c.send_graves.new.wire; envelopes = c.send_graves.new.envelopes })
    (record { health = g.W.End.health c.exchange_changes.new.wire; wire = g.W.Wire.state c.exchange_changes.new.wire; envelopes = c.exchange_changes.new.envelopes })
    c.exchange_changes.result c.in_ok-send_graves.ensures.leads c.exchange_changes.ensures.leads

pub returns-clause-stays : goal.returns-clause-stays
returns-clause-stays g c =
    stays_marked (back (g.K.Lookup.keeping c.args.keeper.now)) (g.K.Lookup.keeping c.send_graves.new.keeper) (g.K.Lookup.keeping c.exchange_changes.new.keeper)
    c.in_ok-send_graves.ensures.stays c.exchange_changes.ensures.stays

pub returns-clause-held : goal.returns-clause-held
returns-clause-held g c =
    advances_held _ _ _ _ _ _ _ _ _ _ _ c.exchange_changes.ensures.leads
    (advances_held _ _ _ _ _ _ _ _ _ _ _ c.in_ok-send_graves.ensures.leads.2 c.requires.in_sync.held)
