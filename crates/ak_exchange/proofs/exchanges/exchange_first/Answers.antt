use Rattle.std.proofs.Common.{◌+◌, arith}
use Rattle.ak_exchange.proofs.Faults.{cause_passed}
use Rattle.ak_exchange.proofs.Held.{received_held}
use Rattle.ak_exchange.proofs.Parts.{no_grave_requests, requests_before}
use Rattle.ak_exchange.proofs.Passing.{advances_held, advances_more, advances_passed, advances_then}
use Rattle.ak_faults.proofs.Healths.{cause_after, goes_further}
use Rattle.ak_keep.specs.Keepers.{back}
use Rattle.ak_sync_rows.proofs.Taking.{stays_marked}
use Rattle.ak_exchange.proofs.exchanges.exchange_first.Goals as goal

pub returns-in_err-start-clause-leads : goal.returns-in_err-start-clause-leads
returns-in_err-start-clause-leads g c = (
  0,
  no_grave_requests (g.K.Lookup.keeping c.args.keeper.now),
  advances_more 0 0 1 _ _ _ _ _ _ _ _ _ _ _ (omega arith) (omega arith) (omega arith)
      (advances_passed _ _ _ _ _ _ _ _ _ _ _ _ _ c.from_residual.ensures.1 c.in_err-start.ensures.leads),
)

pub returns-in_err-send_graves-clause-leads : goal.returns-in_err-send_graves-clause-leads
returns-in_err-send_graves-clause-leads g c =
    let sent = c.in_err-send_graves.ensures.leads in (
      sent.0,
      requests_before c.args.met.now.meta.usn (g.K.Lookup.keeping c.args.keeper.now) (g.K.Lookup.keeping c.start.new.keeper) sent.0 c.requires.number.low
          c.in_ok-start.ensures.took sent.1,
      advances_more 0 0 (1 + sent.0) _ _ _ _ _ _ _ _ _ _ _ (omega arith) (omega arith) (omega arith)
          (advances_passed _ _ _ _ _ _ _ _ _ _ _ _ _ c.from_residual-in_err-send_graves.ensures.1
          (advances_then _ _ _ _ _ _ _ _ _ _ _ _ _ _ _ _ _ _ c.in_ok-start.ensures.leads sent.2)),
    )

pub send_graves-requires-clause-marked : goal.send_graves-requires-clause-marked
send_graves-requires-clause-marked g c = c.in_ok-start.ensures.stays.marked

pub returns-in_err-send_graves-clause-stays : goal.returns-in_err-send_graves-clause-stays
returns-in_err-send_graves-clause-stays g c =
    stays_marked (back (g.K.Lookup.keeping c.args.keeper.now)) (g.K.Lookup.keeping c.start.new.keeper) (g.K.Lookup.keeping c.send_graves.new.keeper)
    c.in_ok-start.ensures.stays c.in_err-send_graves.ensures.stays

pub returns-in_err-send_graves-clause-keeper : goal.returns-in_err-send_graves-clause-keeper
returns-in_err-send_graves-clause-keeper g c =
    cause_after c.in_ok-start.ensures.keeper.goes (cause_passed _ _ c.in_err-send_graves.ensures.keeper c.from_residual-in_err-send_graves.ensures.1)

pub exchange_changes-requires-clause-marked : goal.exchange_changes-requires-clause-marked
exchange_changes-requires-clause-marked g c = c.in_ok-send_graves.ensures.stays.marked

pub exchange_changes-requires-clause-held : goal.exchange_changes-requires-clause-held
exchange_changes-requires-clause-held g c =
    advances_held _ _ _ _ _ _ _ _ _ _ _ c.in_ok-send_graves.ensures.leads.2
    (received_held c.args.met.now.meta.usn (g.K.Lookup.keeping c.args.keeper.now) (g.K.Lookup.keeping c.start.new.keeper) c.in_ok-start.ensures.took c.requires.held)

pub returns-clause-leads : goal.returns-clause-leads
returns-clause-leads g c =
    let sent = c.in_ok-send_graves.ensures.leads in (
      sent.0,
      requests_before c.args.met.now.meta.usn (g.K.Lookup.keeping c.args.keeper.now) (g.K.Lookup.keeping c.start.new.keeper) sent.0 c.requires.number.low
          c.in_ok-start.ensures.took sent.1,
      advances_more 0 0 (1 + sent.0 + 1) _ _ _ _ _ _ _ _ _ _ _ (omega arith) (omega arith) (omega arith)
          (advances_then _ _ _ _ _ _ _ _ _ _ _ _ _ _ _ _ _ _
          (advances_then _ _ _ _ _ _ _ _ _ _ _ _ _ _ _ _ _ _ c.in_ok-start.ensures.leads sent.2) c.exchange_changes.ensures.leads),
    )

pub returns-clause-stays : goal.returns-clause-stays
returns-clause-stays g c =
    stays_marked (back (g.K.Lookup.keeping c.args.keeper.now)) (g.K.Lookup.keeping c.send_graves.new.keeper) (g.K.Lookup.keeping c.exchange_changes.new.keeper)
    (stays_marked (back (g.K.Lookup.keeping c.args.keeper.now)) (g.K.Lookup.keeping c.start.new.keeper) (g.K.Lookup.keeping c.send_graves.new.keeper)
    c.in_ok-start.ensures.stays c.in_ok-send_graves.ensures.stays)
    c.exchange_changes.ensures.stays

pub returns-clause-keeper : goal.returns-clause-keeper
returns-clause-keeper g c =
    cause_after (goes_further c.in_ok-start.ensures.keeper.goes c.in_ok-send_graves.ensures.keeper.goes) c.exchange_changes.ensures.keeper

pub returns-in_err-start-clause-keeper : goal.returns-in_err-start-clause-keeper
returns-in_err-start-clause-keeper g c = cause_passed _ _ c.in_err-start.ensures.keeper c.from_residual.ensures.1
