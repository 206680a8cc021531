use Rattle.std.proofs.Common.{arith}
use Rattle.ak_exchange.proofs.Faults.{cause_passed}
use Rattle.ak_exchange.proofs.Passing.{advances_more, advances_passed, advances_then}
use Rattle.ak_faults.proofs.Healths.{cause_after}
use Rattle.ak_keep.specs.Keepers.{back}
use Rattle.ak_sync_rows.proofs.Taking.{stays_marked}
use Rattle.ak_exchange.proofs.exchanges.exchange_chunks.Goals as goal

pub returns-in_err-pull-clause-leads : goal.returns-in_err-pull-clause-leads
returns-in_err-pull-clause-leads g c =
    advances_more 40000 0 0 _ _ _ _ _ _ _ _ _ _ _ (omega arith) (omega arith) (omega arith)
    (advances_passed _ _ _ _ _ _ _ _ _ _ _ _ _ c.from_residual.ensures.1 c.in_err-pull.ensures.leads)

pub push-requires-clause-marked : goal.push-requires-clause-marked
push-requires-clause-marked g c = c.in_ok-pull.ensures.stays.marked

pub returns-clause-leads : goal.returns-clause-leads
returns-clause-leads g c = advances_then _ _ _ _ _ _ _ _ _ _ _ _ _ _ _ _ _ _ c.in_ok-pull.ensures.leads c.push.ensures.leads

pub returns-clause-stays : goal.returns-clause-stays
returns-clause-stays g c =
    stays_marked (back (g.K.Lookup.keeping c.args.keeper.now)) (g.K.Lookup.keeping c.pull.new.keeper) (g.K.Lookup.keeping c.push.new.keeper)
    c.in_ok-pull.ensures.stays c.push.ensures.stays

pub returns-clause-keeper : goal.returns-clause-keeper
returns-clause-keeper g c = cause_after c.in_ok-pull.ensures.keeper.goes c.push.ensures.keeper

pub returns-in_err-pull-clause-keeper : goal.returns-in_err-pull-clause-keeper
returns-in_err-pull-clause-keeper g c = cause_passed _ _ c.in_err-pull.ensures.keeper c.from_residual.ensures.1
