use Rattle.std.proofs.Common.{◌+◌, ◌≤◌, length, refl, arith, rules}
use Rattle.std.specs.Int.{div_ceil}
use Rattle.ak_exchange.proofs.Faults.{cause_ok, cause_passed}
use Rattle.ak_exchange.proofs.Held.{stays_same}
use Rattle.ak_exchange.proofs.Passing.{advances_more, advances_passed, advances_then, at_start}
use Rattle.ak_exchange.proofs.Places.{graves_lead}
use Rattle.ak_faults.proofs.Healths.{cause_after, goes_further, goes_nowhere}
use Rattle.ak_keep.specs.Keepers.{back}
use Rattle.ak_sync_rows.proofs.Taking.{stays_marked}
use Rattle.ak_exchange.proofs.exchanges.send_parts.Goals as goal

pub loop-part-init : goal.loop-part-init
loop-part-init g c = record {
  leads = at_start _ _ _ _ _ _ _ _ _ _ tt (graves_lead 0 c.args.graves.now (omega arith)) (λ own s account asked met_is at may. at.has.placed may) refl refl refl refl;
  stays = stays_same _ _ c.requires.marked refl;
  goes = goes_nowhere _;
}

pub returns-in_err-send_part-clause-leads : goal.returns-in_err-send_part-clause-leads
returns-in_err-send_part-clause-leads g c =
    let most : c.loop-part.part + 1 ≤ div_ceil (length c.args.graves.now) 250 = search rules in
    advances_more 0 0 (c.loop-part.part + 1) _ _ _ _ _ _ _ _ _ _ _ (omega arith) (omega arith) most
    (advances_passed _ _ _ _ _ _ _ _ _ _ _ _ _ c.from_residual.ensures.1
    (advances_then _ _ _ _ _ _ _ _ _ _ _ _ _ _ _ _ _ _ c.loop-part.invariant.leads c.in_err-send_part.ensures.leads))

pub returns-in_err-send_part-clause-stays : goal.returns-in_err-send_part-clause-stays
returns-in_err-send_part-clause-stays g c =
    stays_marked (back (g.K.Lookup.keeping c.args.keeper.now)) (g.K.Lookup.keeping c.loop-part.keeper) (g.K.Lookup.keeping c.send_part.new.keeper)
    c.loop-part.invariant.stays c.in_err-send_part.ensures.stays

pub returns-in_err-send_part-clause-keeper : goal.returns-in_err-send_part-clause-keeper
returns-in_err-send_part-clause-keeper g c = cause_after c.loop-part.invariant.goes (cause_passed _ _ c.in_err-send_part.ensures.keeper c.from_residual.ensures.1)

pub loop-part-preserved : goal.loop-part-preserved
loop-part-preserved g c = record {
  leads = advances_then _ _ _ _ _ _ _ _ _ _ _ _ _ _ _ _ _ _ c.loop-part.invariant.leads c.in_ok-send_part.ensures.leads;
  stays = stays_marked (back (g.K.Lookup.keeping c.args.keeper.now)) (g.K.Lookup.keeping c.loop-part.keeper) (g.K.Lookup.keeping c.send_part.new.keeper)
      c.loop-part.invariant.stays c.in_ok-send_part.ensures.stays;
  goes = goes_further c.loop-part.invariant.goes c.in_ok-send_part.ensures.keeper.goes;
}

pub returns-clause-keeper : goal.returns-clause-keeper
returns-clause-keeper g c = cause_ok _ c.loop-part.invariant.goes
