use Rattle.std.proofs.Common.{◌≡◌, ◌+◌, List, length, refl, sym, ap, subst, ◌∙◌, arith}
use Rattle.std.specs.Int.{div_ceil}
use Rattle.ak_base.specs.declared.rows.Row.{Row}
use Rattle.ak_exchange.proofs.Parts.{grave_requests, graves_at, no_grave_requests}
use Rattle.ak_exchange.proofs.Faults.{cause_keeper}
use Rattle.ak_exchange.proofs.Held.{stays_same}
use Rattle.ak_exchange.proofs.Passing.{advances_more, advances_place, advances_then, at_start, stays_here}
use Rattle.ak_exchange.proofs.Stopping.{by_keeper}
use Rattle.ak_exchange.proofs.Places.{after_start, all_graves, leads_on}
use Rattle.ak_faults.proofs.Healths.{cause_after}
use Rattle.ak_keep.specs.Keepers.{WhereTold, back, is_marked}
use Rattle.ak_keep.specs.declared.keepers.Wanted.TheVariants.{Unsent}
use Rattle.ak_sync_rows.proofs.Taking.{stays_marked}
use Rattle.ak_session.specs.Plans.{planned_start}
use Rattle.ak_session.specs.Slices.{wanted_graves}
use Rattle.ak_exchange.proofs.exchanges.send_graves.Goals as goal

pub returns-in_err-graves-clause-leads : goal.returns-in_err-graves-clause-leads
returns-in_err-graves-clause-leads g c = (
  0,
  no_grave_requests (g.K.Lookup.keeping c.args.keeper.now),
  stays_here _ _ _ _ _ _ _ _ _ _ _ (leads_on (λ own s. planned_start own) after_start) refl refl refl (by_keeper _ _ c.from_residual.ensures.1),
)

pub returns-clause-leads : goal.returns-clause-leads
returns-clause-leads g c =
    let told = subst (λ (list : List Row). WhereTold (g.K.Lookup.keeping c.args.keeper.now) (λ h. list ≡ wanted_graves Unsent h.rows))
    (sym c.as_slice.ensures.value) c.in_ok-graves.ensures.reads.told in (
      div_ceil (length c.as_slice.result.now) 250,
      grave_requests (g.K.Lookup.keeping c.args.keeper.now) c.as_slice.result.now told,
      advances_place _ _ _ _ _ _ _ _ _ _ _ _ (λ own s asked may at. all_graves c.as_slice.result.now own s asked at)
          (advances_more 0 0 (0 + div_ceil (length c.as_slice.result.now) 250) _ _ _ _ _ _ _ _ _ _ _ (omega arith) (omega arith) (omega arith)
          (advances_then 0 0 0 _ _ _ _ _ _ _ _ _ _ _ _ _ (tt {0}) _
          (at_start _ _ _ _ _ _ _ _ _ _ (tt {0}) (leads_on (λ own s. planned_start own) after_start)
          (λ own s account asked met_is at may. graves_at own s account asked (g.K.Lookup.keeping c.args.keeper.now) _ c.as_slice.result.now at may told)
          c.in_ok-graves.ensures.reads.same refl refl refl)
          c.send_parts.ensures.leads)),
    )

pub returns-in_err-graves-clause-stays : goal.returns-in_err-graves-clause-stays
returns-in_err-graves-clause-stays g c = stays_same (g.K.Lookup.keeping c.args.keeper.now) _ c.requires.marked c.in_err-graves.ensures.reads.same

pub send_parts-requires-clause-marked : goal.send_parts-requires-clause-marked
send_parts-requires-clause-marked g c = ap is_marked c.in_ok-graves.ensures.reads.same ∙ c.requires.marked

pub returns-clause-stays : goal.returns-clause-stays
returns-clause-stays g c =
    stays_marked (back (g.K.Lookup.keeping c.args.keeper.now)) (g.K.Lookup.keeping c.wanted_graves.new.keeper) (g.K.Lookup.keeping c.send_parts.new.keeper)
    (stays_same (g.K.Lookup.keeping c.args.keeper.now) _ c.requires.marked c.in_ok-graves.ensures.reads.same) c.send_parts.ensures.stays

pub returns-in_err-graves-clause-keeper : goal.returns-in_err-graves-clause-keeper
returns-in_err-graves-clause-keeper g c = cause_keeper _ _ c.in_err-graves.ensures.reads.cause c.from_residual.ensures.1

pub returns-clause-keeper : goal.returns-clause-keeper
returns-clause-keeper g c = cause_after c.in_ok-graves.ensures.reads.cause.goes c.send_parts.ensures.keeper
