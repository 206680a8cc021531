use Rattle.std.proofs.Common.{◌≡◌, ◌+◌, ◌≤◌, false, true, refl, sym, ap, subst, ◌∙◌, inr, arith, rules}
use Rattle.ak_device.specs.Devices.{IsNextToSend}
use Rattle.ak_exchange.proofs.Faults.{cause_keeper, cause_ok, cause_passed, cause_unkept}
use Rattle.ak_exchange.proofs.Parts.{last_pushed, pushed_end, pushed_on, too_many_pushed}
use Rattle.ak_exchange.proofs.Passing.{advances_left, advances_many, advances_more, advances_passed, advances_then, at_start}
use Rattle.ak_exchange.proofs.Places.{after_chunks, leads_on, none_pushed}
use Rattle.ak_exchange.proofs.Stopping.{by_keeper}
use Rattle.ak_exchange.proofs.Held.{stays_same}
use Rattle.ak_exchange.specs.Phases.{at_end_of}
use Rattle.ak_faults.proofs.Healths.{cause_after, goes_further, goes_nowhere}
use Rattle.ak_keep.specs.Keepers.{IsMarkedAt, Keeping, WhereTold, back, is_marked}
use Rattle.ak_sync_rows.proofs.Taking.{stays_marked}
use Rattle.ak_session.specs.Plans.{planned_chunks}
use Rattle.ak_exchange.proofs.exchanges.push.Goals as goal

pub loop-turn-init : goal.loop-turn-init
loop-turn-init g c = record {
  turned = record {
    leads = at_start _ _ _ _ _ _ _ _ _ _ tt (leads_on planned_chunks after_chunks)
        (λ own s account asked met_is at may. none_pushed own s asked may (at.has.placed may)) refl refl refl refl;
    many = omega arith;
  };
  stays = stays_same _ _ c.requires.marked refl;
  goes = goes_nowhere _;
}

pub returns-in_err-next-clause-leads : goal.returns-in_err-next-clause-leads
returns-in_err-next-clause-leads g c =
    let less : c.loop-turn._turn + 1 ≤ 39999 = search rules in
    advances_more 0 (c.loop-turn._turn + 1) 1 _ _ _ _ _ _ _ _ _ _ _ (omega arith) less (omega arith)
    (advances_passed _ _ _ _ _ _ _ _ _ _ _ _ _ c.from_residual.ensures.1
    (advances_then _ _ _ _ _ _ _ _ _ _ _ _ _ _ _ _ _ _ c.loop-turn.invariant.turned.leads (c.in_err-next.ensures.leads c.loop-turn._turn).leads))

pub returns-in_err-next-clause-keeper : goal.returns-in_err-next-clause-keeper
returns-in_err-next-clause-keeper g c = cause_after c.loop-turn.invariant.goes (cause_passed _ _ c.in_err-next.ensures.keeper c.from_residual.ensures.1)

pub returns-in-None-clause-leads : goal.returns-in-None-clause-leads
returns-in-None-clause-leads g c =
    let less : c.loop-turn._turn + 1 ≤ 39999 = search rules in
    advances_more 0 (c.loop-turn._turn + 1) 1 _ _ _ _ _ _ _ _ _ _ _ (omega arith) less (omega arith)
    (advances_then _ _ _ _ _ _ _ _ _ _ _ _ _ _ _ _ _ _ c.loop-turn.invariant.turned.leads
    (pushed_end c.loop-turn._turn c.loop-turn.from _ _ _ _ _ _ c.in-None.is (c.in_ok-next.ensures.leads c.loop-turn._turn)))

pub returns-in-None-clause-keeper : goal.returns-in-None-clause-keeper
returns-in-None-clause-keeper g c = cause_ok _ (goes_further c.loop-turn.invariant.goes c.in_ok-next.ensures.keeper.goes)

pub loop-turn-preserved : goal.loop-turn-preserved
loop-turn-preserved g c = record {
  turned = pushed_on c.loop-turn._turn c.loop-turn.from (at_end_of planned_chunks) c.args.met.now _ _ _ _ _ _ _ c.in-Some.next c.in-Some.is
      c.loop-turn.invariant.turned (c.in_ok-next.ensures.leads c.loop-turn._turn);
  stays = stays_marked (back (g.K.Lookup.keeping c.args.keeper.now)) (g.K.Lookup.keeping c.loop-turn.keeper) (g.K.Lookup.keeping c.push_chunk.new.keeper)
      c.loop-turn.invariant.stays c.in_ok-next.ensures.stays;
  goes = goes_further c.loop-turn.invariant.goes c.in_ok-next.ensures.keeper.goes;
}

pub returns-in_err-chunk-clause-leads : goal.returns-in_err-chunk-clause-leads
returns-in_err-chunk-clause-leads g c =
    let most = c.loop-turn.auto._turn-end in
    advances_more 0 c.loop-turn._turn 0 _ _ _ _ _ _ _ _ _ _ _ (omega arith) most (omega arith)
    (advances_left _ _ _ _ _ _ _ _ _ _ _ _ _ _ (by_keeper _ _ c.from_residual-in_err-chunk.ensures.1) c.loop-turn.invariant.turned.leads)

pub returns-in_err-chunk-clause-keeper : goal.returns-in_err-chunk-clause-keeper
returns-in_err-chunk-clause-keeper g c =
    cause_after c.loop-turn.invariant.goes (cause_keeper _ _ c.in_err-chunk.ensures.reads.cause c.from_residual-in_err-chunk.ensures.1)

pub returns-then-not-chunk-clause-leads : goal.returns-then-not-chunk-clause-leads
returns-then-not-chunk-clause-leads g c =
    let most = c.loop-turn.auto._turn-end in
    let least = c.loop-turn-test.false in
    let counted = c.loop-turn.invariant.turned.many in
    let unfinished : c.in_ok-chunk.field-0.chunk.done ≡ false = grind (arith, c.if-not-chunk.true) in
    advances_more 0 c.loop-turn._turn 0 _ _ _ _ _ _ _ _ _ _ _ (omega arith) most (omega arith)
    (advances_many _ _ _ _ _ _ _ _ _ _ _ _ _ c.loop-turn.invariant.turned.leads (inr (omega (arith, counted, least)))
    (too_many_pushed c.loop-turn._turn c.loop-turn.from c.in_ok-chunk.field-0.next c.in_ok-chunk.field-0.chunk _ _ (omega (arith, least)) unfinished
    c.in_ok-chunk.ensures.reads.told) c.in_ok-chunk.ensures.reads.same)

pub returns-then-not-chunk-clause-keeper : goal.returns-then-not-chunk-clause-keeper
returns-then-not-chunk-clause-keeper g c =
    cause_unkept _ (goes_further c.loop-turn.invariant.goes c.in_ok-chunk.ensures.reads.cause.goes) refl

pub returns-clause-leads : goal.returns-clause-leads
returns-clause-leads g c =
    let most = c.loop-turn.auto._turn-end in
    let told = subst (λ (k : Keeping). WhereTold k (λ h. IsNextToSend h.rows c.loop-turn.from c.in_ok-chunk.field-0.chunk c.in_ok-chunk.field-0.next))
    (sym c.in_ok-chunk.ensures.reads.same) c.in_ok-chunk.ensures.reads.told in
    let done : c.in_ok-chunk.field-0.chunk.done ≡ true = grind (arith, c.if-not-chunk.false) in
    advances_more 0 c.loop-turn._turn 1 _ _ _ _ _ _ _ _ _ _ _ (omega arith) most (omega arith)
    (last_pushed c.loop-turn._turn c.loop-turn.from c.in_ok-chunk.field-0.next c.in_ok-chunk.field-0.chunk (at_end_of planned_chunks) c.args.met.now _
    (g.K.Lookup.keeping c.loop-turn.keeper) _ _ _ _ _ c.send_chunk.result c.in_ok-chunk.ensures.reads.same done
    c.loop-turn.invariant.turned
    (c.send_chunk.ensures.leads c.loop-turn._turn c.loop-turn.from c.in_ok-chunk.field-0.next told))

pub push_chunk-requires-clause-marked : goal.push_chunk-requires-clause-marked
push_chunk-requires-clause-marked g c = c.loop-turn.invariant.stays.marked

pub send_chunk-requires-clause-marked : goal.send_chunk-requires-clause-marked
send_chunk-requires-clause-marked g c = ap is_marked c.in_ok-chunk.ensures.reads.same ∙ c.loop-turn.invariant.stays.marked

pub returns-in_err-next-clause-stays : goal.returns-in_err-next-clause-stays
returns-in_err-next-clause-stays g c =
    stays_marked (back (g.K.Lookup.keeping c.args.keeper.now)) (g.K.Lookup.keeping c.loop-turn.keeper) (g.K.Lookup.keeping c.push_chunk.new.keeper)
    c.loop-turn.invariant.stays c.in_err-next.ensures.stays

pub returns-in-None-clause-stays : goal.returns-in-None-clause-stays
returns-in-None-clause-stays g c =
    stays_marked (back (g.K.Lookup.keeping c.args.keeper.now)) (g.K.Lookup.keeping c.loop-turn.keeper) (g.K.Lookup.keeping c.push_chunk.new.keeper)
    c.loop-turn.invariant.stays c.in_ok-next.ensures.stays

pub returns-in_err-chunk-clause-stays : goal.returns-in_err-chunk-clause-stays
returns-in_err-chunk-clause-stays g c =
    subst (λ (k : Keeping). IsMarkedAt (back (g.K.Lookup.keeping c.args.keeper.now)) k) (sym c.in_err-chunk.ensures.reads.same) c.loop-turn.invariant.stays

pub returns-then-not-chunk-clause-stays : goal.returns-then-not-chunk-clause-stays
returns-then-not-chunk-clause-stays g c =
    subst (λ (k : Keeping). IsMarkedAt (back (g.K.Lookup.keeping c.args.keeper.now)) k) (sym c.in_ok-chunk.ensures.reads.same) c.loop-turn.invariant.stays

pub returns-clause-stays : goal.returns-clause-stays
returns-clause-stays g c =
    stays_marked (back (g.K.Lookup.keeping c.args.keeper.now)) (g.K.Lookup.keeping c.next_chunk.new.keeper) (g.K.Lookup.keeping c.send_chunk.new.keeper)
    (subst (λ (k : Keeping). IsMarkedAt (back (g.K.Lookup.keeping c.args.keeper.now)) k) (sym c.in_ok-chunk.ensures.reads.same) c.loop-turn.invariant.stays)
    c.send_chunk.ensures.stays

pub returns-clause-keeper : goal.returns-clause-keeper
returns-clause-keeper g c =
    cause_after (goes_further c.loop-turn.invariant.goes c.in_ok-chunk.ensures.reads.cause.goes) c.send_chunk.ensures.keeper
