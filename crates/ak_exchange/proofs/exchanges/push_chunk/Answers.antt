use Rattle.std.proofs.Common.{true, false, refl, sym, ap, subst, ◌∙◌}
use Rattle.ak_device.specs.Devices.{IsNextToSend}
use Rattle.ak_exchange.proofs.Faults.{cause_keeper, cause_ok, cause_passed}
use Rattle.ak_exchange.proofs.Held.{stays_same}
use Rattle.ak_exchange.proofs.Parts.{pushes_left, pushes_none, pushes_took}
use Rattle.ak_exchange.proofs.Stopping.{by_keeper}
use Rattle.ak_faults.proofs.Healths.{cause_after, goes_further}
use Rattle.ak_keep.specs.Keepers.{Keeping, WhereTold, back, is_marked}
use Rattle.ak_sync_rows.proofs.Taking.{stays_marked}
use Rattle.ak_exchange.proofs.exchanges.push_chunk.Goals as goal

pub send_chunk-requires-clause-marked : goal.send_chunk-requires-clause-marked
send_chunk-requires-clause-marked g c = ap is_marked c.in_ok-chunk.ensures.reads.same ∙ c.requires.marked

pub returns-in_err-chunk-clause-leads : goal.returns-in_err-chunk-clause-leads
returns-in_err-chunk-clause-leads g c = λ count.
    pushes_none count c.args.from c.args.met.now _ _ _ _ _ refl refl refl (by_keeper _ _ c.from_residual.ensures.1)

pub returns-in_err-send_chunk-clause-leads : goal.returns-in_err-send_chunk-clause-leads
returns-in_err-send_chunk-clause-leads g c = λ count.
    let told = subst (λ (k : Keeping). WhereTold k (λ h. IsNextToSend h.rows c.args.from c.in_ok-chunk.field-0.chunk c.in_ok-chunk.field-0.next))
    (sym c.in_ok-chunk.ensures.reads.same) c.in_ok-chunk.ensures.reads.told in
    pushes_left c.in_ok-chunk.field-0.chunk count c.args.from c.in_ok-chunk.field-0.next c.args.met.now (g.K.Lookup.keeping c.args.keeper.now) _ _ _ _ _ _
    c.in_ok-chunk.ensures.reads.same c.from_residual-in_err-send_chunk.ensures.1
    (c.in_err-send_chunk.ensures.leads count c.args.from c.in_ok-chunk.field-0.next told)

pub returns-then-done-clause-leads : goal.returns-then-done-clause-leads
returns-then-done-clause-leads g c = λ count.
    let told = subst (λ (k : Keeping). WhereTold k (λ h. IsNextToSend h.rows c.args.from c.in_ok-chunk.field-0.chunk c.in_ok-chunk.field-0.next))
    (sym c.in_ok-chunk.ensures.reads.same) c.in_ok-chunk.ensures.reads.told in
    pushes_took c.in_ok-chunk.field-0.chunk count c.args.from c.in_ok-chunk.field-0.next c.args.met.now (g.K.Lookup.keeping c.args.keeper.now) _ _ _ _ true
    c.in_ok-chunk.ensures.reads.same c.if-done.true
    (c.in_ok-send_chunk.ensures.leads count c.args.from c.in_ok-chunk.field-0.next told)

pub returns-else-done-clause-leads : goal.returns-else-done-clause-leads
returns-else-done-clause-leads g c = λ count.
    let told = subst (λ (k : Keeping). WhereTold k (λ h. IsNextToSend h.rows c.args.from c.in_ok-chunk.field-0.chunk c.in_ok-chunk.field-0.next))
    (sym c.in_ok-chunk.ensures.reads.same) c.in_ok-chunk.ensures.reads.told in
    pushes_took c.in_ok-chunk.field-0.chunk count c.args.from c.in_ok-chunk.field-0.next c.args.met.now (g.K.Lookup.keeping c.args.keeper.now) _ _ _ _ false
    c.in_ok-chunk.ensures.reads.same c.if-done.false
    (c.in_ok-send_chunk.ensures.leads count c.args.from c.in_ok-chunk.field-0.next told)

pub returns-in_err-chunk-clause-stays : goal.returns-in_err-chunk-clause-stays
returns-in_err-chunk-clause-stays g c = stays_same (g.K.Lookup.keeping c.args.keeper.now) _ c.requires.marked c.in_err-chunk.ensures.reads.same

pub returns-in_err-send_chunk-clause-stays : goal.returns-in_err-send_chunk-clause-stays
returns-in_err-send_chunk-clause-stays g c =
    stays_marked (back (g.K.Lookup.keeping c.args.keeper.now)) (g.K.Lookup.keeping c.next_chunk.new.keeper) (g.K.Lookup.keeping c.send_chunk.new.keeper)
    (stays_same (g.K.Lookup.keeping c.args.keeper.now) _ c.requires.marked c.in_ok-chunk.ensures.reads.same) c.in_err-send_chunk.ensures.stays

pub returns-then-done-clause-stays : goal.returns-then-done-clause-stays
returns-then-done-clause-stays g c =
    stays_marked (back (g.K.Lookup.keeping c.args.keeper.now)) (g.K.Lookup.keeping c.next_chunk.new.keeper) (g.K.Lookup.keeping c.send_chunk.new.keeper)
    (stays_same (g.K.Lookup.keeping c.args.keeper.now) _ c.requires.marked c.in_ok-chunk.ensures.reads.same) c.in_ok-send_chunk.ensures.stays

pub returns-else-done-clause-stays : goal.returns-else-done-clause-stays
returns-else-done-clause-stays g c =
    stays_marked (back (g.K.Lookup.keeping c.args.keeper.now)) (g.K.Lookup.keeping c.next_chunk.new.keeper) (g.K.Lookup.keeping c.send_chunk.new.keeper)
    (stays_same (g.K.Lookup.keeping c.args.keeper.now) _ c.requires.marked c.in_ok-chunk.ensures.reads.same) c.in_ok-send_chunk.ensures.stays

pub returns-in_err-chunk-clause-keeper : goal.returns-in_err-chunk-clause-keeper
returns-in_err-chunk-clause-keeper g c = cause_keeper _ _ c.in_err-chunk.ensures.reads.cause c.from_residual.ensures.1

pub returns-in_err-send_chunk-clause-keeper : goal.returns-in_err-send_chunk-clause-keeper
returns-in_err-send_chunk-clause-keeper g c =
    cause_after c.in_ok-chunk.ensures.reads.cause.goes (cause_passed _ _ c.in_err-send_chunk.ensures.keeper c.from_residual-in_err-send_chunk.ensures.1)

pub returns-then-done-clause-keeper : goal.returns-then-done-clause-keeper
returns-then-done-clause-keeper g c = cause_ok _ (goes_further c.in_ok-chunk.ensures.reads.cause.goes c.in_ok-send_chunk.ensures.keeper.goes)

pub returns-else-done-clause-keeper : goal.returns-else-done-clause-keeper
returns-else-done-clause-keeper g c = cause_ok _ (goes_further c.in_ok-chunk.ensures.reads.cause.goes c.in_ok-send_chunk.ensures.keeper.goes)
