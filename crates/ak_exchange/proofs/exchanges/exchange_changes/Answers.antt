use Rattle.std.proofs.Common.{refl, sym, ap, subst, ◌∙◌, rules, w64, SFits}
use Rattle.std.proofs.lemmas.Int.{to_z-of_z}
use Rattle.ak_device.proofs.TakingAndSettling.{still_named}
use Rattle.ak_device.specs.Devices.{received}
use Rattle.ak_device.specs.Settlings.{NamesUnsentTags}
use Rattle.ak_exchange.proofs.Held.{settled_ask, stays_same}
use Rattle.ak_exchange.proofs.Granted.{changes_are, granted_give}
use Rattle.ak_exchange.proofs.Parts.{changes_refused, changes_took}
use Rattle.ak_exchange.proofs.Faults.{cause_keeper, cause_memory, cause_ok, cause_wire}
use Rattle.ak_exchange.proofs.Passing.{stays_here}
use Rattle.ak_exchange.proofs.Stopping.{by_keeper, by_memory, by_wire, keeper_after, kept_granted}
use Rattle.ak_faults.proofs.Healths.{cause_after, goes_further}
use Rattle.ak_exchange.proofs.Places.{after_graves, leads_on}
use Rattle.ak_keep.specs.Keepers.{Keeping, back, changed}
use Rattle.ak_messages.specs.declared.requests.Ask.{Ask}
use Rattle.ak_messages.specs.declared.requests.Ask.TheVariants as asks
use Rattle.ak_messages.specs.declared.requests.Request.{Request}
use Rattle.ak_sync_rows.proofs.Taking.{stays_marked}
use Rattle.ak_messages.specs.declared.replies.Give.TheVariants as gives
use Rattle.ak_session.specs.Plans.{planned_graves}
use Rattle.ak_session.specs.Replies.{replied}
use Rattle.ak_client_wire.specs.Forms.{changes_in}
use Rattle.ak_exchange.proofs.exchanges.exchange_changes.Goals as goal

pub returns-in_err-changes-clause-leads : goal.returns-in_err-changes-clause-leads
returns-in_err-changes-clause-leads g c =
    stays_here _ _ _ _ _ _ _ _ _ _ _ (leads_on planned_graves after_graves) refl refl refl (by_keeper _ _ c.from_residual.ensures.1)

pub returns-in_err-request-clause-leads : goal.returns-in_err-request-clause-leads
returns-in_err-request-clause-leads g c =
    stays_here _ _ _ _ _ _ _ _ _ _ _ (leads_on planned_graves after_graves) refl refl c.in_err-request.ensures.stays
    (by_memory _ c.from_residual-in_err-request.ensures.1)

pub returns-in_err-came-clause-leads : goal.returns-in_err-came-clause-leads
returns-in_err-came-clause-leads g c =
    let moment : SFits w64 c.args.met.now.meta.moment = search rules in
    changes_refused c.args.met.now (g.K.Lookup.keeping c.args.keeper.now) _ _ c.ask.result c.in_ok-changes.changes
    (rw (to_z-of_z w64 c.args.met.now.meta.moment moment) at c.in_ok-changes.ensures.reads.told)
    (record { it = c.in_ok-request.request; made = c.in_ok-request.ensures.made; envelopes = c.in_ok-request.ensures.next; call = c.ask.ensures })
    _ _ (λ why came. c.in_ok-changes.ensures.reads.same) (by_wire _ _ _ c.in_err-came.was c.from_residual-in_err-came.ensures.1)

pub take_changes-requires-clause-taken : goal.take_changes-requires-clause-taken
take_changes-requires-clause-taken g c =
    let give = granted_give _ _ _ _ _ changes_in _ _ c.ask.ensures c.in_ok-came.was in
    (changes_are give.0 c.in_ok-came.came give.1).1

pub returns-in_err-take_changes-clause-leads : goal.returns-in_err-take_changes-clause-leads
returns-in_err-take_changes-clause-leads g c =
    let moment : SFits w64 c.args.met.now.meta.moment = search rules in
    changes_refused c.args.met.now (g.K.Lookup.keeping c.args.keeper.now) _ _ c.ask.result c.in_ok-changes.changes
    (rw (to_z-of_z w64 c.args.met.now.meta.moment moment) at c.in_ok-changes.ensures.reads.told)
    (record { it = c.in_ok-request.request; made = c.in_ok-request.ensures.made; envelopes = c.in_ok-request.ensures.next; call = c.ask.ensures })
    _ _ (kept_granted _ _ _ _ c.in_ok-came.was) (keeper_after _ _ _ _ c.in_ok-came.was c.from_residual-in_err-take_changes.ensures.1)

pub returns-clause-leads : goal.returns-clause-leads
returns-clause-leads g c =
    let moment : SFits w64 c.args.met.now.meta.moment = search rules in
    let usn : SFits w64 c.args.met.now.meta.usn = search rules in
    changes_took c.args.met.now (g.K.Lookup.keeping c.args.keeper.now) _ _ c.ask.result c.in_ok-changes.changes
    (rw (to_z-of_z w64 c.args.met.now.meta.moment moment) at c.in_ok-changes.ensures.reads.told)
    (record { it = c.in_ok-request.request; made = c.in_ok-request.ensures.made; envelopes = c.in_ok-request.ensures.next; call = c.ask.ensures })
    _ _ _ c.in_ok-came.came c.in_ok-came.was
    ((rw (to_z-of_z w64 c.args.met.now.meta.usn usn) at c.in_ok-take_changes.ensures.ok)
    ∙ ap (changed (received c.args.met.now.meta.usn (replied (gives.Changes c.in_ok-came.came)))) c.in_ok-changes.ensures.reads.same)
    (settled_ask _ (asks.ApplyChanges c.in_ok-changes.changes) c.in_ok-request.request.ask _ _ (ap (λ (it : Request). it.ask) c.in_ok-request.ensures.made)
    (rw (to_z-of_z w64 c.args.met.now.meta.usn usn) at c.in_ok-settle_sent.ensures.ok))

pub settle_sent-requires-clause-held : goal.settle_sent-requires-clause-held
settle_sent-requires-clause-held g c = λ is.
    let usn : SFits w64 c.args.met.now.meta.usn = search rules in
    ap (λ (k : Keeping). k.headed.current) (rw (to_z-of_z w64 c.args.met.now.meta.usn usn) at c.in_ok-take_changes.ensures.ok)
    ∙ ap (λ (k : Keeping). k.headed.current) c.in_ok-changes.ensures.reads.same
    ∙ c.requires.held

pub settle_sent-requires-clause-tags : goal.settle_sent-requires-clause-tags
settle_sent-requires-clause-tags g c =
    let moment : SFits w64 c.args.met.now.meta.moment = search rules in
    let usn : SFits w64 c.args.met.now.meta.usn = search rules in
    subst (λ (ask : Ask). NamesUnsentTags ask (g.K.Lookup.keeping c.take_changes.new.keeper)) (sym (ap (λ (it : Request). it.ask) c.in_ok-request.ensures.made))
    (still_named c.args.met.now.meta.usn c.args.met.now.meta.moment (replied (gives.Changes c.in_ok-came.came)) c.in_ok-changes.changes
    (g.K.Lookup.keeping c.args.keeper.now) (g.K.Lookup.keeping c.take_changes.new.keeper) c.requires.number.low
    (rw (to_z-of_z w64 c.args.met.now.meta.moment moment) at c.in_ok-changes.ensures.reads.told)
    ((rw (to_z-of_z w64 c.args.met.now.meta.usn usn) at c.in_ok-take_changes.ensures.ok)
    ∙ ap (changed (received c.args.met.now.meta.usn (replied (gives.Changes c.in_ok-came.came)))) c.in_ok-changes.ensures.reads.same))

pub returns-in_err-settle_sent-clause-leads : goal.returns-in_err-settle_sent-clause-leads
returns-in_err-settle_sent-clause-leads g c =
    let moment : SFits w64 c.args.met.now.meta.moment = search rules in
    changes_refused c.args.met.now (g.K.Lookup.keeping c.args.keeper.now) _ _ c.ask.result c.in_ok-changes.changes
    (rw (to_z-of_z w64 c.args.met.now.meta.moment moment) at c.in_ok-changes.ensures.reads.told)
    (record { it = c.in_ok-request.request; made = c.in_ok-request.ensures.made; envelopes = c.in_ok-request.ensures.next; call = c.ask.ensures })
    _ _ (kept_granted _ _ _ _ c.in_ok-came.was) (keeper_after _ _ _ _ c.in_ok-came.was c.from_residual-in_err-settle_sent.ensures.1)

pub returns-in_err-settle_sent-clause-stays : goal.returns-in_err-settle_sent-clause-stays
returns-in_err-settle_sent-clause-stays g c =
    let read = stays_same (g.K.Lookup.keeping c.args.keeper.now) (g.K.Lookup.keeping c.unsent_changes.new.keeper) c.requires.marked c.in_ok-changes.ensures.reads.same in
    stays_marked (back (g.K.Lookup.keeping c.args.keeper.now)) (g.K.Lookup.keeping c.take_changes.new.keeper) (g.K.Lookup.keeping c.settle_sent.new.keeper)
    (stays_marked (back (g.K.Lookup.keeping c.args.keeper.now)) (g.K.Lookup.keeping c.unsent_changes.new.keeper) (g.K.Lookup.keeping c.take_changes.new.keeper) read c.in_ok-take_changes.ensures.stays)
    c.in_err-settle_sent.ensures.stays

pub returns-clause-stays : goal.returns-clause-stays
returns-clause-stays g c =
    let read = stays_same (g.K.Lookup.keeping c.args.keeper.now) (g.K.Lookup.keeping c.unsent_changes.new.keeper) c.requires.marked c.in_ok-changes.ensures.reads.same in
    stays_marked (back (g.K.Lookup.keeping c.args.keeper.now)) (g.K.Lookup.keeping c.take_changes.new.keeper) (g.K.Lookup.keeping c.settle_sent.new.keeper)
    (stays_marked (back (g.K.Lookup.keeping c.args.keeper.now)) (g.K.Lookup.keeping c.unsent_changes.new.keeper) (g.K.Lookup.keeping c.take_changes.new.keeper) read c.in_ok-take_changes.ensures.stays)
    c.in_ok-settle_sent.ensures.stays

pub returns-in_err-settle_sent-clause-keeper : goal.returns-in_err-settle_sent-clause-keeper
returns-in_err-settle_sent-clause-keeper g c =
    cause_after (goes_further c.in_ok-changes.ensures.reads.cause.goes c.in_ok-take_changes.ensures.cause.goes)
    (cause_keeper _ _ c.in_err-settle_sent.ensures.cause c.from_residual-in_err-settle_sent.ensures.1)

pub returns-in_err-changes-clause-keeper : goal.returns-in_err-changes-clause-keeper
returns-in_err-changes-clause-keeper g c = cause_keeper _ _ c.in_err-changes.ensures.reads.cause c.from_residual.ensures.1

pub returns-in_err-request-clause-keeper : goal.returns-in_err-request-clause-keeper
returns-in_err-request-clause-keeper g c = cause_memory _ c.in_ok-changes.ensures.reads.cause.goes c.from_residual-in_err-request.ensures.1

pub returns-in_err-came-clause-keeper : goal.returns-in_err-came-clause-keeper
returns-in_err-came-clause-keeper g c = cause_wire _ _ c.in_ok-changes.ensures.reads.cause.goes c.from_residual-in_err-came.ensures.1

pub returns-in_err-take_changes-clause-keeper : goal.returns-in_err-take_changes-clause-keeper
returns-in_err-take_changes-clause-keeper g c =
    cause_after c.in_ok-changes.ensures.reads.cause.goes (cause_keeper _ _ c.in_err-take_changes.ensures.cause c.from_residual-in_err-take_changes.ensures.1)

pub returns-clause-keeper : goal.returns-clause-keeper
returns-clause-keeper g c =
    cause_ok _ (goes_further (goes_further c.in_ok-changes.ensures.reads.cause.goes c.in_ok-take_changes.ensures.cause.goes) c.in_ok-settle_sent.ensures.cause.goes)
