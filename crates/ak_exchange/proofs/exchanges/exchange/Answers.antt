use Rattle.std.proofs.Common.{◌+◌, sym, ap, subst, ◌∙◌, arith, Result, Ok, Err, OnOk}
use Rattle.ak_exchange.proofs.Faults.{cause_passed}
use Rattle.ak_exchange.proofs.Parts.{exchanges_all, exchanges_refused}
use Rattle.ak_exchange.proofs.Passing.{advances_held, advances_more, advances_passed, advances_then}
use Rattle.ak_exchange.specs.Phases.{at_meta}
use Rattle.ak_faults.proofs.Healths.{cause_after, goes_further}
use Rattle.ak_keep.specs.Keepers.{IsMarkedAt, Keeping, back}
use Rattle.ak_sync_rows.proofs.Taking.{stays_marked}
use Rattle.ak_exchange.proofs.exchanges.exchange.Goals as goal

all_ok : {T E P : Type 0} (r : Result T E) → P → OnOk r P
all_ok (Ok x) p = p
all_ok (Err e) p = tt

pub returns-in_err-exchange_first-clause-exchanges : goal.returns-in_err-exchange_first-clause-exchanges
returns-in_err-exchange_first-clause-exchanges g c =
    let first = c.in_err-exchange_first.ensures.leads in
    exchanges_refused at_meta _ _ _ _ _ _ first.0 first.1 c.from_residual.ensures.0
    (advances_more 0 0 (2 + first.0) _ _ _ _ _ _ _ _ _ _ _ (omega arith) (omega arith) (omega arith)
    (advances_passed _ _ _ _ _ _ _ _ _ _ _ _ _ c.from_residual.ensures.1 first.2))

pub exchange_chunks-requires-clause-marked : goal.exchange_chunks-requires-clause-marked
exchange_chunks-requires-clause-marked g c = c.in_ok-exchange_first.ensures.stays.marked

pub returns-in_err-exchange_chunks-clause-exchanges : goal.returns-in_err-exchange_chunks-clause-exchanges
returns-in_err-exchange_chunks-clause-exchanges g c =
    let first = c.in_ok-exchange_first.ensures.leads in
    exchanges_refused at_meta _ _ _ _ _ _ first.0 first.1 c.from_residual-in_err-exchange_chunks.ensures.0
    (advances_more 40000 39999 (2 + first.0 + 1) _ _ _ _ _ _ _ _ _ _ _ (omega arith) (omega arith) (omega arith)
    (advances_passed _ _ _ _ _ _ _ _ _ _ _ _ _ c.from_residual-in_err-exchange_chunks.ensures.1
    (advances_then _ _ _ _ _ _ _ _ _ _ _ _ _ _ _ _ _ _ first.2 c.in_err-exchange_chunks.ensures.leads)))

pub returns-in_err-exchange_chunks-clause-stays : goal.returns-in_err-exchange_chunks-clause-stays
returns-in_err-exchange_chunks-clause-stays g c =
    stays_marked (back (g.K.Lookup.keeping c.args.keeper.now)) (g.K.Lookup.keeping c.exchange_first.new.keeper) (g.K.Lookup.keeping c.exchange_chunks.new.keeper)
    c.in_ok-exchange_first.ensures.stays c.in_err-exchange_chunks.ensures.stays

pub returns-in_err-exchange_chunks-clause-keeper : goal.returns-in_err-exchange_chunks-clause-keeper
returns-in_err-exchange_chunks-clause-keeper g c =
    cause_after c.in_ok-exchange_first.ensures.keeper.goes
    (cause_passed _ _ c.in_err-exchange_chunks.ensures.keeper c.from_residual-in_err-exchange_chunks.ensures.1)

pub compare-requires : goal.compare-requires
compare-requires g c = record { marked = c.in_ok-exchange_chunks.ensures.stays.marked }

pub returns-clause-exchanges : goal.returns-clause-exchanges
returns-clause-exchanges g c =
    let first = c.in_ok-exchange_first.ensures.leads in
    exchanges_all _ _ _ _ _ first.0 _ first.1
    (advances_more 40000 39999 (2 + first.0 + 1 + 1) _ _ _ _ _ _ _ _ _ _ _ (omega arith) (omega arith) (omega arith)
    (advances_then _ _ _ _ _ _ _ _ _ _ _ _ _ _ _ _ _ _
    (advances_then _ _ _ _ _ _ _ _ _ _ _ _ _ _ _ _ _ _ first.2 c.in_ok-exchange_chunks.ensures.leads) c.compare.ensures.leads))

pub returns-clause-stays : goal.returns-clause-stays
returns-clause-stays g c =
    subst (λ (k : Keeping). IsMarkedAt (back (g.K.Lookup.keeping c.args.keeper.now)) k) (sym c.compare.ensures.same)
    (stays_marked (back (g.K.Lookup.keeping c.args.keeper.now)) (g.K.Lookup.keeping c.exchange_first.new.keeper) (g.K.Lookup.keeping c.exchange_chunks.new.keeper)
    c.in_ok-exchange_first.ensures.stays c.in_ok-exchange_chunks.ensures.stays)

pub returns-clause-held : goal.returns-clause-held
returns-clause-held g c =
    all_ok c.compare.result
    (ap (λ (k : Keeping). k.headed.current) c.compare.ensures.same
    ∙ advances_held _ _ _ _ _ _ _ _ _ _ _ c.in_ok-exchange_chunks.ensures.leads (advances_held _ _ _ _ _ _ _ _ _ _ _ c.in_ok-exchange_first.ensures.leads.2 c.requires.held))

pub returns-in_err-exchange_first-clause-keeper : goal.returns-in_err-exchange_first-clause-keeper
returns-in_err-exchange_first-clause-keeper g c = cause_passed _ _ c.in_err-exchange_first.ensures.keeper c.from_residual.ensures.1

pub returns-clause-keeper : goal.returns-clause-keeper
returns-clause-keeper g c = cause_after (goes_further c.in_ok-exchange_first.ensures.keeper.goes c.in_ok-exchange_chunks.ensures.keeper.goes) c.compare.ensures.keeper
