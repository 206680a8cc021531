use Rattle.std.proofs.Common.{sym, subst, List, Ok, Err, w64, SFits}
use Rattle.std.proofs.lemmas.Int.{to_z-of_z}
use Rattle.std.proofs.lemmas.Result.{err_from_is_err_and}
use Rattle.ak_base.specs.declared.decks.Deck.{Deck}
use Rattle.ak_filtered.proofs.DeckTests.{desk_cause}
use Rattle.ak_filtered.proofs.Makings.{given_cause, given_listed, given_told, id_listed, ids_lack, ids_suffice, ids_told, last_id, path_told, put_told, row_cause, row_listed, some_made}
use Rattle.ak_filtered.specs.FilteredFaults.{FilteredCause, TellsBy, of_desk_fault}
use Rattle.ak_filtered.specs.MadeDecks.{RefusesToMake}
use Rattle.ak_filtered.specs.MakingFaults.{IsMakingFault}
use Rattle.ak_filtered.specs.declared.faults.FilteredFault.{FilteredFault}
use Rattle.ak_keep.specs.Keepers.{WhereTold}
use Rattle.ak_faults.proofs.Healths.{cause_after}
use Rattle.ak_filtered.proofs.deck_makings.read_making.Goals as goal

pub returns-in-Err-clause-refused : goal.returns-in-Err-clause-refused
returns-in-Err-clause-refused g c =
    subst (λ (f : FilteredFault). WhereTold (g.K.Lookup.keeping c.args.keeper.now) (λ h. TellsBy {T = List Deck} (RefusesToMake c.args.at c.args.given.now h.rows) (Err f))) (sym c.from.ensures)
    (path_told (List Deck) (g.K.Lookup.keeping c.args.keeper.now) c.args.at c.args.given.now c.in-Err.fault c.in-Err.ensures.refused)

pub returns-in-Err-clause-listed : goal.returns-in-Err-clause-listed
returns-in-Err-clause-listed g c = subst IsMakingFault (sym c.from.ensures) (row_listed c.in-Err.fault c.in-Err.ensures.listed)

pub returns-in-Err-clause-cause : goal.returns-in-Err-clause-cause
returns-in-Err-clause-cause g c =
    subst (λ (f : FilteredFault). FilteredCause {T = List Deck} (g.K.Lookup.health c.args.keeper.now) (g.K.Lookup.health c.args.keeper.now) (Err f)) (sym c.from.ensures)
    (row_cause (List Deck) (g.K.Lookup.health c.args.keeper.now) c.in-Err.fault c.in-Err.ensures.listed)

pub returns-in_err-plan-clause-refused : goal.returns-in_err-plan-clause-refused
returns-in_err-plan-clause-refused g c =
    let p = err_from_is_err_and c.from_residual-in_err-plan.result c.from_residual-in_err-plan.ensures.1 in
    rw (p.1, p.2)
    (given_told _ (g.K.Lookup.keeping c.args.keeper.now) c.args.at c.args.given.now c.in_ok-decks.decks tt c.in_err-plan.field-0.0 c.in-Ok.ensures.refused c.in_ok-decks.ensures.reads.told
    (rw c.as_slice.ensures at c.in_err-plan.ensures.refused))

pub returns-in_err-plan-clause-cause : goal.returns-in_err-plan-clause-cause
returns-in_err-plan-clause-cause g c =
    let p = err_from_is_err_and c.from_residual-in_err-plan.result c.from_residual-in_err-plan.ensures.1 in
    rw (p.1, p.2) (given_cause _ _ c.in_err-plan.field-0.0 c.in_err-plan.ensures.listed c.in_ok-decks.ensures.reads.cause.goes)

pub returns-in_err-plan-clause-listed : goal.returns-in_err-plan-clause-listed
returns-in_err-plan-clause-listed g c =
    let p = err_from_is_err_and c.from_residual-in_err-plan.result c.from_residual-in_err-plan.ensures.1 in
    rw (p.1, p.2) (given_listed c.in_err-plan.field-0.0 c.in_err-plan.ensures.listed)

pub planned-requires-clause-some : goal.planned-requires-clause-some
planned-requires-clause-some g c = some_made c.in-Ok-new_decks.made (c.in-Ok-new_decks.ensures.range c.in_ok-paths.ensures.some)

pub returns-in-Ok-new_decks-clause-put : goal.returns-in-Ok-new_decks-clause-put
returns-in-Ok-new_decks-clause-put g c =
    let fits : SFits w64 c.args.at = c.ranges.at in
    put_told (g.K.Lookup.keeping c.args.keeper.now) c.args.at c.args.given.now c.in_ok-decks.decks c.in-Ok-new_decks.made c.in_ok-put-in-Ok-new_decks.put c.in_ok-plan.plan c.in_ok-plan.ensures.plan
    c.in_ok-put-in-Ok-new_decks.ensures c.in_ok-decks.ensures.reads.told
    (rw (c.in_ok-decks.ensures.reads.same, to_z-of_z w64 c.args.at fits, c.in_ok-paths.ensures.paths, c.as_slice-2.ensures) at c.in-Ok-new_decks.ensures.made)

pub returns-in-Ok-new_decks-clause-range : goal.returns-in-Ok-new_decks-clause-range
returns-in-Ok-new_decks-clause-range g c =
    rw (last_id c.in_ok-plan.plan c.in-Ok-new_decks.made c.in_ok-put-in-Ok-new_decks.put c.in_ok-put-in-Ok-new_decks.ensures) (c.in-Ok-new_decks.ensures.range c.in_ok-paths.ensures.some)

pub returns-in-Ok-new_decks-clause-refused : goal.returns-in-Ok-new_decks-clause-refused
returns-in-Ok-new_decks-clause-refused g c =
    let fits : SFits w64 c.args.at = c.ranges.at in
    ids_told (g.K.Lookup.keeping c.args.keeper.now) c.args.at c.args.given.now c.in_ok-decks.decks c.in_ok-plan.plan tt (Ok c.in_ok-put-in-Ok-new_decks.put) c.in-Ok.ensures.refused c.in_ok-decks.ensures.reads.told
    (rw c.as_slice.ensures at c.in_ok-plan.ensures.refused)
    (ids_suffice (g.K.Lookup.keeping c.args.keeper.now) c.args.at _ c.in-Ok-new_decks.made c.in_ok-put-in-Ok-new_decks.put
    (rw (c.in_ok-decks.ensures.reads.same, to_z-of_z w64 c.args.at fits, c.in_ok-paths.ensures.paths, c.as_slice-2.ensures) at c.in-Ok-new_decks.ensures.refused))

pub returns-clause-refused : goal.returns-clause-refused
returns-clause-refused g c =
    let fits : SFits w64 c.args.at = c.ranges.at in
    subst (λ (f : FilteredFault). WhereTold (g.K.Lookup.keeping c.args.keeper.now) (λ h. TellsBy {T = List Deck} (RefusesToMake c.args.at c.args.given.now h.rows) (Err f))) (sym c.from-in-Err-new_decks.ensures)
    (ids_told (g.K.Lookup.keeping c.args.keeper.now) c.args.at c.args.given.now c.in_ok-decks.decks c.in_ok-plan.plan tt (Err (of_desk_fault c.in-Err-new_decks.fault)) c.in-Ok.ensures.refused c.in_ok-decks.ensures.reads.told
    (rw c.as_slice.ensures at c.in_ok-plan.ensures.refused)
    (ids_lack (List Deck) (List Deck) (g.K.Lookup.keeping c.args.keeper.now) c.args.at _ c.in-Err-new_decks.fault
    (rw (c.in_ok-decks.ensures.reads.same, to_z-of_z w64 c.args.at fits, c.in_ok-paths.ensures.paths, c.as_slice-2.ensures) at c.in-Err-new_decks.ensures.refused)))

pub returns-clause-listed : goal.returns-clause-listed
returns-clause-listed g c = subst IsMakingFault (sym c.from-in-Err-new_decks.ensures) (id_listed c.in-Err-new_decks.fault c.in-Err-new_decks.ensures.listed)

pub returns-clause-cause : goal.returns-clause-cause
returns-clause-cause g c =
    subst (λ (f : FilteredFault). FilteredCause {T = List Deck} (g.K.Lookup.health c.args.keeper.now) (g.K.Lookup.health c.new_decks.new.keeper) (Err f)) (sym c.from-in-Err-new_decks.ensures)
    (cause_after c.in_ok-decks.ensures.reads.cause.goes (desk_cause (List Deck) (List Deck) _ _ c.in-Err-new_decks.fault c.in-Err-new_decks.ensures.cause))
