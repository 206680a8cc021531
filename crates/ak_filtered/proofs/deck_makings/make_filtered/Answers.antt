use Rattle.std.proofs.Common.{◌≡◌, ◌∙◌, sym, subst, Err, ℤ, rules, w64, SFits}
use Rattle.std.proofs.lemmas.Int.{to_z-of_z}
use Rattle.std.proofs.lemmas.Result.{err_from_is_err_and}
use Rattle.ak_deck_paths.specs.ChangedDecks.{decks_over}
use Rattle.ak_edit.specs.Overlays.{unchanged}
use Rattle.ak_faults.proofs.Healths.{cause_after}
use Rattle.ak_filtered.proofs.DeckTests.{desk_cause}
use Rattle.ak_filtered.proofs.Makings.{end_listed, made_done, made_first, made_refused, made_tells}
use Rattle.ak_filtered.specs.FilteredFaults.{FilteredCause, TellsToEnd}
use Rattle.ak_filtered.specs.MadeDecks.{RefusesMaking, RefusesToMake}
use Rattle.ak_filtered.specs.MakingFaults.{IsMakingFault}
use Rattle.ak_filtered.specs.declared.faults.FilteredFault.{FilteredFault}
use Rattle.ak_keep.specs.Keepers.{WhereHeld}
use Rattle.ak_filtered.proofs.deck_makings.make_filtered.Goals as goal

pub returns-in_err-decks-clause-refused : goal.returns-in_err-decks-clause-refused
returns-in_err-decks-clause-refused g c =
    let fits : SFits w64 c.args.at = c.ranges.at in
    let p = err_from_is_err_and c.from_residual.result c.from_residual.ensures.1 in
    rw (p.1, p.2) (made_first (g.K.Lookup.keeping c.args.keeper.now) c.args.at c.args.given.now c.in_err-decks.field-0.0 (rw (to_z-of_z w64 c.args.at fits) at c.in_err-decks.ensures.refused))

pub returns-in-Ok-clause-ok : goal.returns-in-Ok-clause-ok
returns-in-Ok-clause-ok g c =
    let fits : SFits w64 c.args.at = c.ranges.at in
    let id : ℤ = c.id_of_last-id.result in
    let own : SFits w64 id = search rules in
    let over : c.put_decks.new.change ≡ decks_over c.in_ok-decks.decks unchanged = rw (c.into_vec.ensures, c.new-change.ensures) at c.in_ok-put_decks.ensures in
    made_done (g.K.Lookup.keeping c.args.keeper.now) (g.K.Lookup.keeping c.finish_cleared.new.keeper) c.args.at c.args.given.now c.in_ok-decks.decks c.put_decks.new.change c.finish_cleared.new.steps _ tt over
    (to_z-of_z w64 id own ∙ rw c.as_slice.ensures at c.id_of_last-id.ensures) (rw (to_z-of_z w64 c.args.at fits) at c.in_ok-decks.ensures.put)
    (rw (c.in_ok-decks.ensures.same, to_z-of_z w64 c.args.at fits) at c.in-Ok.ensures.ok) (rw (c.in_ok-decks.ensures.same, to_z-of_z w64 c.args.at fits) at c.in-Ok.ensures.refused)

pub returns-in-Ok-clause-refused : goal.returns-in-Ok-clause-refused
returns-in-Ok-clause-refused g c =
    let fits : SFits w64 c.args.at = c.ranges.at in
    made_tells (g.K.Lookup.keeping c.args.keeper.now) c.args.at c.args.given.now c.in_ok-decks.decks _ (rw (to_z-of_z w64 c.args.at fits) at c.in_ok-decks.ensures.refused)

pub returns-in-Err-clause-refused : goal.returns-in-Err-clause-refused
returns-in-Err-clause-refused g c =
    let fits : SFits w64 c.args.at = c.ranges.at in
    let over : c.put_decks.new.change ≡ decks_over c.in_ok-decks.decks unchanged = rw (c.into_vec.ensures, c.new-change.ensures) at c.in_ok-put_decks.ensures in
    subst (λ (f : FilteredFault). WhereHeld (g.K.Lookup.keeping c.args.keeper.now) (λ d. TellsToEnd {T = ℤ} (RefusesToMake c.args.at c.args.given.now d.rows) (RefusesMaking c.args.at c.args.given.now d) (Err f)))
    (sym c.from.ensures)
    (made_refused (g.K.Lookup.keeping c.args.keeper.now) c.args.at c.args.given.now c.in_ok-decks.decks c.put_decks.new.change c.in-Err.fault over (rw (to_z-of_z w64 c.args.at fits) at c.in_ok-decks.ensures.put)
    (rw (to_z-of_z w64 c.args.at fits) at c.in_ok-decks.ensures.refused) (rw (c.in_ok-decks.ensures.same, to_z-of_z w64 c.args.at fits) at c.in-Err.ensures.refused))

pub returns-in-Err-clause-listed : goal.returns-in-Err-clause-listed
returns-in-Err-clause-listed g c =
    subst IsMakingFault (sym c.from.ensures) (end_listed c.in-Err.fault c.in-Err.ensures.listed)

pub returns-in-Err-clause-cause : goal.returns-in-Err-clause-cause
returns-in-Err-clause-cause g c =
    subst (λ (f : FilteredFault). FilteredCause {T = ℤ} (g.K.Lookup.health c.args.keeper.now) (g.K.Lookup.health c.finish_cleared.new.keeper) (Err f)) (sym c.from.ensures)
    (cause_after c.in_ok-decks.ensures.cause.goes (desk_cause (Unit {0}) ℤ _ _ c.in-Err.fault c.in-Err.ensures.cause))
