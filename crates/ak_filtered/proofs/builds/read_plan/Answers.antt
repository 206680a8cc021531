use Rattle.std.proofs.Common.{◌≡◌, ℤ, ◌∙◌, refl, sym, ap, subst, inl, inr, None, Err, rules, w64, SFits}
use Rattle.std.proofs.lemmas.Int.{to_z-of_z}
use Rattle.std.proofs.lemmas.Result.{err_from_is_err_and}
use Rattle.ak_base.specs.declared.decks.Deck.{Deck}
use Rattle.ak_filtered.proofs.DeckTests.{plan_bad, plan_good, search_bad, search_cause}
use Rattle.ak_filtered.proofs.Filling.{deck_first, plan_read}
use Rattle.ak_filtered.specs.Building.{IsPlanFault}
use Rattle.ak_filtered.specs.Builds.{RefusesToBuild}
use Rattle.ak_filtered.specs.FilteredFaults.{FilteredCause, TellsBy}
use Rattle.ak_filtered.specs.declared.builds.ReadPlan.{ReadPlan}
use Rattle.ak_filtered.specs.declared.faults.FilteredFault.{FilteredFault}
use Rattle.ak_filtered.specs.declared.faults.FilteredFault.TheVariants as faults
use Rattle.ak_keep.specs.Keepers.{WhereHeld}
use Rattle.ak_search.proofs.Grammars.{no_fault}
use Rattle.ak_filtered.proofs.builds.read_plan.Goals as goal

pub returns-in_err-deck-clause-refused : goal.returns-in_err-deck-clause-refused
returns-in_err-deck-clause-refused g c =
    let fits : SFits w64 c.args.id = c.ranges.id in
    let p = err_from_is_err_and c.from_residual.result c.from_residual.ensures.1 in
    rw (p.1, p.2) (deck_first Deck ReadPlan (g.K.Lookup.keeping c.args.keeper.now) c.args.id c.in_err-deck.field-0.0 (rw (to_z-of_z w64 c.args.id fits) at c.in_err-deck.ensures.refused))

pub returns-in_default-clause-refused : goal.returns-in_default-clause-refused
returns-in_default-clause-refused g c =
    let fits : SFits w64 c.args.id = c.ranges.id in
    let none : c.in_ok-plan.field-0 ≡ None = search rules in
    subst (λ (n : ℤ). WhereHeld (g.K.Lookup.keeping c.args.keeper.now) (λ d. TellsBy {T = ReadPlan} (RefusesToBuild c.args.id d) (Err (faults.BadPlan n)))) (sym (to_z-of_z w64 c.args.id fits))
    (plan_bad ReadPlan (g.K.Lookup.keeping c.args.keeper.now) c.args.id c.in_ok-deck.deck (sym c.in_ok-plan.ensures.plan ∙ none) (rw (to_z-of_z w64 c.args.id fits) at c.in_ok-deck.ensures.held)
    (rw (to_z-of_z w64 c.args.id fits) at c.in_ok-deck.ensures.refused))

pub returns-in-Ok-clause-plan : goal.returns-in-Ok-clause-plan
returns-in-Ok-clause-plan g c =
    let fits : SFits w64 c.args.id = c.ranges.id in
    plan_read (g.K.Lookup.keeping c.args.keeper.now) c.args.id c.in_ok-deck.deck _ (sym c.in_ok-plan.ensures.plan ∙ c.in-Some.is) (rw c.as_str.ensures at c.in-Ok.ensures.tree)
    (rw (to_z-of_z w64 c.args.id fits) at c.in_ok-deck.ensures.held)

pub returns-in-Ok-clause-refused : goal.returns-in-Ok-clause-refused
returns-in-Ok-clause-refused g c =
    let fits : SFits w64 c.args.id = c.ranges.id in
    plan_good (g.K.Lookup.keeping c.args.keeper.now) c.args.id c.in_ok-deck.deck c.in-Some.plan _ (sym c.in_ok-plan.ensures.plan ∙ c.in-Some.is)
    (no_fault c.in-Some.plan.search c.in-Ok.ensures.tree.0 (rw c.as_str.ensures at c.in-Ok.ensures.tree.1)) (rw (to_z-of_z w64 c.args.id fits) at c.in_ok-deck.ensures.held)
    (rw (to_z-of_z w64 c.args.id fits) at c.in_ok-deck.ensures.refused)

pub returns-clause-refused : goal.returns-clause-refused
returns-clause-refused g c =
    let fits : SFits w64 c.args.id = c.ranges.id in
    rw c.from.ensures
    (search_bad ReadPlan (g.K.Lookup.keeping c.args.keeper.now) c.args.id c.in_ok-deck.deck c.in-Some.plan c.in-Err.fault (sym c.in_ok-plan.ensures.plan ∙ c.in-Some.is)
    (rw c.as_str.ensures at c.in-Err.ensures.fault) (rw (to_z-of_z w64 c.args.id fits) at c.in_ok-deck.ensures.held) (rw (to_z-of_z w64 c.args.id fits) at c.in_ok-deck.ensures.refused))

pub returns-in_err-deck-clause-listed : goal.returns-in_err-deck-clause-listed
returns-in_err-deck-clause-listed g c =
    let fits : SFits w64 c.args.id = c.ranges.id in
    let p = err_from_is_err_and c.from_residual.result c.from_residual.ensures.1 in
    rw (p.1, p.2) (inl (rw (to_z-of_z w64 c.args.id fits) at c.in_err-deck.ensures.listed))

pub returns-in_default-clause-listed : goal.returns-in_default-clause-listed
returns-in_default-clause-listed g c =
    let fits : SFits w64 c.args.id = c.ranges.id in
    inr (inl (ap (λ (n : ℤ). faults.BadPlan n) (to_z-of_z w64 c.args.id fits)))

pub returns-clause-listed : goal.returns-clause-listed
returns-clause-listed g c = subst (λ (f : FilteredFault). IsPlanFault c.args.id f) (sym c.from.ensures) (inr (inr (c.in-Err.fault, refl)))

pub returns-clause-cause : goal.returns-clause-cause
returns-clause-cause g c =
    subst (λ (f : FilteredFault). FilteredCause {T = ReadPlan} (g.K.Lookup.health c.args.keeper.now) (g.K.Lookup.health c.filtered_deck.new.keeper) (Err f)) (sym c.from.ensures)
    (search_cause ReadPlan _ _ c.in-Err.fault c.in_ok-deck.ensures.cause.goes)
