use Rattle.std.proofs.Common.{◌≡◌, refl, sym, subst, ◌∙◌, inl, inr, Err, None, Some, rules, w64, SFits}
use Rattle.std.proofs.lemmas.Int.{to_z-of_z}
use Rattle.ak_filtered.proofs.Makings.{given_bad_plan, given_bad_search, given_good, given_used}
use Rattle.ak_filtered.specs.FilteredFaults.{TellsBy}
use Rattle.ak_filtered.specs.MadeDecks.{RefusesGiven, given_plan}
use Rattle.ak_filtered.specs.MakingFaults.{IsGivenFault}
use Rattle.ak_filtered.specs.declared.faults.FilteredFault.{FilteredFault}
use Rattle.ak_filtered.specs.declared.plans.Plan.{Plan}
use Rattle.ak_search.proofs.Grammars.{no_fault}
use Rattle.ak_filtered.proofs.deck_makings.check_given.Goals as goal

pub returns-in-Err-clause-refused : goal.returns-in-Err-clause-refused
returns-in-Err-clause-refused c =
    subst (λ (f : FilteredFault). TellsBy {T = Plan} (RefusesGiven c.args.decks.now c.args.given.now) (Err f)) (sym c.from.ensures)
    (given_used Plan c.args.decks.now c.args.given.now c.in-Err.fault c.in-Err.ensures.refused)

pub returns-in-Err-clause-listed : goal.returns-in-Err-clause-listed
returns-in-Err-clause-listed c = subst IsGivenFault (sym c.from.ensures) (inr (inl (c.in-Err.fault, c.in-Err.ensures.listed, refl)))

pub returns-in_default-clause-refused : goal.returns-in_default-clause-refused
returns-in_default-clause-refused c =
    let lim : SFits w64 c.args.given.now.limit = search rules in
    let ord : SFits w64 c.args.given.now.order = search rules in
    let none : c.in_ok-plan.field-0 ≡ None = search rules in
    given_bad_plan Plan c.args.decks.now c.args.given.now tt c.in-Ok.ensures.refused
    (sym (rw (to_z-of_z w64 c.args.given.now.limit lim, to_z-of_z w64 c.args.given.now.order ord) at c.in_ok-plan.ensures.plan) ∙ none)

pub returns-in-Ok-parse-clause-refused : goal.returns-in-Ok-parse-clause-refused
returns-in-Ok-parse-clause-refused c =
    let lim : SFits w64 c.args.given.now.limit = search rules in
    let ord : SFits w64 c.args.given.now.order = search rules in
    let has : given_plan c.args.given.now ≡ Some c.in-Some.plan =
    sym (rw (to_z-of_z w64 c.args.given.now.limit lim, to_z-of_z w64 c.args.given.now.order ord) at c.in_ok-plan.ensures.plan) ∙ c.in-Some.is in
    given_good c.args.decks.now c.args.given.now c.in-Some.plan tt c.in-Some.plan c.in-Ok.ensures.refused has (no_fault c.args.given.now.search.now c.in-Ok-parse.ensures.tree.0 c.in-Ok-parse.ensures.tree.1)

pub returns-in-Err-parse-clause-refused : goal.returns-in-Err-parse-clause-refused
returns-in-Err-parse-clause-refused c =
    let lim : SFits w64 c.args.given.now.limit = search rules in
    let ord : SFits w64 c.args.given.now.order = search rules in
    let has : given_plan c.args.given.now ≡ Some c.in-Some.plan =
    sym (rw (to_z-of_z w64 c.args.given.now.limit lim, to_z-of_z w64 c.args.given.now.order ord) at c.in_ok-plan.ensures.plan) ∙ c.in-Some.is in
    rw c.from-in-Err-parse.ensures (given_bad_search Plan c.args.decks.now c.args.given.now c.in-Some.plan tt c.in-Err-parse.fault c.in-Ok.ensures.refused has c.in-Err-parse.ensures.fault)

pub returns-in-Err-parse-clause-listed : goal.returns-in-Err-parse-clause-listed
returns-in-Err-parse-clause-listed c = subst IsGivenFault (sym c.from-in-Err-parse.ensures) (inr (inr (inr (c.in-Err-parse.fault, refl))))

pub returns-in-Ok-parse-clause-plan : goal.returns-in-Ok-parse-clause-plan
returns-in-Ok-parse-clause-plan c =
    let lim : SFits w64 c.args.given.now.limit = search rules in
    let ord : SFits w64 c.args.given.now.order = search rules in
    sym (rw (to_z-of_z w64 c.args.given.now.limit lim, to_z-of_z w64 c.args.given.now.order ord) at c.in_ok-plan.ensures.plan) ∙ c.in-Some.is
