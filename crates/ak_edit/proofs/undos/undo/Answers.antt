use Rattle.std.proofs.Common.{◌≡◌, Some, None, drop, slice_get, IfSome, Option, ap, subst, ◌∙◌, w64, rules}
use Rattle.std.proofs.lemmas.Int.{to_z-of_z}
use Rattle.ak_keep.specs.Keepers.{IsRightlyKnown, Keeping, committed, head_set, marked_here}
use Rattle.ak_undo.specs.Steps.{IsStepInRange}
use Rattle.ak_undo.specs.declared.steps.Step.{Step}
use Rattle.ak_edit.proofs.Finishing.{held_rightly}
use Rattle.ak_edit.proofs.Stepping.{tested_may_be_written}
use Rattle.ak_edit.proofs.Undoing.{accepted, answered, latest_first, none_latest, refused, undone}
use Rattle.ak_edit.specs.Stores.{all_written}
use Rattle.ak_edit.proofs.undos.undo.Goals as goal

pub returns-in_default-clause-nothing : goal.returns-in_default-clause-nothing
returns-in_default-clause-nothing g c =
    let none : slice_get c.args.steps.now 0 ≡ None = search rules in
    λ _. none_latest c.args.steps.now none

pub returns-in_default-clause-known : goal.returns-in_default-clause-known
returns-in_default-clause-known g c = held_rightly (g.K.Lookup.keeping c.args.keeper.now) (c.held-formed.ensures.formed c.marked-checks.ensures.checks)

pub returns-in_err-plan-clause-known : goal.returns-in_err-plan-clause-known
returns-in_err-plan-clause-known g c = held_rightly (g.K.Lookup.keeping c.args.keeper.now) (c.held-formed.ensures.formed c.marked-checks.ensures.checks)

pub returns-in_err-test_made-clause-refused : goal.returns-in_err-test_made-clause-refused
returns-in_err-test_made-clause-refused g c =
    let first : slice_get c.args.steps.now 0 ≡ Some c.in-Some.step.now = search rules in
    let range : IsStepInRange c.in-Some.step.now = subst (λ (o : Option Step). IfSome o IsStepInRange) first c.latest.ensures.range in
    answered c.args.at (g.K.Lookup.keeping c.args.keeper.now) c.args.steps.now c.from_residual-in_err-test_made.result c.in_err-test_made.field-0.0 c.from_residual-in_err-test_made.ensures.1
    (refused c.args.at c.of.result c.in-Some.step.now c.in_ok-plan.plan (rw (to_z-of_z w64 c.args.at c.ranges.at) at c.of.ensures.at) (rw (to_z-of_z w64 c.args.at c.ranges.at) at c.of.ensures.second) range c.in_ok-plan.ensures.after (g.K.Lookup.keeping c.args.keeper.now) c.args.steps.now (drop 1 c.args.steps.now)
    c.in_err-test_made.field-0.0 c.in_ok-plan.ensures.before c.in_ok-plan.ensures.reads.told c.in_ok-plan.ensures.passing
    (rw c.as_slice.ensures.value at c.in_err-test_made.ensures.refused) (latest_first c.args.steps.now c.in-Some.step.now first))

pub returns-in_err-test_made-clause-known : goal.returns-in_err-test_made-clause-known
returns-in_err-test_made-clause-known g c = held_rightly (g.K.Lookup.keeping c.args.keeper.now) (c.held-formed.ensures.formed c.marked-checks.ensures.checks)

pub commit-requires-clause-made : goal.commit-requires-clause-made
commit-requires-clause-made g c =
    let tests = rw c.as_slice.ensures.value at c.in_ok-test_made.ensures.ok in
    tested_may_be_written c.in_ok-plan.plan.writes.items tests.0 tests.1

pub returns-in_err-befores-clause-known : goal.returns-in_err-befores-clause-known
returns-in_err-befores-clause-known g c = held_rightly (g.K.Lookup.keeping c.args.keeper.now) (c.held-formed.ensures.formed c.marked-checks.ensures.checks)

pub returns-clause-ok : goal.returns-clause-ok
returns-clause-ok g c =
    let first : slice_get c.args.steps.now 0 ≡ Some c.in-Some.step.now = search rules in
    let range : IsStepInRange c.in-Some.step.now = subst (λ (o : Option Step). IfSome o IsStepInRange) first c.latest.ensures.range in
    let known : IsRightlyKnown (g.K.Lookup.keeping c.args.keeper.now) = c.held-formed.ensures.formed c.marked-checks.ensures.checks in
    rw c.take.ensures.rest
    (undone c.args.at c.of.result c.in-Some.step.now c.in_ok-plan.plan (rw (to_z-of_z w64 c.args.at c.ranges.at) at c.of.ensures.at) (rw (to_z-of_z w64 c.args.at c.ranges.at) at c.of.ensures.second) range c.in_ok-plan.ensures.after (g.K.Lookup.keeping c.args.keeper.now) (g.K.Lookup.keeping c.commit.new.keeper)
    c.args.steps.now (drop 1 c.args.steps.now) c.requires.unmarked c.requires.held known c.in_ok-plan.ensures.reads.told (c.in_ok-befores.ensures.ok ∙ ap (λ (j : Keeping). committed (head_set c.in_ok-plan.plan.after (all_written c.in_ok-plan.plan.writes.items (marked_here j)))) c.in_ok-plan.ensures.reads.same)
    (latest_first c.args.steps.now c.in-Some.step.now first))

pub returns-clause-refused : goal.returns-clause-refused
returns-clause-refused g c =
    let first : slice_get c.args.steps.now 0 ≡ Some c.in-Some.step.now = search rules in
    let range : IsStepInRange c.in-Some.step.now = subst (λ (o : Option Step). IfSome o IsStepInRange) first c.latest.ensures.range in
    let tests = rw c.as_slice.ensures.value at c.in_ok-test_made.ensures.ok in
    accepted c.args.at c.of.result c.in-Some.step.now c.in_ok-plan.plan (rw (to_z-of_z w64 c.args.at c.ranges.at) at c.of.ensures.at) (rw (to_z-of_z w64 c.args.at c.ranges.at) at c.of.ensures.second) range c.in_ok-plan.ensures.after (g.K.Lookup.keeping c.args.keeper.now) c.args.steps.now (drop 1 c.args.steps.now)
    tt c.in_ok-plan.ensures.reads.told tests.1 tests.2 (latest_first c.args.steps.now c.in-Some.step.now first)

pub returns-clause-known : goal.returns-clause-known
returns-clause-known g c = held_rightly (g.K.Lookup.keeping c.args.keeper.now) (c.held-formed.ensures.formed c.marked-checks.ensures.checks)
