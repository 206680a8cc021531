use Rattle.std.proofs.Common.{Bool, sym, ap, subst, ◌∙◌, w64}
use Rattle.std.proofs.lemmas.Int.{to_z-of_z}
use Rattle.ak_keep.specs.Keepers.{Keeping, committed, head_set, marked_here}
use Rattle.ak_merge.proofs.EditFacts.{true_false}
use Rattle.ak_edit.proofs.Answering.{answered_by_test, answered_nothing, answered_ok}
use Rattle.ak_edit.proofs.Ending.{caused_by_test, listed_by_test}
use Rattle.ak_edit.proofs.Finishing.{finished, finished_nothing, held_rightly}
use Rattle.ak_edit.proofs.Stepping.{tested_may_be_written}
use Rattle.ak_edit.specs.Carrying.{steps_left, step_in}
use Rattle.ak_edit.specs.Ends.{FinishedBy}
use Rattle.ak_edit.specs.Overlays.{IsFitting, Overlay}
use Rattle.ak_edit.specs.Stores.{all_written}
use Rattle.ak_edit.proofs.changes.Change.finish.Goals as goal

pub returns-in_err-plan-clause-known : goal.returns-in_err-plan-clause-known
returns-in_err-plan-clause-known g c = held_rightly (g.K.Lookup.keeping c.args.keeper.now) (c.held-formed.ensures.formed c.marked-checks.ensures.checks)

pub returns-then-changes_nothing-clause-ok : goal.returns-then-changes_nothing-clause-ok
returns-then-changes_nothing-clause-ok g c =
    let k : Keeping = g.K.Lookup.keeping c.args.keeper.now in
    subst (λ (l : Keeping). FinishedBy c.args.at c.args.self k l c.args.steps.now c.args.steps.now) (sym c.in_ok-plan.ensures.reads.same)
    (finished_nothing c.args.at c.of.result c.args.self k c.in_ok-plan.plan c.args.steps.now (rw (to_z-of_z w64 c.args.at c.ranges.at) at c.of.ensures.at) (rw (to_z-of_z w64 c.args.at c.ranges.at) at c.of.ensures.second)
    (c.held-formed.ensures.formed c.marked-checks.ensures.checks) (subst IsFitting c.self.view_is c.self.invariant).rows c.in_ok-plan.ensures.reads.told (c.changes_nothing.ensures.0 c.if-changes_nothing.true))

pub returns-then-changes_nothing-clause-known : goal.returns-then-changes_nothing-clause-known
returns-then-changes_nothing-clause-known g c = held_rightly (g.K.Lookup.keeping c.args.keeper.now) (c.held-formed.ensures.formed c.marked-checks.ensures.checks)

pub returns-in-Err-clause-listed : goal.returns-in-Err-clause-listed
returns-in-Err-clause-listed g c = listed_by_test c.as_slice.result.now c.in_ok-plan.plan.after c.in-Err.fault c.in-Err.ensures.refused

pub returns-in-Err-clause-cause : goal.returns-in-Err-clause-cause
returns-in-Err-clause-cause g c = caused_by_test (g.K.Lookup.health c.args.keeper.now) (g.K.Lookup.health c.plan.new.keeper) c.as_slice.result.now c.in_ok-plan.plan.after c.in-Err.fault c.in_ok-plan.ensures.reads.cause.goes c.in-Err.ensures.refused

pub returns-in-Err-clause-known : goal.returns-in-Err-clause-known
returns-in-Err-clause-known g c = held_rightly (g.K.Lookup.keeping c.args.keeper.now) (c.held-formed.ensures.formed c.marked-checks.ensures.checks)

pub carry_out-requires-clause-made : goal.carry_out-requires-clause-made
carry_out-requires-clause-made g c =
    let ok = rw c.as_slice.ensures.value at c.in_default.ensures.ok in
    tested_may_be_written c.in_ok-plan.plan.writes.items ok.0 ok.1

pub returns-in_err-carry_out-clause-known : goal.returns-in_err-carry_out-clause-known
returns-in_err-carry_out-clause-known g c = held_rightly (g.K.Lookup.keeping c.args.keeper.now) (c.held-formed.ensures.formed c.marked-checks.ensures.checks)

pub returns-clause-known : goal.returns-clause-known
returns-clause-known g c = held_rightly (g.K.Lookup.keeping c.args.keeper.now) (c.held-formed.ensures.formed c.marked-checks.ensures.checks)

pub returns-clause-ok : goal.returns-clause-ok
returns-clause-ok g c =
    let k : Keeping = g.K.Lookup.keeping c.args.keeper.now in
    finished c.args.at c.of.result c.args.self k (g.K.Lookup.keeping c.carry_out.new.keeper) c.in_ok-plan.plan c.args.steps.now c.carry_out.new.steps
    (rw (to_z-of_z w64 c.args.at c.ranges.at) at c.of.ensures.at) (rw (to_z-of_z w64 c.args.at c.ranges.at) at c.of.ensures.second) c.requires.unmarked c.requires.held
    (c.held-formed.ensures.formed c.marked-checks.ensures.checks) (subst IsFitting c.self.view_is c.self.invariant).rows c.in_ok-plan.ensures.reads.told
    (λ nothing. true_false (sym (c.changes_nothing.ensures.1 nothing) ∙ c.if-changes_nothing.false))
    (c.in_ok-carry_out.ensures.ok ∙ ap (λ (j : Keeping). committed (head_set c.in_ok-plan.plan.after (all_written c.in_ok-plan.plan.writes.items (marked_here j)))) c.in_ok-plan.ensures.reads.same)
    (c.in_ok-carry_out.ensures.list ∙ ap (λ (b : Bool). steps_left b (step_in c.in_ok-plan.plan) c.args.steps.now) (ap (λ (o : Overlay). o.schema) c.self.view_is))

pub returns-then-changes_nothing-clause-refused : goal.returns-then-changes_nothing-clause-refused
returns-then-changes_nothing-clause-refused g c =
    answered_nothing c.args.at c.of.result c.args.self (g.K.Lookup.keeping c.args.keeper.now) c.in_ok-plan.plan
    (rw (to_z-of_z w64 c.args.at c.ranges.at) at c.of.ensures.at) (rw (to_z-of_z w64 c.args.at c.ranges.at) at c.of.ensures.second)
    (c.held-formed.ensures.formed c.marked-checks.ensures.checks) c.in_ok-plan.ensures.reads.told (c.changes_nothing.ensures.0 c.if-changes_nothing.true)

pub returns-in-Err-clause-refused : goal.returns-in-Err-clause-refused
returns-in-Err-clause-refused g c =
    answered_by_test c.args.at c.of.result c.args.self (g.K.Lookup.keeping c.args.keeper.now) c.in_ok-plan.plan c.in-Err.fault
    (rw (to_z-of_z w64 c.args.at c.ranges.at) at c.of.ensures.at) (rw (to_z-of_z w64 c.args.at c.ranges.at) at c.of.ensures.second)
    (c.held-formed.ensures.formed c.marked-checks.ensures.checks) (subst IsFitting c.self.view_is c.self.invariant).rows c.in_ok-plan.ensures.reads.told
    (λ nothing. true_false (sym (c.changes_nothing.ensures.1 nothing) ∙ c.if-changes_nothing.false)) c.in_ok-plan.ensures.range.before.schema
    (rw c.as_slice.ensures.value at c.in-Err.ensures.refused)

pub returns-clause-refused : goal.returns-clause-refused
returns-clause-refused g c =
    let ok = rw c.as_slice.ensures.value at c.in_default.ensures.ok in
    answered_ok c.args.at c.of.result c.args.self (g.K.Lookup.keeping c.args.keeper.now) c.in_ok-plan.plan
    (rw (to_z-of_z w64 c.args.at c.ranges.at) at c.of.ensures.at) (rw (to_z-of_z w64 c.args.at c.ranges.at) at c.of.ensures.second)
    (c.held-formed.ensures.formed c.marked-checks.ensures.checks) c.in_ok-plan.ensures.reads.told ok.0 ok.1 ok.2 ok.3
