use Rattle.std.specs.Prelude.{◌≡◌, IfErr, Result, None}
use Rattle.std.proofs.Common.{refl, sym, subst, ◌∙◌, inl}
use Rattle.ak_base.specs.declared.heads.Head.{Head}
use Rattle.ak_client.proofs.Clocks.{keep_of_greeting}
use Rattle.ak_client.proofs.Keeping.{keeper_cause}
use Rattle.ak_client.proofs.Testing.{below_last, ends_by_heads, ends_by_rows, exits, finds_told, heads_pass, passed, ready_where}
use Rattle.ak_client.specs.Endings.{IsOfGreeting}
use Rattle.ak_client.specs.Greetings.{EndsAtDevice, head_stop}
use Rattle.ak_client.specs.Outcomes.{outcome_at}
use Rattle.ak_client.specs.declared.outcomes.Outcome.{Outcome}
use Rattle.ak_exchange.proofs.Faults.{cause_ok, cause_passed, cause_unlike}
use Rattle.ak_exchange.specs.Stops.{keep_stop}
use Rattle.ak_faults.proofs.Healths.{cause_after, goes_further}
use Rattle.ak_keep.specs.Keepers.{Keeping, WhereTold}
use Rattle.ak_merge.specs.Soundness.{first_fault}
use Rattle.ak_client.proofs.greetings.test_device.Goals as goal

pub returns-in_err-head-clause-ends : goal.returns-in_err-head-clause-ends
returns-in_err-head-clause-ends g c =
    exits c.from_residual.result (outcome_at (keep_stop c.in_err-head.field-0.0)) (λ (r : Result Head Outcome). IfErr r (EndsAtDevice c.args.meta (g.K.Lookup.keeping c.args.keeper.now))) c.from_residual.ensures.1
    (inl (c.in_err-head.field-0.0, refl))

pub returns-in_err-head-clause-early : goal.returns-in_err-head-clause-early
returns-in_err-head-clause-early g c =
    exits c.from_residual.result (outcome_at (keep_stop c.in_err-head.field-0.0)) (λ (r : Result Head Outcome). IfErr r IsOfGreeting) c.from_residual.ensures.1 (keep_of_greeting c.in_err-head.field-0.0)

pub returns-in_err-head-clause-keeper : goal.returns-in_err-head-clause-keeper
returns-in_err-head-clause-keeper g c = keeper_cause _ _ c.in_err-head.ensures.reads.cause c.from_residual.ensures.1

pub returns-in_err-unchanged-clause-ends : goal.returns-in_err-unchanged-clause-ends
returns-in_err-unchanged-clause-ends g c =
    exits c.from_residual-in_err-unchanged.result (outcome_at (keep_stop c.in_err-unchanged.field-0.0)) (λ (r : Result Head Outcome). IfErr r (EndsAtDevice c.args.meta (g.K.Lookup.keeping c.args.keeper.now))) c.from_residual-in_err-unchanged.ensures.1
    (inl (c.in_err-unchanged.field-0.0, refl))

pub returns-in_err-unchanged-clause-early : goal.returns-in_err-unchanged-clause-early
returns-in_err-unchanged-clause-early g c =
    exits c.from_residual-in_err-unchanged.result (outcome_at (keep_stop c.in_err-unchanged.field-0.0)) (λ (r : Result Head Outcome). IfErr r IsOfGreeting) c.from_residual-in_err-unchanged.ensures.1 (keep_of_greeting c.in_err-unchanged.field-0.0)

pub returns-in_err-unchanged-clause-keeper : goal.returns-in_err-unchanged-clause-keeper
returns-in_err-unchanged-clause-keeper g c = cause_after c.in_ok-head.ensures.reads.cause.goes (keeper_cause _ _ c.in_err-unchanged.ensures.reads.cause c.from_residual-in_err-unchanged.ensures.1)

pub returns-in_err-test_heads-clause-ends : goal.returns-in_err-test_heads-clause-ends
returns-in_err-test_heads-clause-ends g c =
    exits c.from_residual-in_err-test_heads.result c.in_err-test_heads.field-0.0 (λ (r : Result Head Outcome). IfErr r (EndsAtDevice c.args.meta (g.K.Lookup.keeping c.args.keeper.now))) c.from_residual-in_err-test_heads.ensures.1
    (ends_by_heads (g.K.Lookup.keeping c.args.keeper.now) c.args.meta c.in_ok-head.head c.in_ok-unchanged.unchanged c.in_err-test_heads.field-0.0
    (finds_told (g.K.Lookup.keeping c.args.keeper.now) (g.K.Lookup.keeping c.head_of.new.keeper) c.args.meta c.in_ok-head.head c.in_ok-unchanged.unchanged c.in_ok-head.ensures.reads.same
    c.in_ok-head.ensures.reads.told c.in_ok-unchanged.ensures.known c.in_ok-unchanged.ensures.reads.told) c.in_err-test_heads.ensures.stop)

pub returns-in_err-test_heads-clause-keeper : goal.returns-in_err-test_heads-clause-keeper
returns-in_err-test_heads-clause-keeper g c = cause_passed {U = Unit {0}} _ _ (cause_unlike _ (goes_further c.in_ok-head.ensures.reads.cause.goes c.in_ok-unchanged.ensures.reads.cause.goes) c.in_err-test_heads.ensures.unkept) c.from_residual-in_err-test_heads.ensures.1

pub returns-in_err-test_rows-clause-ends : goal.returns-in_err-test_rows-clause-ends
returns-in_err-test_rows-clause-ends g c =
    exits c.from_residual-in_err-test_rows.result c.in_err-test_rows.field-0.0 (λ (r : Result Head Outcome). IfErr r (EndsAtDevice c.args.meta (g.K.Lookup.keeping c.args.keeper.now))) c.from_residual-in_err-test_rows.ensures.1
    (ends_by_rows (g.K.Lookup.keeping c.args.keeper.now) (g.K.Lookup.keeping c.is_unchanged.new.keeper) c.args.meta c.in_ok-head.head c.in_ok-unchanged.unchanged c.in_err-test_rows.field-0.0
    (c.in_ok-unchanged.ensures.reads.same ∙ c.in_ok-head.ensures.reads.same) (finds_told (g.K.Lookup.keeping c.args.keeper.now) (g.K.Lookup.keeping c.head_of.new.keeper) c.args.meta c.in_ok-head.head c.in_ok-unchanged.unchanged c.in_ok-head.ensures.reads.same
    c.in_ok-head.ensures.reads.told c.in_ok-unchanged.ensures.known c.in_ok-unchanged.ensures.reads.told)
    (passed (head_stop c.args.meta c.in_ok-head.head c.in_ok-unchanged.unchanged) (sym c.in_ok-test_heads.ensures.stop)) c.in_err-test_rows.ensures.fault)

pub returns-in_err-test_rows-clause-keeper : goal.returns-in_err-test_rows-clause-keeper
returns-in_err-test_rows-clause-keeper g c = cause_after (goes_further c.in_ok-head.ensures.reads.cause.goes c.in_ok-unchanged.ensures.reads.cause.goes) (cause_passed _ _ c.in_err-test_rows.ensures.keeper c.from_residual-in_err-test_rows.ensures.1)

pub returns-clause-ready : goal.returns-clause-ready
returns-clause-ready g c =
    ready_where (g.K.Lookup.keeping c.args.keeper.now) c.args.meta c.in_ok-head.head c.in_ok-unchanged.unchanged (passed (head_stop c.args.meta c.in_ok-head.head c.in_ok-unchanged.unchanged) (sym c.in_ok-test_heads.ensures.stop)) c.requires.usn
    (finds_told (g.K.Lookup.keeping c.args.keeper.now) (g.K.Lookup.keeping c.head_of.new.keeper) c.args.meta c.in_ok-head.head c.in_ok-unchanged.unchanged c.in_ok-head.ensures.reads.same
    c.in_ok-head.ensures.reads.told c.in_ok-unchanged.ensures.known c.in_ok-unchanged.ensures.reads.told)
    (subst (λ (k : Keeping). WhereTold k (λ h. first_fault h.rows ≡ None)) (c.in_ok-unchanged.ensures.reads.same ∙ c.in_ok-head.ensures.reads.same) c.in_ok-test_rows.ensures.sound)

pub returns-clause-number : goal.returns-clause-number
returns-clause-number g c = below_last c.args.meta.usn c.requires.usn (heads_pass c.args.meta c.in_ok-head.head c.in_ok-unchanged.unchanged (passed (head_stop c.args.meta c.in_ok-head.head c.in_ok-unchanged.unchanged) (sym c.in_ok-test_heads.ensures.stop))).1

pub returns-clause-keeper : goal.returns-clause-keeper
returns-clause-keeper g c = cause_ok _ (goes_further (goes_further c.in_ok-head.ensures.reads.cause.goes c.in_ok-unchanged.ensures.reads.cause.goes) c.in_ok-test_rows.ensures.keeper.goes)
