use Rattle.std.proofs.Common.{◌+◌, ◌≤◌, Bool, refl, subst, inl, arith, rules}
use Rattle.ak_exchange.proofs.Faults.{cause_ok, cause_passed, cause_unkept}
use Rattle.ak_exchange.proofs.Held.{received_more, received_once}
use Rattle.ak_exchange.proofs.Parts.{pulled_on, too_many_pulled}
use Rattle.ak_exchange.proofs.Passing.{advances_many, advances_more, advances_passed, advances_to, advances_then, at_start}
use Rattle.ak_exchange.proofs.Places.{after_changes, leads_on, none_pulled}
use Rattle.ak_exchange.specs.Loops.{HasPulledOne}
use Rattle.ak_exchange.specs.Phases.{at_end_of}
use Rattle.ak_faults.proofs.Healths.{cause_after, goes_further, goes_nowhere}
use Rattle.ak_keep.specs.Keepers.{back}
use Rattle.ak_sync_rows.proofs.Taking.{stays_marked}
use Rattle.ak_session.specs.Plans.{planned_changes}
use Rattle.ak_exchange.proofs.exchanges.pull.Goals as goal

pub loop-turn-init : goal.loop-turn-init
loop-turn-init g c = record {
  turned = record {
    leads = at_start _ _ _ _ _ _ _ _ _ _ tt (leads_on planned_changes after_changes)
        (λ own s account asked met_is at may. none_pulled own s asked (at.has.placed may)) refl refl refl refl;
    many = omega arith;
  };
  stays = record { marked = c.requires.marked; back = refl };
  took = received_once _ _;
  goes = goes_nowhere _;
}

pub returns-in_err-pull_chunk-clause-leads : goal.returns-in_err-pull_chunk-clause-leads
returns-in_err-pull_chunk-clause-leads g c =
    let less : c.loop-turn._turn + 1 ≤ 40000 = search rules in
    advances_more (c.loop-turn._turn + 1) 0 0 _ _ _ _ _ _ _ _ _ _ _ less (omega arith) (omega arith)
    (advances_passed _ _ _ _ _ _ _ _ _ _ _ _ _ c.from_residual.ensures.1
    (advances_then _ _ _ _ _ _ _ _ _ _ _ _ _ _ _ _ _ _ c.loop-turn.invariant.turned.leads (c.in_err-pull_chunk.ensures.leads c.loop-turn._turn).leads))

pub returns-in_err-pull_chunk-clause-stays : goal.returns-in_err-pull_chunk-clause-stays
returns-in_err-pull_chunk-clause-stays g c =
    stays_marked (back (g.K.Lookup.keeping c.args.keeper.now)) (g.K.Lookup.keeping c.loop-turn.keeper) (g.K.Lookup.keeping c.pull_chunk.new.keeper)
    c.loop-turn.invariant.stays c.in_err-pull_chunk.ensures.stays

pub returns-in_err-pull_chunk-clause-keeper : goal.returns-in_err-pull_chunk-clause-keeper
returns-in_err-pull_chunk-clause-keeper g c = cause_after c.loop-turn.invariant.goes (cause_passed _ _ c.in_err-pull_chunk.ensures.keeper c.from_residual.ensures.1)

pub returns-then-branch-clause-leads : goal.returns-then-branch-clause-leads
returns-then-branch-clause-leads g c =
    let less : c.loop-turn._turn + 1 ≤ 40000 = search rules in
    advances_more (c.loop-turn._turn + 1) 0 0 _ _ _ _ _ _ _ _ _ _ _ less (omega arith) (omega arith)
    (advances_then _ _ _ _ _ _ _ _ _ _ _ _ _ _ _ _ _ _ c.loop-turn.invariant.turned.leads
    (advances_to _ _ _ _ _ _ _ _ _ _ _ _ tt
    (λ own s asked may at. subst (λ (done : Bool). HasPulledOne c.loop-turn._turn done own s asked) c.if-branch.true at)
    (c.in_ok-pull_chunk.ensures.leads c.loop-turn._turn).leads))

pub returns-then-branch-clause-stays : goal.returns-then-branch-clause-stays
returns-then-branch-clause-stays g c =
    stays_marked (back (g.K.Lookup.keeping c.args.keeper.now)) (g.K.Lookup.keeping c.loop-turn.keeper) (g.K.Lookup.keeping c.pull_chunk.new.keeper)
    c.loop-turn.invariant.stays c.in_ok-pull_chunk.ensures.stays

pub returns-then-branch-clause-took : goal.returns-then-branch-clause-took
returns-then-branch-clause-took g c =
    received_more c.args.met.now.meta.usn (g.K.Lookup.keeping c.args.keeper.now) (g.K.Lookup.keeping c.loop-turn.keeper) (g.K.Lookup.keeping c.pull_chunk.new.keeper)
    c.loop-turn.invariant.took c.in_ok-pull_chunk.ensures.took

pub returns-then-branch-clause-keeper : goal.returns-then-branch-clause-keeper
returns-then-branch-clause-keeper g c = cause_ok _ (goes_further c.loop-turn.invariant.goes c.in_ok-pull_chunk.ensures.keeper.goes)

pub loop-turn-preserved : goal.loop-turn-preserved
loop-turn-preserved g c = record {
  turned = pulled_on c.loop-turn._turn (at_end_of planned_changes) c.args.met.now _ _ _ _ _ _ _ c.if-branch.false c.loop-turn.invariant.turned
      (c.in_ok-pull_chunk.ensures.leads c.loop-turn._turn);
  stays = stays_marked (back (g.K.Lookup.keeping c.args.keeper.now)) (g.K.Lookup.keeping c.loop-turn.keeper) (g.K.Lookup.keeping c.pull_chunk.new.keeper)
      c.loop-turn.invariant.stays c.in_ok-pull_chunk.ensures.stays;
  took = received_more c.args.met.now.meta.usn (g.K.Lookup.keeping c.args.keeper.now) (g.K.Lookup.keeping c.loop-turn.keeper) (g.K.Lookup.keeping c.pull_chunk.new.keeper)
      c.loop-turn.invariant.took c.in_ok-pull_chunk.ensures.took;
  goes = goes_further c.loop-turn.invariant.goes c.in_ok-pull_chunk.ensures.keeper.goes;
}

pub returns-clause-leads : goal.returns-clause-leads
returns-clause-leads g c =
    let most = c.loop-turn.auto._turn-end in
    let least = c.loop-turn-test.false in
    let counted = c.loop-turn.invariant.turned.many in
    advances_more c.loop-turn._turn 0 0 _ _ _ _ _ _ _ _ _ _ _ most (omega arith) (omega arith)
    (advances_many _ _ _ _ _ _ _ _ _ _ _ _ _ c.loop-turn.invariant.turned.leads (inl (omega (arith, counted, least)))
    (too_many_pulled c.loop-turn._turn _ _ (omega (arith, least))) refl)

pub returns-clause-keeper : goal.returns-clause-keeper
returns-clause-keeper g c = cause_unkept _ c.loop-turn.invariant.goes refl
