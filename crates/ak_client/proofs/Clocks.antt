-- What a sync takes of its clock, and what it leaves on the device, by how it ends.
use Rattle.std.specs.Prelude.{◌≡◌, ℕ, zero, suc, ◌≤◌, ℤ, Bool, true, false, List, Option, Some, None}
use Rattle.std.proofs.Common.{refl, sym, ap, subst, ◌∙◌, inl, arith}
use Rattle.std.proofs.lemmas.Option.{none-some, same_Some}
use Rattle.ak_client.specs.Endings.{IsOfGreeting}
use Rattle.ak_client.specs.Outcomes.{changes_device, is_told_by_meta, outcome_at}
use Rattle.ak_client.specs.Syncs.{EndsAt, HasGiven, HasRaised, IsFairEnd, KeepsDevice, TakesMoments, ends_before_finish, fewest_moments, most_moments}
use Rattle.ak_client.specs.declared.outcomes.Outcome.{Outcome}
use Rattle.ak_client.specs.declared.outcomes.Outcome.TheVariants as outcomes
use Rattle.ak_client_wire.specs.Wires.{WireKind, WireState}
use Rattle.ak_client_wire.specs.declared.asks.Unanswered.{Unanswered}
use Rattle.ak_client_wire.specs.declared.asks.Unanswered.TheVariants as unanswered
use Rattle.ak_exchange.specs.Asked.{TriedAsk}
use Rattle.ak_exchange.specs.Grants.{AllGranted, AreTooMany, StopsFor}
use Rattle.ak_exchange.specs.Phases.{IsFairStop}
use Rattle.ak_exchange.specs.Stops.{comes_before_finish, keep_stop, shows_bad_check, wire_stop}
use Rattle.ak_exchange.specs.declared.stops.Stop.{Stop}
use Rattle.ak_exchange.specs.declared.stops.Stop.TheVariants as stops
use Rattle.ak_keep.specs.Collections.{Collection}
use Rattle.ak_keep.specs.Keepers.{Keeping}
use Rattle.ak_keep.specs.declared.keepers.KeepFault.{KeepFault}
use Rattle.ak_keep.specs.declared.keepers.KeepFault.TheVariants as faults
use Rattle.ak_protocol.proofs.Commits.{not_both}

-- ---- outcomes of stops
-- the stop that an outcome comes of, if there is one
abbrev stop_of : Outcome → Option Stop
stop_of (outcomes.BadRow fault) = Some (stops.BadRow fault)
stop_of (outcomes.BadCounts client server) = Some (stops.BadCounts client server)
stop_of (outcomes.Refused status word seen) = Some (stops.Refused status word seen)
stop_of outcomes.Lost = Some stops.Lost
stop_of outcomes.BadReply = Some stops.BadReply
stop_of outcomes.TooManyChunks = Some stops.TooManyChunks
stop_of outcomes.Keep = Some stops.Keep
stop_of outcomes.Memory = Some stops.Memory
stop_of outcome = None

stop_is : (stop : Stop) → stop_of (outcome_at stop) ≡ Some stop
stop_is (stops.BadRow fault) = refl
stop_is (stops.BadCounts client server) = refl
stop_is (stops.Refused status word seen) = refl
stop_is stops.Lost = refl
stop_is stops.BadReply = refl
stop_is stops.TooManyChunks = refl
stop_is stops.Keep = refl
stop_is stops.Memory = refl

-- an outcome comes of one stop alone
pub same_stop : (one other : Stop) → outcome_at one ≡ outcome_at other → one ≡ other
same_stop one other is = same_Some one other (sym (stop_is one) ∙ ap stop_of is ∙ stop_is other)

-- a sync whose exchange stopped did not finish
pub not_finished : (stop : Stop) → outcome_at stop ≡ outcomes.Finished → ⊥
not_finished stop is = none-some stop (sym (ap stop_of is) ∙ stop_is stop)

-- nor does it end for what its meta told
pub stop_told : (stop : Stop) → is_told_by_meta (outcome_at stop) ≡ false
stop_told (stops.BadRow fault) = refl
stop_told (stops.BadCounts client server) = refl
stop_told (stops.Refused status word seen) = refl
stop_told stops.Lost = refl
stop_told stops.BadReply = refl
stop_told stops.TooManyChunks = refl
stop_told stops.Keep = refl
stop_told stops.Memory = refl

-- it changes the device after a bad sanity check alone
stop_changes : (stop : Stop) → changes_device (outcome_at stop) ≡ shows_bad_check stop
stop_changes (stops.BadRow fault) = refl
stop_changes (stops.BadCounts client server) = refl
stop_changes (stops.Refused status word seen) = refl
stop_changes stops.Lost = refl
stop_changes stops.BadReply = refl
stop_changes stops.TooManyChunks = refl
stop_changes stops.Keep = refl
stop_changes stops.Memory = refl

-- one that stopped at its finish did not end before it
pub not_early : (stop : Stop) → comes_before_finish stop ≡ false → ends_before_finish (outcome_at stop) ≡ true → ⊥
not_early (stops.BadRow fault) late early = not_both refl late
not_early (stops.BadCounts client server) late early = not_both refl late
not_early (stops.Refused status word seen) late early = not_both early refl
not_early stops.Lost late early = not_both early refl
not_early stops.BadReply late early = not_both early refl
not_early stops.TooManyChunks late early = not_both refl late
not_early stops.Keep late early = not_both refl late
not_early stops.Memory late early = not_both early refl

pub fault_not_early : (fault : KeepFault) → ends_before_finish (outcome_at (keep_stop fault)) ≡ true → ⊥
fault_not_early faults.Failed early = not_both early refl
fault_not_early faults.Memory early = not_both early refl

-- a sync that leaves the device as it was is not finished
pub unchanged_unfinished : (outcome : Outcome) → changes_device outcome ≡ false → outcome ≡ outcomes.Finished → ⊥
unchanged_unfinished outcome unchanged is = not_both (ap changes_device is) unchanged

-- ---- what was tried last
module _ {kind : WireKind} (tries : List TriedAsk) (now : WireState kind) where
  pub stop_ends : (stop : Stop) → StopsFor tries now stop → EndsAt tries now (outcome_at stop)
  stop_ends (stops.BadRow fault) is = is
  stop_ends (stops.BadCounts client server) is = is
  stop_ends (stops.Refused status word seen) is = is
  stop_ends stops.Lost is = is
  stop_ends stops.BadReply is = is
  stop_ends stops.TooManyChunks is = is
  stop_ends stops.Keep is = is
  stop_ends stops.Memory is = is

  pub fault_ends : (fault : KeepFault) → AllGranted tries → EndsAt tries now (outcome_at (keep_stop fault))
  fault_ends faults.Failed all = all
  fault_ends faults.Memory all = inl all

  -- what the meta tells does not show in what was tried
  pub told_ends : (outcome : Outcome) → is_told_by_meta outcome ≡ true → EndsAt tries now outcome
  told_ends outcomes.Finished told = tt
  told_ends outcomes.NoChanges told = tt
  told_ends (outcomes.FullSchema device server) told = tt
  told_ends (outcomes.FullSequence usn) told = tt
  told_ends (outcomes.BadRow fault) told = absurd (not_both told refl)
  told_ends (outcomes.BadCounts client server) told = absurd (not_both told refl)
  told_ends (outcomes.ClockOff device server) told = tt
  told_ends (outcomes.OwnCheck fault) told = tt
  told_ends outcomes.Stopped told = tt
  told_ends (outcomes.Refused status word seen) told = absurd (not_both told refl)
  told_ends outcomes.Lost told = absurd (not_both told refl)
  told_ends outcomes.BadReply told = absurd (not_both told refl)
  told_ends outcomes.TooManyChunks told = absurd (not_both told refl)
  told_ends outcomes.Keep told = absurd (not_both told refl)
  told_ends outcomes.Memory told = absurd (not_both told refl)

-- ---- fair ends
module _ (c s : Collection) where
  -- of a stop that is fair
  pub stop_fair : (stop : Stop) → IsFairStop c s stop → IsFairEnd c s (outcome_at stop)
  stop_fair stop fair = λ other is. subst (IsFairStop c s) (same_stop stop other is) fair

  pub fault_fair : (fault : KeepFault) → IsFairEnd c s (outcome_at (keep_stop fault))
  fault_fair faults.Failed = stop_fair stops.Keep tt
  fault_fair faults.Memory = stop_fair stops.Memory tt

  -- of no stop
  pub finished_fair : IsFairEnd c s outcomes.Finished
  finished_fair = λ stop is. absurd (not_finished stop (sym is))

  -- one that leaves the device as it was, and did not ask for too many chunks
  pub good_end : {kind : WireKind} (outcome : Outcome) (tries : List TriedAsk) (now : WireState kind) → changes_device outcome ≡ false → (AreTooMany tries → ⊥)
      → EndsAt tries now outcome → IsFairEnd c s outcome
  good_end {kind} outcome tries now unchanged few ends = by
    where
      by : (stop : Stop) → outcome ≡ outcome_at stop → IsFairStop c s stop
      by (stops.BadRow fault) is = absurd (not_both (ap changes_device is) unchanged)
      by (stops.BadCounts client server) is = absurd (not_both (ap changes_device is) unchanged)
      by (stops.Refused status word seen) is = tt
      by stops.Lost is = tt
      by stops.BadReply is = tt
      by stops.TooManyChunks is = absurd (few (subst (EndsAt tries now) is ends))
      by stops.Keep is = tt
      by stops.Memory is = tt

  pub late_fair : (stop : Stop) → comes_before_finish stop ≡ false → IsFairStop c s stop
  late_fair (stops.BadRow fault) late = absurd (not_both refl late)
  late_fair (stops.BadCounts client server) late = absurd (not_both refl late)
  late_fair (stops.Refused status word seen) late = tt
  late_fair stops.Lost late = tt
  late_fair stops.BadReply late = tt
  late_fair stops.TooManyChunks late = absurd (not_both refl late)
  late_fair stops.Keep late = tt
  late_fair stops.Memory late = tt

-- ---- the clock
given_more : (n : ℕ) (old mid new : Option (List ℤ)) → HasGiven 1 old mid → HasGiven n mid new → HasGiven (suc n) old new
given_more zero old mid new one same = subst (λ (o : Option (List ℤ)). HasGiven 1 old o) (sym same) one
given_more (suc n) old mid new one more = (more.0, (mid, one.0, one.1, more.1))

-- after the clocks' test
pub takes_more : (old mid new : Option (List ℤ)) (outcome : Outcome) → HasGiven 1 old mid → TakesMoments 1 mid new outcome → TakesMoments 0 old new outcome
takes_more old mid new outcome one more =
    let least = more.least in let most = more.most in
    record {
      count = suc more.count;
      least = omega (arith, least);
      most = omega (arith, most);
      given = given_more more.count old mid new one more.given;
    }

pub greeting_takes : (outcome : Outcome) (old new : Option (List ℤ)) → IsOfGreeting outcome → HasGiven 1 old new → TakesMoments 0 old new outcome
greeting_takes outcome old new may one =
    let least = may.least in let most = may.most in
    record { count = 1; least = omega (arith, least); most = omega (arith, most); given = one }

pub keep_of_greeting : (fault : KeepFault) → IsOfGreeting (outcome_at (keep_stop fault))
keep_of_greeting faults.Failed = record { least = omega arith; most = omega arith; unchanged = refl }
keep_of_greeting faults.Memory = record { least = omega arith; most = omega arith; unchanged = refl }

-- a meta that is not granted takes none
pub unanswered_takes : (why : Unanswered) (old : Option (List ℤ)) → TakesMoments 0 old old (outcome_at (wire_stop why))
unanswered_takes unanswered.Lost old = record { count = 0; least = omega arith; most = omega arith; given = refl }
unanswered_takes unanswered.BadReply old = record { count = 0; least = omega arith; most = omega arith; given = refl }
unanswered_takes (unanswered.Refused status word seen) old = record { count = 0; least = omega arith; most = omega arith; given = refl }
unanswered_takes unanswered.Memory old = record { count = 0; least = omega arith; most = omega arith; given = refl }

-- a request that is not granted shows no bad sanity check
pub unanswered_good : (why : Unanswered) → shows_bad_check (wire_stop why) ≡ false
unanswered_good unanswered.Lost = refl
unanswered_good unanswered.BadReply = refl
unanswered_good (unanswered.Refused status word seen) = refl
unanswered_good unanswered.Memory = refl

-- so it leaves the device as it was
pub unanswered_unchanged : (why : Unanswered) → changes_device (outcome_at (wire_stop why)) ≡ false
unanswered_unchanged why = stop_changes (wire_stop why) ∙ unanswered_good why

few_moments : (stop : Stop) → shows_bad_check stop ≡ false → fewest_moments (outcome_at stop) ≤ 1
few_moments (stops.BadRow fault) good = absurd (not_both refl good)
few_moments (stops.BadCounts client server) good = absurd (not_both refl good)
few_moments (stops.Refused status word seen) good = omega arith
few_moments stops.Lost good = omega arith
few_moments stops.BadReply good = omega arith
few_moments stops.TooManyChunks good = omega arith
few_moments stops.Keep good = omega arith
few_moments stops.Memory good = omega arith

one_moment : (stop : Stop) → 1 ≤ most_moments (outcome_at stop)
one_moment (stops.BadRow fault) = omega arith
one_moment (stops.BadCounts client server) = omega arith
one_moment (stops.Refused status word seen) = omega arith
one_moment stops.Lost = omega arith
one_moment stops.BadReply = omega arith
one_moment stops.TooManyChunks = omega arith
one_moment stops.Keep = omega arith
one_moment stops.Memory = omega arith

-- a stop that is no bad sanity check takes no more
pub stop_takes : (stop : Stop) (old : Option (List ℤ)) → shows_bad_check stop ≡ false → TakesMoments 1 old old (outcome_at stop)
stop_takes stop old good =
    let least = few_moments stop good in let most = one_moment stop in
    record { count = 0; least = omega (arith, least); most = omega (arith, most); given = refl }

-- a bad one takes another, and so may what the keeper refuses after it
pub bad_takes : (stop : Stop) (old new : Option (List ℤ)) → shows_bad_check stop ≡ true → HasGiven 1 old new → TakesMoments 1 old new (outcome_at stop)
bad_takes (stops.BadRow fault) old new bad one = record { count = 1; least = omega arith; most = omega arith; given = one }
bad_takes (stops.BadCounts client server) old new bad one = record { count = 1; least = omega arith; most = omega arith; given = one }
bad_takes (stops.Refused status word seen) old new bad one = absurd (not_both bad refl)
bad_takes stops.Lost old new bad one = absurd (not_both bad refl)
bad_takes stops.BadReply old new bad one = absurd (not_both bad refl)
bad_takes stops.TooManyChunks old new bad one = absurd (not_both bad refl)
bad_takes stops.Keep old new bad one = absurd (not_both bad refl)
bad_takes stops.Memory old new bad one = absurd (not_both bad refl)

pub fault_takes : (fault : KeepFault) (n : ℕ) (old new : Option (List ℤ)) → n ≤ 1 → HasGiven n old new → TakesMoments 1 old new (outcome_at (keep_stop fault))
fault_takes faults.Failed n old new few given = record { count = n; least = omega (arith, few); most = omega (arith, few); given = given }
fault_takes faults.Memory n old new few given = record { count = n; least = omega (arith, few); most = omega (arith, few); given = given }

-- ---- the device
module _ (earlier : ℕ) (before left : Keeping) (old new : Option (List ℤ)) where
  -- an outcome that leaves it as it was
  pub unchanged_keeps : (outcome : Outcome) → changes_device outcome ≡ false → left ≡ before → KeepsDevice earlier before left old new outcome
  unchanged_keeps outcomes.Finished unchanged same = absurd (not_both refl unchanged)
  unchanged_keeps outcomes.NoChanges unchanged same = same
  unchanged_keeps (outcomes.FullSchema device server) unchanged same = same
  unchanged_keeps (outcomes.FullSequence usn) unchanged same = same
  unchanged_keeps (outcomes.BadRow fault) unchanged same = absurd (not_both refl unchanged)
  unchanged_keeps (outcomes.BadCounts client server) unchanged same = absurd (not_both refl unchanged)
  unchanged_keeps (outcomes.ClockOff device server) unchanged same = same
  unchanged_keeps (outcomes.OwnCheck fault) unchanged same = same
  unchanged_keeps outcomes.Stopped unchanged same = same
  unchanged_keeps (outcomes.Refused status word seen) unchanged same = same
  unchanged_keeps outcomes.Lost unchanged same = same
  unchanged_keeps outcomes.BadReply unchanged same = same
  unchanged_keeps outcomes.TooManyChunks unchanged same = same
  unchanged_keeps outcomes.Keep unchanged same = same
  unchanged_keeps outcomes.Memory unchanged same = same

  pub stop_keeps : (stop : Stop) → shows_bad_check stop ≡ false → left ≡ before → KeepsDevice earlier before left old new (outcome_at stop)
  stop_keeps stop good same = unchanged_keeps (outcome_at stop) (stop_changes stop ∙ good) same

  pub bad_keeps : (stop : Stop) → shows_bad_check stop ≡ true → HasRaised earlier before left old new → KeepsDevice earlier before left old new (outcome_at stop)
  bad_keeps (stops.BadRow fault) bad raised = raised
  bad_keeps (stops.BadCounts client server) bad raised = raised
  bad_keeps (stops.Refused status word seen) bad raised = absurd (not_both bad refl)
  bad_keeps stops.Lost bad raised = absurd (not_both bad refl)
  bad_keeps stops.BadReply bad raised = absurd (not_both bad refl)
  bad_keeps stops.TooManyChunks bad raised = absurd (not_both bad refl)
  bad_keeps stops.Keep bad raised = absurd (not_both bad refl)
  bad_keeps stops.Memory bad raised = absurd (not_both bad refl)

  pub fault_keeps : (fault : KeepFault) → left ≡ before → KeepsDevice earlier before left old new (outcome_at (keep_stop fault))
  fault_keeps faults.Failed same = same
  fault_keeps faults.Memory same = same

raised_more : (before left : Keeping) (old mid new : Option (List ℤ)) → HasGiven 1 old mid → HasRaised 0 before left mid new → HasRaised 1 before left old new
raised_more before left old mid new one raised = record {
  at = raised.at;
  given = (mid, one.0, one.1, raised.given);
  moment = raised.moment;
  raises = raised.raises;
}

-- after the clocks' test
pub keeps_more : (before left : Keeping) (old mid new : Option (List ℤ)) (outcome : Outcome) → HasGiven 1 old mid
    → KeepsDevice 0 before left mid new outcome → KeepsDevice 1 before left old new outcome
keeps_more before left old mid new outcomes.Finished one keeps = keeps
keeps_more before left old mid new outcomes.NoChanges one keeps = keeps
keeps_more before left old mid new (outcomes.FullSchema device server) one keeps = keeps
keeps_more before left old mid new (outcomes.FullSequence usn) one keeps = keeps
keeps_more before left old mid new (outcomes.BadRow fault) one keeps = raised_more before left old mid new one keeps
keeps_more before left old mid new (outcomes.BadCounts client server) one keeps = raised_more before left old mid new one keeps
keeps_more before left old mid new (outcomes.ClockOff device server) one keeps = keeps
keeps_more before left old mid new (outcomes.OwnCheck fault) one keeps = keeps
keeps_more before left old mid new outcomes.Stopped one keeps = keeps
keeps_more before left old mid new (outcomes.Refused status word seen) one keeps = keeps
keeps_more before left old mid new outcomes.Lost one keeps = keeps
keeps_more before left old mid new outcomes.BadReply one keeps = keeps
keeps_more before left old mid new outcomes.TooManyChunks one keeps = keeps
keeps_more before left old mid new outcomes.Keep one keeps = keeps
keeps_more before left old mid new outcomes.Memory one keeps = keeps
