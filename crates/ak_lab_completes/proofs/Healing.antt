-- What the sync after one that did not finish leaves: the join of what was held before both, or that itself.
use Rattle.std.specs.Option.{option_map}
use Rattle.std.specs.Cmp.{signed_Decides}
use Rattle.std.specs.Ordering.{int_eq}
use Rattle.std.specs.Prelude.{◌≡◌, ◌≢◌, ◌⊎◌, ◌&&◌, ◌+ℤ◌, ◌<ℤ◌, ℕ, suc, ℤ, Bool, true, false, not, List, Some}
use Rattle.std.proofs.Common.{refl, sym, ap, subst, ◌∙◌, inl, inr, arith}
use Rattle.std.proofs.lemmas.Int.{ints}
use Rattle.std.proofs.lemmas.Option.{same_Some}
use Rattle.ak_client.proofs.Healing.{joined_once}
use Rattle.ak_client.specs.Unsent.{has_unsent}
use Rattle.ak_client.specs.declared.outcomes.Outcome.{Outcome}
use Rattle.ak_client.specs.declared.outcomes.Outcome.TheVariants as outcomes
use Rattle.ak_faults.specs.Causes.{one_more}
use Rattle.ak_keep.specs.Collections.{Collection}
use Rattle.ak_lab.specs.LabStates.{LabState, at_line}
use Rattle.ak_lab.specs.LabSyncs.{EndsSync}
use Rattle.ak_lab_completes.specs.LabCompleting.{BeginsLeftAlone, EndedUnfinished, EndsAndLeaves, EndsWithTheirJoin, HasRoomOnceMore, HoldsTheirJoin, LabEndsWith, SidesHold}
use Rattle.ak_lab_devices.specs.Devices.{device_of}
use Rattle.ak_lab_devices.specs.RestingKeepers.{Holds}
use Rattle.ak_lab_devices.specs.declared.devices.Device.{Device}
use Rattle.ak_lab_joins.specs.LabJoins.{DeviceHolds, Finishes, HasFreshCheck, HasSession, IsLinkedLab, IsLinkedServer, JoinsSides, KeepsSides, MayHoldJoin, PlansNothing, StillCommits, StillHolds, committed_of, ends_at_check, lab_world, world_in}
use Rattle.ak_lab_wires.specs.LabSessions.{lab_host}
use Rattle.ak_merge.proofs.ContentLaws.{content-through, content-turned, sound_by_content}
use Rattle.ak_merge.proofs.JoinLaws.{join_once}
use Rattle.ak_merge.specs.Exchanges.{HoldsJoin}
use Rattle.ak_merge.specs.Holdings.{SameContent, content_of, row_under}
use Rattle.ak_merge.specs.Joins.{join, joined_under}
use Rattle.ak_protocol.proofs.Commits.{not_both}
use Rattle.ak_protocol.proofs.Isolation.{logs_part}
use Rattle.ak_protocol.specs.Accounts.{AccountState}
use Rattle.ak_protocol.specs.Logs.{Log, World, events_of, opened, world_after}
use Rattle.ak_sync_completes.specs.Completing.{AreJoinable, have_nothing_to_sync}
use Rattle.ak_sync_in_memory.specs.Copies.{committed_in, committed_under}
use Rattle.ak_sync_in_memory.specs.Entries.{LoggedState, log_in, server_of}

-- ---- laws of others
abbrev pub FinishedJoins : Type 0
FinishedJoins = (account : AccountState) (name : List ℕ) (s t : LabState) (crossed : List (List ℕ)) → IsLinkedLab account s → HasSession s → PlansNothing name s
    → EndsSync name s t crossed outcomes.Finished → Finishes account name s t

abbrev pub OthersKeep : Type 0
OthersKeep = (account : AccountState) (name : List ℕ) (s t : LabState) (crossed : List (List ℕ)) (outcome : Outcome) → IsLinkedLab account s → HasSession s → PlansNothing name s
    → outcome ≢ outcomes.Finished → outcome ≢ outcomes.Memory → EndsSync name s t crossed outcome → HasFreshCheck account name s t outcome
    → KeepsSides account name s t outcome

-- ---- what is committed
-- the collection that a linked server committed is that of its account
pub committed_is : (account : AccountState) (sessions : ℕ) (server : LoggedState) → IsLinkedServer lab_host account sessions server
    → committed_in server ≡ Some (world_in lab_host account server).state.committed
committed_is account sessions server linked =
    let log : Log = log_in server in
    ap (λ (host : List ℕ). committed_under host (server_of log)) linked.host_is
    ∙ ap (option_map (λ (s : AccountState). s.committed)) (logs_part log.opening log.events lab_host
    ∙ ap (option_map (λ (s : AccountState). (world_after (opened s) (events_of lab_host log.events)).state)) (linked.unused (suc sessions) (omega arith)).opening)

-- ---- after a sync that did not finish
-- what is committed is what was, or the join of that and this collection
abbrev KeptOrJoined : Collection → World → World → Type 0
KeptOrJoined c before after = (after.state.committed ≡ before.state.committed) ⊎ HoldsJoin c before.state.committed after.state.committed

kept_or_held : (key : ℕ) (c : Collection) (before after : World) → MayHoldJoin key c before after → KeptOrJoined c before after
kept_or_held key c before after (inl kept) = inl kept.0
kept_or_held key c before after (inr joined) = inr joined.1

kept_or_joined : (key : ℕ) (c : Collection) (before after : World) (o : Outcome) → StillCommits key c before after o → KeptOrJoined c before after
kept_or_joined key c before after outcomes.Finished kept = inl kept.0
kept_or_joined key c before after outcomes.NoChanges kept = inl kept.0
kept_or_joined key c before after (outcomes.FullSchema device server) kept = inl kept.0
kept_or_joined key c before after (outcomes.FullSequence usn) kept = inl kept.0
kept_or_joined key c before after (outcomes.BadRow fault) kept = inl kept.0
kept_or_joined key c before after (outcomes.BadCounts client server) kept = inl kept.0
kept_or_joined key c before after (outcomes.ClockOff device server) kept = inl kept.0
kept_or_joined key c before after (outcomes.OwnCheck fault) kept = inl kept.0
kept_or_joined key c before after outcomes.Stopped kept = inl kept.0
kept_or_joined key c before after (outcomes.Refused status word seen) may = kept_or_held key c before after may
kept_or_joined key c before after outcomes.Lost may = kept_or_held key c before after may
kept_or_joined key c before after outcomes.BadReply may = kept_or_held key c before after may
kept_or_joined key c before after outcomes.TooManyChunks kept = inl kept.0
kept_or_joined key c before after outcomes.Keep may = kept_or_held key c before after may
kept_or_joined key c before after outcomes.Memory kept = inl kept.0

-- the device holds what it held, unless the sanity check was bad
pub still_held : (at : ℤ) (c : Collection) (d : Device) (o : Outcome) → ends_at_check o ≡ false → StillHolds at c o d → Holds d.collection c
still_held at c d (outcomes.BadRow fault) checked holds = absurd (not_both refl checked)
still_held at c d (outcomes.BadCounts client server) checked holds = absurd (not_both refl checked)
still_held at c d outcomes.Finished checked holds = holds
still_held at c d outcomes.NoChanges checked holds = holds
still_held at c d (outcomes.FullSchema device server) checked holds = holds
still_held at c d (outcomes.FullSequence usn) checked holds = holds
still_held at c d (outcomes.ClockOff device server) checked holds = holds
still_held at c d (outcomes.OwnCheck fault) checked holds = holds
still_held at c d outcomes.Stopped checked holds = holds
still_held at c d (outcomes.Refused status word seen) checked holds = holds
still_held at c d outcomes.Lost checked holds = holds
still_held at c d outcomes.BadReply checked holds = holds
still_held at c d outcomes.TooManyChunks checked holds = holds
still_held at c d outcomes.Keep checked holds = holds
still_held at c d outcomes.Memory checked holds = holds

-- ---- the moments
-- two collections between which there is nothing to sync have one moment
same_moment : (x y : Collection) → have_nothing_to_sync x y ≡ true → x.head.moment ≡ y.head.moment
same_moment x y nothing = by (int_eq x.head.moment y.head.moment) refl nothing
  where
    by : (b : Bool) → int_eq x.head.moment y.head.moment ≡ b
        → ((b && int_eq x.head.schema y.head.schema && int_eq x.head.usn y.head.usn) && not (has_unsent x.rows x.head.tags)) ≡ true → x.head.moment ≡ y.head.moment
    by true is all = (signed_Decides x.head.moment y.head.moment).0 is
    by false is all = absurd (not_both all refl)

never_past : (a b : ℤ) → a <ℤ b → a ≡ b → ⊥
never_past a b past same = omega (arith, ints, past, same)

-- if one was changed after the other, there is something to sync
differs : (x y : Collection) → x.head.moment <ℤ y.head.moment → have_nothing_to_sync x y ≡ false
differs x y past = by (have_nothing_to_sync x y) refl
  where
    by : (b : Bool) → have_nothing_to_sync x y ≡ b → have_nothing_to_sync x y ≡ false
    by true is = absurd (never_past x.head.moment y.head.moment past (same_moment x y is))
    by false is = is

-- ---- a join is joined again
pub stays_joinable : (c s now : Collection) → AreJoinable c s → HoldsJoin c s now → HasRoomOnceMore c now → AreJoinable c now
stays_joinable c s now joinable joined more =
    let once : SameContent (join c now) (join c s) =
    content-through (join c now) (content_of now) (join c s) (join_once c s now joined.content joined.past_device) joined.content in
    record {
      formed = joinable.formed;
      schema = more.schema;
      differ = differs c now joined.past_device;
      room = more.room;
      sound = joinable.sound;
      joins = sound_by_content (joined_under (row_under c) (row_under s)) (joined_under (row_under c) (row_under now))
          (content-turned (join c now) (join c s) once).rows joinable.joins;
      pulled = more.pulled;
      pushed = joinable.pushed;
    }

-- whether an outcome tells that both sides are as they were, because the two collections stopped the sync at its meta
abbrev is_quiet : Outcome → Bool
is_quiet outcomes.NoChanges = true
is_quiet (outcomes.FullSchema device server) = true
is_quiet outcome = false

-- ---- the first
module _ (account : AccountState) (name : List ℕ) (s t : LabState) (c : Collection) (first : Outcome) (unfinished : EndedUnfinished account name c s t first)
    (others_keep : OthersKeep) where
  pub sides : KeepsSides account name s t first
  sides =
      others_keep account name s t unfinished.crossed first unfinished.linked unfinished.room unfinished.uncrossed unfinished.unfinished unfinished.enough
      unfinished.ended (λ bad. absurd (not_both bad unfinished.checked))

  -- what the device held before it
  was_held : sides.c ≡ c
  was_held = same_Some sides.c c (sym (sides.held unfinished.held.0 unfinished.held.1) ∙ unfinished.held.2)

  -- it holds that after it
  pub holds_still : (d : Device) → device_of name t.devices ≡ Some d → Holds d.collection c
  holds_still d found =
      subst (λ (x : Collection). Holds d.collection x) was_held
      (still_held (s.clock +ℤ d.shift) sides.c d first unfinished.checked (sides.device d found))

  -- what is committed after it is what was, or the join
  pub then_committed : KeptOrJoined c (lab_world account s) (lab_world account t)
  then_committed =
      subst (λ (x : Collection). KeptOrJoined x (lab_world account s) (lab_world account t)) was_held
      (kept_or_joined (one_more s.sessions) sides.c (lab_world account s) (lab_world account t) first sides.server)

  -- so they may be joined then, if they could before it
  pub joinable_then : ((c s now : Collection) → AreJoinable c s → HoldsJoin c s now → HasRoomOnceMore c now → AreJoinable c now)
      → AreJoinable c (committed_of account s) → HasRoomOnceMore c (committed_of account t) → AreJoinable c (committed_of account t)
  joinable_then stays joinable more = by then_committed
    where
      by : KeptOrJoined c (lab_world account s) (lab_world account t) → AreJoinable c (committed_of account t)
      by (inl kept) = subst (AreJoinable c) (sym kept) joinable
      by (inr joined) = stays c (committed_of account s) (committed_of account t) joinable joined more

-- ---- the two syncs
module _ (account : AccountState) (name : List ℕ) (s t u : LabState) (number : ℕ) (c d : Collection) (again : List (List ℕ)) (first : Outcome)
    (unfinished : EndedUnfinished account name c s t first) (begins : BeginsLeftAlone account name (at_line number t) d)
    (others_keep : OthersKeep) where
  -- the device holds before the second what it held before the first
  same_device : d ≡ c
  same_device =
      same_Some d c
      (sym begins.holds.2 ∙ holds_still account name s t c first unfinished others_keep begins.holds.0 begins.holds.1)

  committed_then : KeptOrJoined c (lab_world account s) (lab_world account t)
  committed_then = then_committed account name s t c first unfinished others_keep

  -- ---- the second is finished
  module _ (joins_all : FinishedJoins) (ended : EndsSync name (at_line number t) u again outcomes.Finished) where
    finishes : Finishes account name (at_line number t) u
    finishes = joins_all account name (at_line number t) u again begins.linked begins.goes.room begins.goes.plans ended

    abbrev sides_now : JoinsSides name (at_line number t) u
    sides_now = finishes.joins

    device_is : sides_now.device ≡ d
    device_is = same_Some sides_now.device d (sym (sides_now.held begins.holds.0 begins.holds.1) ∙ begins.holds.2)

    server_is : sides_now.server ≡ committed_of account t
    server_is =
        same_Some sides_now.server (committed_of account t)
        (sym sides_now.committed ∙ committed_is account t.sessions (at_line number t).server begins.linked.server)

    server_now_is : sides_now.server_now ≡ committed_of account u
    server_now_is =
        same_Some sides_now.server_now (committed_of account u)
        (sym sides_now.committed_now ∙ committed_is account u.sessions u.server finishes.linked.server)

    -- the join of what both held before the second
    joined : SameContent (content_of sides_now.server_now) (join c (committed_of account t))
    joined =
        subst (λ (x : Collection). SameContent (content_of sides_now.server_now) (join x (committed_of account t))) (device_is ∙ same_device)
        (subst (λ (x : Collection). SameContent (content_of sides_now.server_now) (join sides_now.device x)) server_is sides_now.joined)

    -- is that of what both held before the first
    joined_first : SameContent (content_of sides_now.server_now) (join c (committed_of account s))
    joined_first = by committed_then
      where
        by : KeptOrJoined c (lab_world account s) (lab_world account t) → SameContent (content_of sides_now.server_now) (join c (committed_of account s))
        by (inl kept) = subst (λ (x : Collection). SameContent (content_of sides_now.server_now) (join c x)) kept joined
        by (inr holds) = joined_once c (committed_of account s) (committed_of account t) (content_of sides_now.server_now) holds joined

    both_join : HoldsTheirJoin account name c (committed_of account s) (at_line number t) u
    both_join = record {
      finishes = finishes;
      device = sides_now.device_now;
      holds = (finishes.keeps.made, finishes.keeps.now, sides_now.held_now finishes.keeps.made finishes.keeps.now);
      own = content-through (content_of sides_now.device_now) (content_of sides_now.server_now) (join c (committed_of account s)) sides_now.same joined_first;
      server = subst (λ (x : Collection). SameContent (content_of x) (join c (committed_of account s))) server_now_is joined_first;
    }

  pub heals : FinishedJoins → (second : Outcome) → EndsSync name (at_line number t) u again second → LabEndsWith outcomes.Finished (at_line number t) u second
      → EndsWithTheirJoin account name c (committed_of account s) (at_line number t) u second
  heals joins_all second ended ends = record {
    ends = ends;
    joins = λ is. both_join joins_all (subst (EndsSync name (at_line number t) u again) is ended);
  }

  -- ---- the second stops at its meta
  module _ (o : Outcome) (quiet : is_quiet o ≡ true) (checked : ends_at_check o ≡ false)
      (kept : (key : ℕ) (c : Collection) (before after : World) → StillCommits key c before after o → after.state.committed ≡ before.state.committed)
      (ended : EndsSync name (at_line number t) u again o) where
    sides_then : KeepsSides account name (at_line number t) u o
    sides_then =
        others_keep account name (at_line number t) u again o begins.linked begins.goes.room begins.goes.plans (λ is. not_both quiet (ap is_quiet is))
        (λ is. not_both quiet (ap is_quiet is)) ended (λ bad. absurd (not_both bad checked))

    held_then : sides_then.c ≡ c
    held_then = same_Some sides_then.c d (sym (sides_then.held begins.holds.0 begins.holds.1) ∙ begins.holds.2) ∙ same_device

    abbrev made : Device
    made = sides_then.keeps.made

    leaves_both : SidesHold account name c (committed_of account t) u
    leaves_both = record {
      device = (
        made,
        sides_then.keeps.now,
        subst (λ (x : Collection). Holds sides_then.keeps.made.collection x) held_then
            (still_held (t.clock +ℤ sides_then.keeps.made.shift) sides_then.c sides_then.keeps.made o checked
            (sides_then.device sides_then.keeps.made sides_then.keeps.now)),
      );
      server = kept (one_more t.sessions) sides_then.c (lab_world account (at_line number t)) (lab_world account u) sides_then.server;
    }

  -- nothing was committed before it, if there is nothing to sync
  none_committed : have_nothing_to_sync d (committed_of account t) ≡ true → committed_of account t ≡ committed_of account s
  none_committed nothing = by committed_then
    where
      by : KeptOrJoined c (lab_world account s) (lab_world account t) → committed_of account t ≡ committed_of account s
      by (inl same) = same
      by (inr joined) =
          absurd (never_past c.head.moment (committed_of account t).head.moment joined.past_device
          (ap (λ (x : Collection). x.head.moment) (sym same_device) ∙ same_moment d (committed_of account t) nothing))

  pub stays : have_nothing_to_sync d (committed_of account t) ≡ true → (second : Outcome) → EndsSync name (at_line number t) u again second
      → LabEndsWith outcomes.NoChanges (at_line number t) u second
      → EndsAndLeaves outcomes.NoChanges account name c (committed_of account s) (at_line number t) u second
  stays nothing second ended ends = record {
    ends = ends;
    leaves = λ is. subst (λ (base : Collection). SidesHold account name c base u) (none_committed nothing)
        (leaves_both outcomes.NoChanges refl refl (λ key x before after still. still.0) (subst (EndsSync name (at_line number t) u again) is ended));
  }

  pub parts : (own theirs : ℤ) (second : Outcome) → EndsSync name (at_line number t) u again second
      → LabEndsWith (outcomes.FullSchema own theirs) (at_line number t) u second
      → EndsAndLeaves (outcomes.FullSchema own theirs) account name c (committed_of account t) (at_line number t) u second
  parts own theirs second ended ends = record {
    ends = ends;
    leaves = λ is.
        leaves_both (outcomes.FullSchema own theirs) refl refl (λ key x before after still. still.0)
        (subst (EndsSync name (at_line number t) u again) is ended);
  }
