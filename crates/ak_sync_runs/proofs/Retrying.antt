-- What the next sync comes to after one that left the device as it was.
use Rattle.std.specs.List.{AllByRecursion}
use Rattle.std.specs.Prelude.{◌≡◌, ◌⊎◌, ◌≤ℤ◌, ℕ, ℤ, Bool, true, false, List, [], ◌∷◌, ◌++◌, Option, Some, codes}
use Rattle.std.proofs.Common.{refl, sym, ap, subst, ◌∙◌, inl, inr, rules, arith, append_assoc, append-nil}
use Rattle.std.proofs.lemmas.Int.{ints}
use Rattle.std.proofs.lemmas.Option.{same_Some}
use Rattle.ak_base.specs.declared.keys.HostKey.{HostKey}
use Rattle.ak_client.proofs.Going.{begins_unfinished}
use Rattle.ak_client.proofs.Growing.{HasGrown, commits_grown, tried_grows, world_grown}
use Rattle.ak_client.proofs.Healing.{joined_once}
use Rattle.ak_client.specs.Syncs.{CommitsAlone, CommitsAtMostOnce, IsSync, IsSyncFinished, MayBegin, Synced, world_at}
use Rattle.ak_client.specs.declared.outcomes.Outcome.TheVariants as outcomes
use Rattle.ak_client.specs.Greetings.{meta_of}
use Rattle.ak_exchange.specs.Asked.{answers_in, asker, asks_in}
use Rattle.ak_keep.specs.Collections.{Collection}
use Rattle.ak_merge.specs.Exchanges.{HoldsJoin}
use Rattle.ak_merge.specs.Holdings.{Content, SameContent, content_of}
use Rattle.ak_merge.specs.Joins.{join}
use Rattle.ak_protocol.proofs.ContentLaws.{old_schemas_stay_old}
use Rattle.ak_protocol.proofs.Syncs.{all_back, all_front}
use Rattle.ak_protocol.specs.Accounts.{AccountState}
use Rattle.ak_protocol.specs.Commits.{CommitsGrow, EachNewer, HasFreshSchema}
use Rattle.ak_protocol.specs.Logs.{Commit, Event, Log, World, events_of, with_growth}
use Rattle.ak_protocol.specs.Syncs.{IsUnused}
use Rattle.ak_session.specs.Plans.{Asker, requests_from}
use Rattle.ak_sync_runs.proofs.Telling.{finished_by, finished_line}
use Rattle.ak_sync_runs.specs.Retries.{AreInARow, HasHealed, Heals, HealsNext}
use Rattle.ak_sync_runs.specs.SyncRuns.{EndsSync, EndsSyncOn, IsSyncRun, SyncOutside, ids_of}
use Rattle.ak_client_wire.specs.Wires.{WireKind}

-- ---- between two worlds
-- what holds of each commit from the first on holds up to the middle, and from there on
each_first : (P : Commit → Type 0) (a b c : World) → CommitsGrow b c → EachNewer P a c → EachNewer P a b
each_first P a b c two each newer is =
    all_back P two.newer newer (each (two.newer ++ newer) (two.grown ∙ ap (λ (l : List Commit). two.newer ++ l) is ∙ sym (append_assoc two.newer newer a.commits)))

each_rest : (P : Commit → Type 0) (a b c : World) → CommitsGrow a b → EachNewer P a c → EachNewer P b c
each_rest P a b c one each newer is =
    all_front P newer one.newer (each (newer ++ one.newer) (is ∙ ap (λ (l : List Commit). newer ++ l) one.grown ∙ sym (append_assoc newer one.newer a.commits)))

no_more : (a b : ℤ) → a ≡ b → a ≤ℤ b
no_more a b is = omega (arith, ints, is)

-- ---- the content
-- what both held once the first one ended: what was committed before it, or the join
content_healed : (c s t : Collection) (content : Content) → (t ≡ s) ⊎ HoldsJoin c s t → SameContent content (join c t) → SameContent content (join c s)
content_healed c s t content (inl same) is = subst (λ (x : Collection). SameContent content (join c x)) same is
content_healed c s t content (inr joined) is = joined_once c s t content joined is

module _ {kind : WireKind} (spares : Bool) (host : HostKey) (status : ℕ) (before mid again after : SyncOutside kind) (old new : Option (List ℕ)) (text : List ℕ)
    (first : IsSyncRun spares host status before mid old new) (second : IsSyncRun spares host 0 again after (Some text) (Some (text ++ finished_line)))
    (c : Collection) (account : AccountState) (log between : Log)
    (it : AreInARow (ids_of host first.word) (ids_of host second.word) c account log between before mid again) where
  abbrev who : Asker
  who = asker (ids_of host first.word)

  abbrev next : Asker
  next = asker (ids_of host second.word)

  abbrev one : IsSync (ids_of host first.word) before.keeping mid.keeping before.health mid.health before.wire mid.wire first.outcome
  one = first.sparing.ended.sync

  abbrev two : IsSync (ids_of host second.word) again.keeping after.keeping again.health after.health again.wire after.wire second.outcome
  two = second.sparing.ended.sync

  -- ---- the log
  grows : HasGrown log mid.wire.log
  grows = tried_grows (meta_of (ids_of host first.word) ∷ requests_from who one.asked.moment 1 (asks_in one.asked.tries)) (one.asked.meta ∷ answers_in one.asked.tries) before.health mid.health before.wire mid.wire log one.asked.tried it.told

  grows_again : HasGrown between after.wire.log
  grows_again =
      tried_grows (meta_of (ids_of host second.word) ∷ requests_from next two.asked.moment 1 (asks_in two.asked.tries)) (two.asked.meta ∷ answers_in two.asked.tries)
      again.health after.health again.wire after.wire between two.asked.tried it.told_again

  between_is : between ≡ with_growth log grows.growth
  between_is = same_Some between grows.now (sym it.told_then ∙ grows.is) ∙ grows.grown

  now_is : grows_again.now ≡ with_growth log (grows.growth ++ grows_again.growth)
  now_is =
      grows_again.grown
      ∙ ap (λ (l : Log). with_growth l grows_again.growth) between_is
      ∙ ap (λ (events : List Event). record log { events = events }) (append_assoc log.events grows.growth grows_again.growth)

  -- ---- the schema moments
  fresh : EachNewer (HasFreshSchema c) (world_at who account log) (world_at who account grows_again.now)
  fresh =
      subst (EachNewer (HasFreshSchema c) (world_at who account log))
      (sym (ap (world_at who account) now_is ∙ world_grown who account log (grows.growth ++ grows_again.growth)))
      (old_schemas_stay_old (world_at who account log) (events_of host.digits (grows.growth ++ grows_again.growth)) c
      (no_more c.head.schema (world_at who account log).state.committed.head.schema it.schema))

  fresh_first : EachNewer (HasFreshSchema c) (world_at who account log) (world_at who account between)
  fresh_first =
      each_first (HasFreshSchema c) (world_at who account log) (world_at who account between) (world_at who account grows_again.now)
      (subst (λ (l : Log). CommitsGrow (world_at who account between) (world_at who account l)) (sym grows_again.grown)
      (commits_grown who account between grows_again.growth)) fresh

  fresh_again : EachNewer (HasFreshSchema c) (world_at next account between) (world_at next account grows_again.now)
  fresh_again =
      each_rest (HasFreshSchema c) (world_at who account log) (world_at who account between) (world_at who account grows_again.now)
      (subst (λ (l : Log). CommitsGrow (world_at who account log) (world_at who account l)) (sym between_is) (commits_grown who account log grows.growth)) fresh

  -- ---- what the first one left
  -- what was committed before it still is, or it committed the join
  left : ((world_at who account between).state.committed ≡ (world_at who account log).state.committed)
      ⊎ HoldsJoin c (world_at who account log).state.committed (world_at who account between).state.committed
  left =
      let (ended, is, syncs) = one.told log it.told in
      let same : ended ≡ between = same_Some ended between (sym is ∙ it.told_then) in
      let synced : Synced who one.asked.moment (asks_in one.asked.tries) c account log ended mid.keeping first.outcome =
      syncs c account it.holds it.may (subst (λ (l : Log). EachNewer (HasFreshSchema c) (world_at who account log) (world_at who account l)) (sym same) fresh_first) in
      let alone : CommitsAlone who account log between = one.wire.commits it.alone log between account it.told it.told_then it.may.unused in
      let past : with_growth ended [] ≡ between = ap (λ (events : List Event). record ended { events = events }) (append-nil ended.events) ∙ same in
      by synced.base alone (subst (λ (l : Log). CommitsAtMostOnce who.session.0 c synced.base (world_at who account l).commits) past (synced.once [] tt tt))
    where
      by : (base : Collection) → CommitsAlone who account log between → CommitsAtMostOnce who.session.0 c base (world_at who account between).commits
          → ((world_at who account between).state.committed ≡ (world_at who account log).state.committed)
          ⊎ HoldsJoin c (world_at who account log).state.committed (world_at who account between).state.committed
      by base alone (inl nothing) = inl (alone.stays nothing)
      by base alone (inr joined) =
          let of_it = alone.one _ joined.only in
          inr (subst (HoldsJoin c (world_at who account log).state.committed) of_it.1 (subst (λ (s : Collection). HoldsJoin c s joined.after) of_it.0 joined.joins))

  -- ---- what the second one left
  may_again : MayBegin next c account between
  may_again =
      subst (λ (l : Log). MayBegin next c account l) (sym between_is)
      (begins_unfinished who next account log grows.growth grows.timely refl
      (subst (λ (l : Log). IsUnused host.digits next.session.0 account l) between_is it.unused) c it.may
      (subst (λ (l : Log). EachNewer (HasFreshSchema c) (world_at who account log) (world_at who account l)) between_is fresh_first))

  healed : (now : Log) × (after.wire.log ≡ Some now) × HasHealed (ids_of host first.word) (ids_of host second.word) c account log between after now
  healed =
      let (now, is, syncs) = two.told between it.told_again in
      let same : now ≡ grows_again.now = same_Some now grows_again.now (sym is ∙ grows_again.is) in
      let synced : Synced next two.asked.moment (asks_in two.asked.tries) c account between now after.keeping second.outcome =
      syncs c account it.holds_still may_again
      (subst (λ (l : Log). EachNewer (HasFreshSchema c) (world_at next account between) (world_at next account l)) (sym same) fresh_again) in
      let done : IsSyncFinished next c synced.base account now after.keeping = synced.finished (finished_by second.outcome text second.told) in
      let alone : CommitsAlone next account between now = two.wire.commits it.alone_again between now account it.told_again is may_again.unused in
      (now, is, by now synced.base done (alone.one _ done.only))
    where
      by : (now : Log) (base : Collection) (done : IsSyncFinished next c base account now after.keeping)
          → (base ≡ (world_at next account between).state.committed) × (done.after ≡ (world_at next account now).state.committed)
          → HasHealed (ids_of host first.word) (ids_of host second.word) c account log between after now
      by now base done (over, kept) =
          let moved : (d : IsSyncFinished next c (world_at next account between).state.committed account now after.keeping) × (d.after ≡ (world_at next account now).state.committed) =
          subst (λ (t : Collection). (d : IsSyncFinished next c t account now after.keeping) × (d.after ≡ (world_at next account now).state.committed)) over (done, kept) in (
            moved.0,
            moved.1,
            content_healed c (world_at who account log).state.committed (world_at who account between).state.committed (content_of moved.0.device) left moved.0.exchanged.device,
            content_healed c (world_at who account log).state.committed (world_at who account between).state.committed (content_of moved.0.after) left moved.0.exchanged.server,
          )

-- ---- the two commands
-- the first one ran, or asked nothing
ran_or_kept : {kind : WireKind} (spares held : Bool) (host : HostKey) (status : ℕ) (before mid : SyncOutside kind) (old new : Option (List ℕ))
    → EndsSyncOn spares held host status before mid old new → (mid ≡ before) ⊎ IsSyncRun spares host status before mid old new
ran_or_kept spares true host status before mid old new (inl run) = inr run
ran_or_kept spares true host status before mid old new (inr (same, ends)) = inl same
ran_or_kept spares false host status before mid old new (same, ends) = inl same

-- one that printed `finished` ran
ran_finished : {kind : WireKind} (spares held : Bool) (host : HostKey) (again after : SyncOutside kind) (text : List ℕ)
    → EndsSyncOn spares held host 0 again after (Some text) (Some (text ++ finished_line)) → IsSyncRun spares host 0 again after (Some text) (Some (text ++ finished_line))
ran_finished spares true host again after text (inl run) = run
ran_finished spares true host again after text (inr (same, (status, nothing))) = absurd (search (status, rules))
ran_finished spares false host again after text (same, inl (status, written)) = absurd (search (status, rules))
ran_finished spares false host again after text (same, inr (status, part)) = absurd (search (status, rules))

pub next_heals : {kind : WireKind} (spares : Bool) (host : HostKey) (status : ℕ) (before mid again after : SyncOutside kind) (old new : Option (List ℕ)) (text : List ℕ)
    → EndsSync spares host status before mid old new → EndsSync spares host 0 again after (Some text) (Some (text ++ (codes "finished" ++ 10 ∷ [])))
    → HealsNext host before mid again after
next_heals spares host status before mid again after old new text ends finished =
    by (ran_or_kept spares before.keeping.headed.current host status before mid old new ends) (ran_finished spares again.keeping.headed.current host again after text finished)
  where
    by : (mid ≡ before) ⊎ IsSyncRun spares host status before mid old new → IsSyncRun spares host 0 again after (Some text) (Some (text ++ finished_line)) → HealsNext host before mid again after
    by (inl same) second = inl same
    by (inr first) second = inr (
      first.word,
      second.word,
      first.drawn,
      second.drawn,
      λ c account log between it. healed spares host status before mid again after old new text first second c account log between it,
    )
