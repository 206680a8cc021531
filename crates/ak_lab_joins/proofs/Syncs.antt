-- What a sync leaves on the server of a lab and on the device, over a device that is linked with the server.
use Rattle.std.specs.List.{AllByRecursion}
use Rattle.std.specs.Prelude.{◌≡◌, ◌⊎◌, ℕ, ℤ, pos, ◌+ℤ◌, ◌<ℤ◌, Bool, true, false, List, [], ◌∷◌, ◌++◌, Option, Some}
use Rattle.std.proofs.Common.{refl, sym, ap, subst, ◌∙◌, append-nil, inl, inr, arith}
use Rattle.std.proofs.lemmas.Int.{ints}
use Rattle.std.proofs.lemmas.List.{append_cancel_left, append_cancel_right}
use Rattle.std.proofs.lemmas.Option.{same_Some}
use Rattle.ak_client.proofs.Growing.{lawful_grown, linked_grown}
use Rattle.ak_client.specs.Greetings.{meta_of}
use Rattle.ak_client.specs.Outcomes.{is_told_by_meta}
use Rattle.ak_client.specs.Syncs.{CommitsAlone, CommitsAtMostOnce, EndsBecause, IsCommittedIn, IsSync, IsSyncFinished, MayBegin, Synced, Syncs, ends_before_finish, told_by, world_at}
use Rattle.ak_client.specs.declared.outcomes.Outcome.{Outcome}
use Rattle.ak_client.specs.declared.outcomes.Outcome.TheVariants as outcomes
use Rattle.ak_client_wire.specs.Wires.{WireKind, WireState}
use Rattle.ak_client_wire.specs.declared.wires.MetaSaid.{MetaSaid}
use Rattle.ak_exchange.specs.Asked.{AreTried, TriedAsk, answers_in, asker, asks_in}
use Rattle.ak_exchange.specs.Phases.{holding}
use Rattle.ak_exchange.specs.declared.envelopes.Ids.{Ids}
use Rattle.ak_faults.specs.Causes.{Health}
use Rattle.ak_keep.specs.Collections.{Collection}
use Rattle.ak_keep.specs.Keepers.{Keeping}
use Rattle.ak_lab_joins.proofs.SchemasStay.{IsNoUpload, no_upload, none_uploads, schemas_stay}
use Rattle.ak_lab_joins.proofs.Worlds.{commit_as, GrowsSo, IsOfSession, IsQuiet, StaysQuiet, grows_so, quiet_after, requests_of_session, world_grown}
use Rattle.ak_merge.specs.Edits.{Reversal}
use Rattle.ak_merge.specs.Exchanges.{AreExchanged, HoldsJoin}
use Rattle.ak_merge.specs.Holdings.{SameContent, content_of}
use Rattle.ak_merge.specs.Links.{AreLinked}
use Rattle.ak_merge.specs.Undoing.{StepFits}
use Rattle.ak_messages.specs.declared.requests.Ask.TheVariants as asks
use Rattle.ak_protocol.proofs.ContentLaws.{commits_are_made, fits_stay, some_of_all}
use Rattle.ak_protocol.specs.Accounts.{AccountState}
use Rattle.ak_protocol.specs.Commits.{EachNewer, HasFreshSchema, IsMade}
use Rattle.ak_protocol.specs.LawfulServers.{IsLawfulAccount}
use Rattle.ak_protocol.specs.Logs.{Commit, Event, IsTimely, Log, World, events_of, world_after}
use Rattle.ak_session.specs.Plans.{Asker, requests_from}

-- a commit leaves the schema moment
abbrev pub LeavesSchema : Commit → Type 0
LeavesSchema commit = commit.after.head.schema ≡ commit.before.head.schema

-- what is committed is as it was; or the session committed once, the join
abbrev pub CommitsNoneOrJoin : ℕ → Collection → World → World → Type 0
CommitsNoneOrJoin key c before after =
    StaysQuiet before after
    ⊎ (after.commits ≡ commit_as key before.state.committed after.state.committed ∷ before.commits)
    × HoldsJoin c before.state.committed after.state.committed

all_leave : (commits : List Commit) (c : Collection) → AllByRecursion LeavesSchema commits → AllByRecursion (HasFreshSchema c) commits
all_leave [] c all = tt
all_leave (commit ∷ commits) c all = (inl all.0, all_leave commits c all.1)

all_front : (P : Event → Type 0) (front rest : List Event) → AllByRecursion P (front ++ rest) → AllByRecursion P front
all_front P [] rest all = tt
all_front P (event ∷ front) rest all = (all.0, all_front P front rest all.1)

not_zero : (usn : ℤ) → pos 1 ≡ usn +ℤ pos 1 → pos 0 <ℤ usn → ⊥
not_zero usn is over = omega (arith, ints, is, over)

module _ {kind : WireKind} (ids : Ids) (account : AccountState) (old now : Log) (before left : Keeping) (h0 h1 : Health) (w0 w1 : WireState kind) (to_come : Option (List ℤ)) (outcome : Outcome) (c : Collection)
    (alone : w0.alone ≡ true) (told : w0.log ≡ Some old) (told_now : w1.log ≡ Some now) (holds : before ≡ holding c)
    (sync : IsSync ids before left h0 h1 w0 w1 outcome) (because : EndsBecause sync.asked.meta sync.asked.moment sync.asked.tries before to_come outcome)
    (may : MayBegin (asker ids) c account old) where
  abbrev pub who : Asker
  who = asker ids

  abbrev pub was : World
  was = world_at who account old

  abbrev pub is_now : World
  is_now = world_at who account now

  -- ---- what came
  -- nothing but metas, if nothing more was asked
  metas_came : sync.asked.tries ≡ [] → GrowsSo IsQuiet old now
  metas_came none =
      let tried : AreTried (meta_of ids ∷ []) (sync.asked.meta ∷ []) h0 h1 w0 w1 =
      subst (λ (tries : List TriedAsk). AreTried (meta_of ids ∷ requests_from (asker ids) sync.asked.moment 1 (asks_in tries)) (sync.asked.meta ∷ answers_in tries) h0 h1 w0 w1)
      none sync.asked.tried in
      grows_so IsQuiet (meta_of ids ∷ []) (sync.asked.meta ∷ []) h0 h1 w0 w1 old now tried ((λ at setback. refl), tt) alone told told_now

  none_newer : StaysQuiet was is_now → (P : Commit → Type 0) → EachNewer P was is_now
  none_newer quiet P newer is =
      subst (AllByRecursion P) (append_cancel_right [] newer was.commits (sym quiet.commits ∙ is)) tt

  -- ---- what the log is
  pub own_growth : GrowsSo (IsOfSession ids.session.0) old now
  own_growth =
      grows_so (IsOfSession ids.session.0) (meta_of ids ∷ requests_from (asker ids) sync.asked.moment 1 (asks_in sync.asked.tries)) (sync.asked.meta ∷ answers_in sync.asked.tries)
      h0 h1 w0 w1 old now sync.asked.tried ((λ at setback. refl), requests_of_session (asker ids) sync.asked.moment 1 (asks_in sync.asked.tries)) alone told told_now

  -- no upload is among what was asked, so each commit leaves the server's schema moment
  plain_growth : GrowsSo IsNoUpload old now
  plain_growth =
      grows_so IsNoUpload (meta_of ids ∷ requests_from (asker ids) sync.asked.moment 1 (asks_in sync.asked.tries)) (sync.asked.meta ∷ answers_in sync.asked.tries)
      h0 h1 w0 w1 old now sync.asked.tried ((λ at setback. no_upload asks.Meta tt), none_uploads (asker ids) sync.asked.moment 1 (asks_in sync.asked.tries) sync.bounded.rows) alone told told_now

  pub fresh : EachNewer (HasFreshSchema c) was is_now
  fresh =
      subst (EachNewer (HasFreshSchema c) was)
      (sym (ap (world_at who account) plain_growth.grown ∙ world_grown who.host.digits account old plain_growth.growth))
      (schemas_stay c was (events_of who.host.digits plain_growth.growth) (some_of_all IsNoUpload who.host.digits plain_growth.growth plain_growth.all))

  -- ---- what the client promises
  pub synced : Synced who sync.asked.moment (asks_in sync.asked.tries) c account old now left outcome
  synced =
      let it = sync.told old told in
      let syncs : Syncs ids sync.asked.moment (asks_in sync.asked.tries) before left old now outcome =
      subst (λ (log : Log). Syncs ids sync.asked.moment (asks_in sync.asked.tries) before left old log outcome)
      (same_Some it.0 now (sym it.1 ∙ told_now)) it.2 in
      syncs c account holds may fresh

  pub commits : CommitsAlone who account old now
  commits = sync.wire.commits alone old now account told told_now may.unused

  pub quiet_if_early : ends_before_finish outcome ≡ true → StaysQuiet was is_now
  quiet_if_early early =
      let none = synced.early early in
      record { committed = commits.stays none; commits = commits.commits ∙ ap (λ (l : List Commit). l ++ was.commits) none }

  -- ---- nothing to sync
  nothing_more : outcome ≡ outcomes.NoChanges → sync.asked.tries ≡ []
  nothing_more is = by because.more
    where
      never : {b : Bool} → b ≡ true → b ≡ false → ⊥
      never is_so is_not = grind (arith, is_so, is_not)

      by : (sync.asked.tries ≡ []) ⊎ ((said : MetaSaid) × (told_by sync.asked.meta ≡ Some said) × (sync.asked.moment ≡ said.moment) × (is_told_by_meta outcome ≡ false)) → sync.asked.tries ≡ []
      by (inl none) = none
      by (inr (said, answered, same, untold)) = absurd (never (ap is_told_by_meta is) untold)

  -- what was committed when the meta was answered is what was committed before
  base_stays : outcome ≡ outcomes.NoChanges → IsCommittedIn who account old synced.growth synced.base → synced.base ≡ was.state.committed
  base_stays is committed =
      let grows = metas_came (nothing_more is) in
      let same : grows.growth ≡ synced.growth =
      append_cancel_left old.events grows.growth synced.growth (ap (λ (log : Log). log.events) (sym grows.grown ∙ synced.grown)) in
      let quiet : AllByRecursion IsQuiet committed.front =
      all_front IsQuiet committed.front committed.rest (subst (AllByRecursion IsQuiet) (same ∙ committed.parts) grows.all) in
      sym committed.place
      ∙ ap (λ (w : World). w.state.committed) (world_grown who.host.digits account old committed.front)
      ∙ (quiet_after was (events_of who.host.digits committed.front) (some_of_all IsQuiet who.host.digits committed.front quiet)).committed

  pub agreed : outcome ≡ outcomes.NoChanges → SameContent (content_of c) (content_of was.state.committed)
  agreed is =
      let it = synced.unchanged is in
      subst (λ (base : Collection). SameContent (content_of c) (content_of base)) (base_stays is it.0) it.1

  -- what is committed now is what was, or the join
  once_now : CommitsAtMostOnce ids.session.0 c synced.base is_now.commits
  once_now =
      subst (λ (log : Log). CommitsAtMostOnce ids.session.0 c synced.base (world_at who account log).commits)
      (ap (λ (events : List Event). record now { events = events }) (append-nil now.events))
      (synced.once [] tt tt)

  committed_by : CommitsAtMostOnce ids.session.0 c synced.base is_now.commits → CommitsNoneOrJoin ids.session.0 c was is_now
  committed_by (inl none) =
      inl (record { committed = commits.stays none; commits = commits.commits ∙ ap (λ (l : List Commit). l ++ was.commits) none })
  committed_by (inr joined) =
      let one = commits.one (commit_as ids.session.0 synced.base joined.after) joined.only in
      let joins : HoldsJoin c was.state.committed joined.after = subst (λ (s : Collection). HoldsJoin c s joined.after) one.0 joined.joins in
      inr (
        commits.commits ∙ ap (λ (l : List Commit). l ++ was.commits) joined.only
            ∙ ap (λ (s : Collection). commit_as ids.session.0 s joined.after ∷ was.commits) one.0
            ∙ ap (λ (t : Collection). commit_as ids.session.0 was.state.committed t ∷ was.commits) one.1,
        subst (λ (t : Collection). HoldsJoin c was.state.committed t) one.1 joins,
      )

  pub committed : CommitsNoneOrJoin ids.session.0 c was is_now
  committed = committed_by once_now

  -- ---- the schema moment stays: a finish leaves it, and an upload would set the number back to 1
  module _ (number : pos 0 <ℤ was.state.committed.head.usn) where
    grown : is_now ≡ world_after was (events_of who.host.digits synced.growth)
    grown = ap (world_at who account) synced.grown ∙ world_grown who.host.digits account old synced.growth

    made : EachNewer IsMade was is_now
    made = subst (EachNewer IsMade was) (sym grown)
        (commits_are_made was (events_of who.host.digits synced.growth) (some_of_all IsTimely who.host.digits synced.growth synced.timely) may.lawful)

    leaves : HoldsJoin c was.state.committed is_now.state.committed
        → IsMade (commit_as ids.session.0 was.state.committed is_now.state.committed)
        → is_now.state.committed.head.schema ≡ was.state.committed.head.schema
    leaves joins (inl (came, finish)) = finish.commits.schema
    leaves joins (inr (came, upload)) =
        absurd (not_zero was.state.committed.head.usn (sym upload.uploads.usn ∙ joins.usn) number)

    schema_by : CommitsNoneOrJoin ids.session.0 c was is_now → is_now.state.committed.head.schema ≡ was.state.committed.head.schema
    schema_by (inl quiet) = ap (λ (s : Collection). s.head.schema) quiet.committed
    schema_by (inr (one, joins)) =
        leaves joins (made (commit_as ids.session.0 was.state.committed is_now.state.committed ∷ []) one).0

    pub schema_stays : is_now.state.committed.head.schema ≡ was.state.committed.head.schema
    schema_stays = schema_by committed

    number_by : CommitsNoneOrJoin ids.session.0 c was is_now → pos 0 <ℤ is_now.state.committed.head.usn
    number_by (inl quiet) = subst (λ (s : Collection). pos 0 <ℤ s.head.usn) (sym quiet.committed) number
    number_by (inr (one, joins)) = up was.state.committed.head.usn is_now.state.committed.head.usn number joins.usn
      where
        up : (a b : ℤ) → pos 0 <ℤ a → b ≡ a +ℤ pos 1 → pos 0 <ℤ b
        up a b low is = omega (arith, ints, low, is)

    pub number_stays : pos 0 <ℤ is_now.state.committed.head.usn
    number_stays = number_by committed

    each_by : CommitsNoneOrJoin ids.session.0 c was is_now → EachNewer LeavesSchema was is_now
    each_by (inl quiet) newer is = none_newer quiet LeavesSchema newer is
    each_by (inr (one, joins)) newer is =
        subst (AllByRecursion LeavesSchema)
        (append_cancel_right (commit_as ids.session.0 was.state.committed is_now.state.committed ∷ []) newer was.commits (sym one ∙ is))
        (schema_stays, tt)

    each_fresh : (e : Collection) → EachNewer (HasFreshSchema e) was is_now
    each_fresh e newer is = all_leave newer e (each_by committed newer is)

    -- ---- whoever was linked is linked
    pub lawful_now : IsLawfulAccount is_now.state
    lawful_now =
        subst (λ (log : Log). IsLawfulAccount (world_at who account log).state) (sym synced.grown)
        (lawful_grown who account old synced.growth synced.timely may.lawful)

    pub linked_now : (e : Collection) → AreLinked e was.state.committed → AreLinked e is_now.state.committed
    linked_now e linked =
        subst (λ (log : Log). AreLinked e (world_at who account log).state.committed) (sym synced.grown)
        (linked_grown who account old synced.growth synced.timely may.lawful e
        (subst (λ (log : Log). EachNewer (HasFreshSchema e) was (world_at who account log)) synced.grown (each_fresh e)) linked)

    pub fits_now : (e : Collection) (step : Reversal) → StepFits e step was.state.committed → StepFits e step is_now.state.committed
    fits_now e step fits =
        subst (λ (w : World). StepFits e step w.state.committed) (sym grown)
        (fits_stay was (events_of who.host.digits synced.growth) e step
        (subst (EachNewer (HasFreshSchema e) was) grown (each_fresh e)) fits)

  -- ---- a sync that finished
  pub finished : outcome ≡ outcomes.Finished
      → (it : IsSyncFinished who c synced.base account now left)
      × AreExchanged c was.state.committed it.device is_now.state.committed
      × (it.device.head.moment ≡ is_now.state.committed.head.moment)
      × (is_now.commits ≡ commit_as ids.session.0 was.state.committed is_now.state.committed ∷ was.commits)
      × AreLinked it.device is_now.state.committed
      × (it.device.head.usn ≡ was.state.committed.head.usn +ℤ pos 1)
  finished is =
      let it = synced.finished is in
      let one = commits.one (commit_as ids.session.0 synced.base it.after) it.only in (
        it,
        subst (λ (s : Collection). AreExchanged c s it.device is_now.state.committed) one.0
            (subst (λ (t : Collection). AreExchanged c synced.base it.device t) one.1 it.exchanged),
        it.moment ∙ ap (λ (t : Collection). t.head.moment) one.1,
        commits.commits ∙ ap (λ (l : List Commit). l ++ was.commits) it.only
            ∙ ap (λ (s : Collection). commit_as ids.session.0 s it.after ∷ was.commits) one.0
            ∙ ap (λ (t : Collection). commit_as ids.session.0 was.state.committed t ∷ was.commits) one.1,
        it.linked,
        it.usn ∙ ap (λ (s : Collection). s.head.usn +ℤ pos 1) one.0,
      )
