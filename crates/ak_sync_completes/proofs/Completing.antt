-- That a sync which nothing stops is finished, or memory ran out.
use Rattle.std.specs.List.{AllByRecursion}
use Rattle.std.specs.Prelude.{◌≡◌, ◌⊎◌, ◌≤◌, ◌<◌, ◌+◌, ◌/◌, ◌≤ℤ◌, ℕ, ℤ, true, false, List, [], ◌∷◌, ◌++◌, length, Some, None}
use Rattle.std.proofs.Common.{refl, sym, ap, subst, ◌∙◌, inl, inr, arith}
use Rattle.std.proofs.lemmas.Int.{ints}
use Rattle.std.proofs.lemmas.Option.{same_Some}
use Rattle.ak_client.proofs.Growing.{commits_grown, world_grown}
use Rattle.ak_client.specs.Outcomes.{is_told_by_meta}
use Rattle.ak_client.specs.Syncs.{EndsAt, IsCommittedIn, IsFairEnd, IsShown, IsSync, IsSyncEnded, Synced, Syncs, meta_tried, told_by, world_at}
use Rattle.ak_client.specs.declared.outcomes.Outcome.{Outcome}
use Rattle.ak_client.specs.declared.outcomes.Outcome.TheVariants as outcomes
use Rattle.ak_exchange.specs.Asked.{TriedAsk, answers_in, asker, asks_in}
use Rattle.ak_exchange.specs.Grants.{AreTooMany, IsCheckedLast}
use Rattle.ak_exchange.specs.Phases.{HasTenMillionRows}
use Rattle.ak_exchange.specs.declared.envelopes.Ids.{Ids}
use Rattle.ak_exchange.specs.declared.stops.Stop.{Stop}
use Rattle.ak_exchange.specs.declared.stops.Stop.TheVariants as stops
use Rattle.ak_faults.specs.Causes.{Rose}
use Rattle.ak_keep.specs.Collections.{Collection}
use Rattle.ak_keep.specs.declared.keepers.Wanted.TheVariants.{From, Unsent}
use Rattle.ak_merge.proofs.SoundLaws.{sound_has_no_fault}
use Rattle.ak_merge.specs.Commits.{IsCommitted}
use Rattle.ak_merge.specs.Links.{AreLinked}
use Rattle.ak_merge.specs.Soundness.{first_fault}
use Rattle.ak_merge.specs.declared.checks.CheckFault.{CheckFault}
use Rattle.ak_messages.specs.declared.replies.Word.{Word}
use Rattle.ak_messages.specs.declared.requests.Ask.{Ask}
use Rattle.ak_messages.specs.declared.requests.Ask.TheVariants as asks
use Rattle.ak_messages.specs.declared.requests.SanityCounts.{SanityCounts}
use Rattle.ak_protocol.proofs.ContentLaws.{old_schemas_stay_old}
use Rattle.ak_protocol.specs.Accounts.{AccountState}
use Rattle.ak_protocol.specs.Commits.{CommitsGrow, EachNewer, HasFreshSchema, Leads}
use Rattle.ak_protocol.specs.Logs.{Log, commits_of, events_of, with_growth}
use Rattle.ak_session.proofs.PlanLaws.{plans_are_short}
use Rattle.ak_session.specs.Plans.{Asker, plan, planned, requests_from}
use Rattle.ak_session.specs.Sessions.{MaySync}
use Rattle.ak_session.specs.Slices.{wanted_graves, wanted_in_chunks}
use Rattle.ak_sync_completes.proofs.Asking.{last_of_one, nothing_tried}
use Rattle.ak_sync_completes.proofs.Bases.{commit_is_timed, same_moment}
use Rattle.ak_sync_completes.proofs.Graves.{graves_few}
use Rattle.ak_sync_completes.proofs.Metas.{Says, goes_on_after, meta_says}
use Rattle.ak_sync_completes.proofs.Reading.{unread_counted}
use Rattle.ak_sync_completes.proofs.Serving.{IsQuiet}
use Rattle.ak_sync_completes.proofs.Sides.{checked_of, named_of, sides_may_sync}
use Rattle.ak_sync_completes.proofs.Undisturbed.{granted_last, quiet_or_out}
use Rattle.ak_sync_completes.specs.Completing.{AreJoinable, EndsWell, IsSyncOver, IsUnhindered, RanOutOfMemory, SyncEnds}
use Rattle.ak_client_wire.specs.Forms.{is_moment}
use Rattle.ak_client_wire.specs.declared.wires.MetaSaid.{MetaSaid}
use Rattle.ak_client_wire.specs.Wires.{WireKind}

-- ---- the two sides
module _ (c s : Collection) (joinable : AreJoinable c s) (lawful : IsCommitted s) (linked : AreLinked c s) where
  may_sync : MaySync c s
  may_sync = sides_may_sync c s joinable.formed joinable.schema linked lawful

  device_sound : first_fault c.rows ≡ None
  device_sound = (sound_has_no_fault c.rows (named_of c joinable.formed) (checked_of c joinable.formed)).1 joinable.sound

  -- the plan has fewer requests than there are steps
  short : (who : Asker) → length (plan who c s) ≤ 9_223_372_036_854_775_807
  short who =
      counted (length (plan who c s)) (length (wanted_graves Unsent c.rows)) (length (wanted_in_chunks (From c.head.usn) s.rows)) (length (wanted_in_chunks Unsent c.rows))
      (plans_are_short who c s lawful.head.usn.low) (graves_few c.rows (named_of c joinable.formed) joinable.formed.checked) joinable.pulled joinable.pushed
    where
      counted : (all graves pulled pushed : ℕ) → all + 1 ≤ 8 + graves / 250 + pulled / 250 + pushed / 250 → graves ≤ 27_021_597_764_222_973
          → pulled < 10_000_000 → pushed < 10_000_000 → all ≤ 9_223_372_036_854_775_807
      counted all graves pulled pushed most one two three = omega (arith, most, one, two, three)

-- ---- how it ends
module _ {kind : WireKind} (ids : Ids) (c : Collection) (account : AccountState) (before after : SyncEnds kind) (outcome : Outcome)
    (it : IsUnhindered ids c account before after)
    (ended : IsSyncEnded ids before.keeping after.keeping before.health after.health before.wire after.wire before.moments outcome) where
  abbrev asker_of : Asker
  asker_of = asker ids

  abbrev held : Collection
  held = (world_at asker_of account it.old).state.committed

  abbrev own : IsSync ids before.keeping after.keeping before.health after.health before.wire after.wire outcome
  own = ended.sync

  abbrev asked : List Ask
  asked = asks_in own.asked.tries

  -- whatever came, no commit gives the device's schema moment, which is what the server has
  fresh : EachNewer (HasFreshSchema c) (world_at asker_of account it.old) (world_at asker_of account it.now)
  fresh =
      subst (EachNewer (HasFreshSchema c) (world_at asker_of account it.old))
      (sym (ap (world_at asker_of account) it.grown ∙ world_grown asker_of account it.old it.growth))
      (old_schemas_stay_old (world_at asker_of account it.old) (events_of ids.host.digits it.growth) c (no_more c.head.schema held.head.schema it.joinable.schema))
    where
      no_more : (a b : ℤ) → a ≡ b → a ≤ℤ b
      no_more a b is = omega (arith, ints, is)

  synced : Synced asker_of own.asked.moment asked c account it.old it.now after.keeping outcome
  synced =
      let told = own.told it.old it.begins.told in
      let syncs : Syncs ids own.asked.moment asked before.keeping after.keeping it.old it.now outcome =
      subst (λ (log : Log). Syncs ids own.asked.moment asked before.keeping after.keeping it.old log outcome)
      (same_Some told.0 it.now (sym told.1 ∙ it.begins.told_now)) told.2 in
      syncs c account it.begins.holds it.begins.may fresh

  lawful : IsCommitted held
  lawful = it.begins.may.lawful.committed

  -- what its meta says
  says : (said : MetaSaid) → told_by own.asked.meta ≡ Some said → Says held it.at said
  says =
      meta_says ids account it.old it.now it.growth it.begins.may.unused.opening it.grown it.at it.near
      before.health after.health before.wire after.wire it.begins.alone it.begins.told it.begins.told_now
      own.asked.meta (requests_from asker_of own.asked.moment 1 asked) (answers_in own.asked.tries) own.asked.tried

  -- so it does not end for that
  goes_on : is_told_by_meta outcome ≡ true → ⊥
  goes_on =
      goes_on_after ids c held own.asked.meta own.asked.moment it.at it.later own.asked.tries before.keeping before.moments outcome says
      it.joinable.schema it.joinable.differ it.joinable.room.usn (device_sound c held it.joinable lawful it.begins.may.linked)
      it.begins.holds it.clock ended.because

  -- if it asked more, its meta was answered over what was committed before it
  over_held : own.asked.moment ≡ held.head.moment → (asked ≡ []) ⊎ (synced.base ≡ held)
  over_held same = by synced.at_meta synced.shown
    where
      by : (asked ≡ []) ⊎ IsCommittedIn asker_of account it.old synced.growth synced.base → IsShown asker_of account synced.base own.asked.moment asked it.now
          → (asked ≡ []) ⊎ (synced.base ≡ held)
      by (inl none) shown = inl none
      by (inr place) (inl (none, unused)) = inl none
      by (inr place) (inr (moment, under_way)) =
          let grown : CommitsGrow (world_at asker_of account it.old) (world_at asker_of account (with_growth it.old place.front)) =
          commits_grown asker_of account it.old place.front in
          let led : Leads held grown.newer synced.base = subst (Leads held grown.newer) place.place grown.lead in
          inr (same_moment held synced.base grown.newer led (moment ∙ same))

  -- what it asked is a front of the plan
  front : (own.asked.tries ≡ []) ⊎ ((own.asked.moment ≡ held.head.moment) × (synced.base ≡ held))
  front = by ended.because.more
    where
      known : own.asked.moment ≡ held.head.moment → (asked ≡ []) ⊎ (synced.base ≡ held) → (own.asked.tries ≡ []) ⊎ ((own.asked.moment ≡ held.head.moment) × (synced.base ≡ held))
      known same (inl none) = inl (nothing_tried own.asked.tries none)
      known same (inr base) = inr (same, base)

      by : (own.asked.tries ≡ []) ⊎ ((said : MetaSaid) × (told_by own.asked.meta ≡ Some said) × (own.asked.moment ≡ said.moment) × (is_told_by_meta outcome ≡ false))
          → (own.asked.tries ≡ []) ⊎ ((own.asked.moment ≡ held.head.moment) × (synced.base ≡ held))
      by (inl none) = inl none
      by (inr (said, told, moment, untold)) =
          let same : own.asked.moment ≡ held.head.moment = moment ∙ (says said told).moment in
          known same (over_held same)

  planned_front : (own.asked.tries ≡ []) ⊎ ((own.asked.moment ≡ held.head.moment) × (synced.base ≡ held))
      → (asked ≡ []) ⊎ ((own.asked.moment ≡ held.head.moment) × ((rest : List Ask) × (asked ++ rest ≡ planned c held)))
  planned_front (inl none) = inl (ap asks_in none)
  planned_front (inr (same, base)) =
      inr (
        same,
        subst (λ (k : Collection). (rest : List Ask) × (asked ++ rest ≡ planned c k)) base
            synced.front,
      )

  -- a refusal is that memory ran out
  refused : (status : ℕ) (word : Word) (seen : ℤ) → EndsAt (meta_tried own.asked.meta ∷ own.asked.tries) after.wire (outcomes.Refused status word seen) → RanOutOfMemory it.growth
  refused status word seen (last, (earlier, parts), (reply, answered, other, same_status, same_word, same_seen)) = by (quiet_or_out it.growth it.server)
    where
      by : AllByRecursion IsQuiet it.growth ⊎ RanOutOfMemory it.growth → RanOutOfMemory it.growth
      by (inr out) = out
      by (inl quiet) =
          absurd (other (granted_last ids account it.old it.now it.growth it.begins.may.unused.opening it.grown quiet
          before.health after.health before.wire after.wire it.begins.alone it.begins.told it.begins.told_now
          c (may_sync c held it.joinable lawful it.begins.may.linked) it.joinable.room it.joinable.joins (short c held it.joinable lawful it.begins.may.linked asker_of)
          own.asked.meta own.asked.moment own.asked.tries own.ends.granted (planned_front front) last earlier parts reply answered own.asked.tried))

  -- what its session committed has a moment in its range
  committed_now : (made : Collection) → commits_of ids.session.0 (world_at asker_of account it.now).commits
      ≡ record { key = ids.session.0; before = held; after = made } ∷ [] → is_moment made.head.moment ≡ true
  committed_now =
      commit_is_timed asker_of account it.old it.now synced.growth synced.grown it.begins.may.unused it.begins.may.lawful synced.timely held

  -- each answer can be read
  readable : EndsAt (meta_tried own.asked.meta ∷ own.asked.tries) after.wire outcomes.BadReply → ⊥
  readable (last, (earlier, parts), unusable) =
      it.reading (unread_counted ids c account it.old it.now it.begins.may.unused lawful (may_sync c held it.joinable lawful it.begins.may.linked)
      before.health after.health before.wire after.wire it.begins.alone it.begins.told it.begins.told_now committed_now
      own.asked.meta own.asked.moment own.asked.tries own.ends.granted (planned_front front) last earlier parts own.asked.tried unusable)

  -- its meta is no sanity check
  unchecked : (stop : Stop) → own.asked.tries ≡ [] → IsCheckedLast (meta_tried own.asked.meta ∷ own.asked.tries) stop after.wire → ⊥
  unchecked stop none check =
      let same : check.it ≡ meta_tried own.asked.meta =
      last_of_one (meta_tried own.asked.meta) check.it check.last.0 (ap (λ (l : List TriedAsk). meta_tried own.asked.meta ∷ l) (sym none) ∙ check.last.1) in
      let ask : asks.Meta ≡ asks.SanityCheck2 check.counts = ap (λ (t : TriedAsk). t.ask) (sym same) ∙ check.asks in
      grind (arith, ask)

  -- the sanity check is good
  fair : own.asked.tries ≡ [] ⊎ IsFairEnd c held outcome
  fair = by front
    where
      by : (own.asked.tries ≡ []) ⊎ ((own.asked.moment ≡ held.head.moment) × (synced.base ≡ held)) → own.asked.tries ≡ [] ⊎ IsFairEnd c held outcome
      by (inl none) = inl none
      by (inr (same, base)) =
          inr (subst (λ (k : Collection). IsFairEnd c k outcome) base
          synced.fair)

  bad_row : (fault : CheckFault) → outcome ≡ outcomes.BadRow fault → (own.asked.tries ≡ [] ⊎ IsFairEnd c held outcome) → ⊥
  bad_row fault is (inl none) =
      unchecked (stops.BadRow fault) none (subst (EndsAt (meta_tried own.asked.meta ∷ own.asked.tries) after.wire) is own.ends.why)
  bad_row fault is (inr fair_end) = fair_end (stops.BadRow fault) is it.joinable.joins

  bad_counts : (client server : SanityCounts) → outcome ≡ outcomes.BadCounts client server → (own.asked.tries ≡ [] ⊎ IsFairEnd c held outcome) → ⊥
  bad_counts client server is (inl none) =
      unchecked (stops.BadCounts client server) none (subst (EndsAt (meta_tried own.asked.meta ∷ own.asked.tries) after.wire) is own.ends.why)
  bad_counts client server is (inr fair_end) = fair_end (stops.BadCounts client server) is

  -- and the chunks are few
  too_many : outcome ≡ outcomes.TooManyChunks → (own.asked.tries ≡ [] ⊎ IsFairEnd c held outcome) → ⊥
  too_many is (inl none) =
      none_many (subst (λ (l : List TriedAsk). AreTooMany (meta_tried own.asked.meta ∷ l)) none (subst (EndsAt (meta_tried own.asked.meta ∷ own.asked.tries) after.wire) is own.ends.why))
    where
      none_many : AreTooMany (meta_tried own.asked.meta ∷ []) → ⊥
      none_many (inl came) = omega (arith, came)
      none_many (inr sent) = omega (arith, sent)
  too_many is (inr fair_end) = by (fair_end stops.TooManyChunks is)
    where
      by : HasTenMillionRows c held → ⊥
      by (inl pulled) = let less = it.joinable.pulled in omega (arith, pulled, less)
      by (inr pushed) = let less = it.joinable.pushed in omega (arith, pushed, less)

  -- so it ends well, or because a request was lost, or the device's keeper failed
  by_outcome : (o : Outcome) → outcome ≡ o → EndsWell it.growth o ⊎ ((o ≡ outcomes.Lost) ⊎ (o ≡ outcomes.Keep))
  by_outcome outcomes.Finished is = inl tt
  by_outcome outcomes.NoChanges is = absurd (goes_on (ap is_told_by_meta is))
  by_outcome (outcomes.FullSchema device server) is = absurd (goes_on (ap is_told_by_meta is))
  by_outcome (outcomes.FullSequence usn) is = absurd (goes_on (ap is_told_by_meta is))
  by_outcome (outcomes.BadRow fault) is = absurd (bad_row fault is fair)
  by_outcome (outcomes.BadCounts client server) is = absurd (bad_counts client server is fair)
  by_outcome (outcomes.ClockOff device server) is = absurd (goes_on (ap is_told_by_meta is))
  by_outcome (outcomes.OwnCheck fault) is = absurd (goes_on (ap is_told_by_meta is))
  by_outcome outcomes.Stopped is = absurd (goes_on (ap is_told_by_meta is))
  by_outcome (outcomes.Refused status word seen) is =
      inl (refused status word seen (subst (EndsAt (meta_tried own.asked.meta ∷ own.asked.tries) after.wire) is own.ends.why))
  by_outcome outcomes.Lost is = inr (inl refl)
  by_outcome outcomes.BadReply is = absurd (readable (subst (EndsAt (meta_tried own.asked.meta ∷ own.asked.tries) after.wire) is own.ends.why))
  by_outcome outcomes.TooManyChunks is = absurd (too_many is fair)
  by_outcome outcomes.Keep is = inr (inr refl)
  by_outcome outcomes.Memory is = inl tt

  pub ends_by_fault : EndsWell it.growth outcome ⊎ ((outcome ≡ outcomes.Lost) ⊎ (outcome ≡ outcomes.Keep))
  ends_by_fault = by_outcome outcome refl

-- a keeper's fault and a lost request come only of a count that rose
module _ {kind : WireKind} (ids : Ids) (c : Collection) (account : AccountState) (before after : SyncEnds kind) (outcome : Outcome)
    (it : IsUnhindered ids c account before after) (sync : IsSyncOver ids before after outcome) where
  pub completes_lossy : EndsWell it.growth outcome ⊎ (outcome ≡ outcomes.Lost)
  completes_lossy = by (ends_by_fault ids c account before after outcome it sync.ended)
    where
      by : EndsWell it.growth outcome ⊎ ((outcome ≡ outcomes.Lost) ⊎ (outcome ≡ outcomes.Keep)) → EndsWell it.growth outcome ⊎ (outcome ≡ outcomes.Lost)
      by (inl well) = inl well
      by (inr (inl lost)) = inr lost
      by (inr (inr kept)) = absurd (it.keeper (sync.kept.failed kept))

  pub completes_faultless : (Rose before.health after.health → ⊥) → EndsWell it.growth outcome
  completes_faultless calm = by completes_lossy
    where
      by : EndsWell it.growth outcome ⊎ (outcome ≡ outcomes.Lost) → EndsWell it.growth outcome
      by (inl well) = well
      by (inr lost) = absurd (calm (sync.lost.failed lost))
