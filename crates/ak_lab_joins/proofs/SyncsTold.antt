-- The outcome of a sync tells whether the server committed in it, if nobody comes between its calls.
use Rattle.std.specs.List.{AllByRecursion}
use Rattle.std.specs.Prelude.{◌≡◌, ◌≢◌, ◌⊎◌, ◌+◌, ◌+ℤ◌, ℕ, suc, ℤ, true, false, List, [], ◌∷◌, ◌++◌, length, Result}
use Rattle.std.proofs.Common.{refl, sym, ap, subst, ◌∙◌, inl, inr, append_assoc, arith}
use Rattle.ak_call_counts.specs.CallCounts.{no_calls}
use Rattle.ak_client.specs.Syncs.{ArePlain, EndsAt, LacksMemoryEarly, ends_before_finish, meta_tried}
use Rattle.ak_client.specs.declared.outcomes.Outcome.{Outcome}
use Rattle.ak_client.specs.declared.outcomes.Outcome.TheVariants as outcomes
use Rattle.ak_client_wire.specs.Wires.{WireState}
use Rattle.ak_client_wire.specs.declared.asks.Unanswered.TheVariants as unanswered
use Rattle.ak_client_wire.specs.declared.wires.WireEnd.{WireEnd}
use Rattle.ak_exchange.proofs.Tried.{asks_append, requests_append}
use Rattle.ak_exchange.specs.Asked.{TriedAsk, asker, asks_in, request_at}
use Rattle.ak_exchange.specs.Grants.{EndsUnanswered, IsNotGranted, SendsRows, is_in_form}
use Rattle.ak_faults.specs.Causes.{one_more}
use Rattle.ak_keep.specs.Collections.{Collection}
use Rattle.ak_lab.specs.LabStates.{LabState}
use Rattle.ak_lab.specs.LabSyncs.{server_met, with_fails}
use Rattle.ak_lab_joins.proofs.Alone.{EndsAlone}
use Rattle.ak_lab_joins.proofs.CommitsShown.{only_quiet}
use Rattle.ak_lab_joins.proofs.Ends.{kept_early}
use Rattle.ak_lab_joins.proofs.Here as here
use Rattle.ak_lab_joins.proofs.SchemasStay.{finish_alone, no_upload}
use Rattle.ak_lab_joins.proofs.Synced as synced
use Rattle.ak_lab_joins.proofs.TriesTold.{IsMild, QuietOrBoth, ShowsNone, StandsIdle, session_goes, shows_commit}
use Rattle.ak_lab_joins.proofs.Worlds.{StaysQuiet}
use Rattle.ak_lab_joins.specs.LabJoins.{HasSession, IsLinkedDevice, IsLinkedLab, IsLinkedServer, KeepsCommitted, lab_world, world_in}
use Rattle.ak_lab_wires.specs.CrossedSyncs.{CrossesAt, crosses_nothing}
use Rattle.ak_lab_wires.specs.declared.lab_sessions.SessionKind.TheVariants as kinds
use Rattle.ak_messages.specs.declared.replies.Reply.{Reply}
use Rattle.ak_messages.specs.declared.replies.Word.{Word}
use Rattle.ak_messages.specs.declared.requests.Ask.{Ask}
use Rattle.ak_messages.specs.declared.requests.Ask.TheVariants as asks
use Rattle.ak_protocol.proofs.Commits.{not_both}
use Rattle.ak_protocol.proofs.Syncs.{all_append}
use Rattle.ak_protocol.specs.Accounts.{AccountState}
use Rattle.ak_session.proofs.PlanLaws.{finish_is_last}
use Rattle.ak_session.specs.Plans.{Asker, planned, requests_from}
use Rattle.ak_session.specs.Requests.{asks_commit}
use Rattle.ak_sync_in_memory.specs.Entries.{LoggedState, health_in}
use Rattle.ak_sync_in_memory.specs.LoopWires.{health_over, inside_with, loop_kind, state_of_loop}
use Rattle.ak_sync_in_memory.specs.declared.mishaps.Mishap.{Mishap}

-- ---- what a sync asked before its last request
module _ (who : Asker) (c s : Collection) where
  none_asked : (step : ℕ) (list : List Ask) → requests_from who s.head.moment step list ≡ [] → list ≡ []
  none_asked step [] is = refl
  none_asked step (ask ∷ more) is = absurd (grind (arith, is))

  -- nothing stands in a plan after what commits
  commit_is_last : (front : List Ask) (ask : Ask) (rest : List Ask) → front ++ ask ∷ rest ≡ planned c s → asks_commit ask ≡ true → rest ≡ []
  commit_is_last front ask rest is commits =
      none_asked (1 + length front + 1) rest
      (finish_is_last who c s (requests_from who s.head.moment 1 front) (request_at who s.head.moment (1 + length front) ask)
      (requests_from who s.head.moment (1 + length front + 1) rest)
      (sym (requests_append who s.head.moment 1 front (ask ∷ rest)) ∙ ap (requests_from who s.head.moment 1) is) commits).2

  some_left : (front : List Ask) (ask : Ask) (rest : List Ask) → front ++ ask ∷ rest ≡ [] → ⊥
  some_left [] ask rest is = grind (arith, is)
  some_left (one ∷ front) ask rest is = grind (arith, is)

  -- so what was asked before something else does not commit
  earlier_mild : (mishaps : List Mishap) (asked : List Ask) (front : List TriedAsk) (last : Ask) (rest : List Ask)
      → asked ++ (asks_in front ++ last ∷ rest) ≡ planned c s → AllByRecursion (IsMild mishaps) front
  earlier_mild mishaps asked [] last rest is = tt
  earlier_mild mishaps asked (one ∷ front) last rest is =
      (inl plain, earlier_mild mishaps (asked ++ one.ask ∷ []) front last rest (append_assoc asked (one.ask ∷ []) (asks_in front ++ last ∷ rest) ∙ is))
    where
      plain : asks_commit one.ask ≡ false
      plain =
          elim (asks_commit one.ask) as (λ b. asks_commit one.ask ≡ b → b ≡ false) [
            | true ↦ λ commits. absurd (some_left (asks_in front) last rest (commit_is_last asked one.ask (asks_in front ++ last ∷ rest) is commits))
            | false ↦ λ e. refl
          ] refl

  -- if what was tried last is mild, all that was tried after the meta is
  tries_mild : (mishaps : List Mishap) (meta : Result Reply WireEnd) (tries before : List TriedAsk) (it : TriedAsk) (rest : List Ask)
      → meta_tried meta ∷ tries ≡ before ++ it ∷ [] → asks_in tries ++ rest ≡ planned c s → IsMild mishaps it → AllByRecursion (IsMild mishaps) tries
  tries_mild mishaps meta tries [] it rest parts is mild =
      let none : tries ≡ [] = grind (arith, parts) in
      subst (AllByRecursion (IsMild mishaps)) (sym none) tt
  tries_mild mishaps meta tries (one ∷ before) it rest parts is mild =
      let same : tries ≡ before ++ it ∷ [] = grind (arith, parts) in
      subst (AllByRecursion (IsMild mishaps)) (sym same)
      (all_append (IsMild mishaps) before (it ∷ [])
      (earlier_mild mishaps [] before it.ask rest
      (sym (append_assoc (asks_in before) (it.ask ∷ []) rest)
      ∙ ap (λ (l : List Ask). l ++ rest) (sym (asks_append before (it ∷ [])) ∙ ap asks_in (sym same))
      ∙ is))
      (mild, tt))

-- ---- what was tried last
last_sends : (before : List TriedAsk) (it : TriedAsk) → AllByRecursion SendsRows (asks_in (before ++ it ∷ [])) → SendsRows it.ask
last_sends [] it all = all.0
last_sends (one ∷ before) it all = last_sends before it all.1

-- what a sync asks commits nothing, or is its finish
plain_or_finish : (ask : Ask) → SendsRows ask → (asks_commit ask ≡ false) ⊎ (ask ≡ asks.Finish)
plain_or_finish ask sends =
    elim (asks_commit ask) as (λ b. asks_commit ask ≡ b → (asks_commit ask ≡ false) ⊎ (ask ≡ asks.Finish)) [
      | true ↦ λ commits. inr (finish_alone ask commits (no_upload ask sends))
      | false ↦ λ plain. inl plain
    ] refl

-- it was refused
refused_mild : (mishaps : List Mishap) (it : TriedAsk) (status : ℕ) (word : Word) (seen : ℤ) → SendsRows it.ask
    → IsNotGranted it (unanswered.Refused status word seen) → IsMild mishaps it
refused_mild mishaps it status word seen sends (reply, is, other, _, _, _) = by (plain_or_finish it.ask sends)
  where
    by : (asks_commit it.ask ≡ false) ⊎ (it.ask ≡ asks.Finish) → IsMild mishaps it
    by (inl plain) = inl plain
    by (inr finish) = inr (subst (ShowsNone mishaps it.ask) (sym is) (inl other, inr finish))

-- or it was answered by what is no reply to it
unread_mild : (mishaps : List Mishap) (it : TriedAsk) → SendsRows it.ask → IsNotGranted it unanswered.BadReply → IsMild mishaps it
unread_mild mishaps it sends (inl unread) = inr (subst (ShowsNone mishaps it.ask) (sym unread) tt)
unread_mild mishaps it sends (inr (reply, is, ok, wrong)) = by (plain_or_finish it.ask sends)
  where
    by : (asks_commit it.ask ≡ false) ⊎ (it.ask ≡ asks.Finish) → IsMild mishaps it
    by (inl plain) = inl plain
    by (inr finish) =
        inr (subst (ShowsNone mishaps it.ask) (sym is) (
          inr (ap (λ (a : Ask). shows_commit a reply.give) finish ∙ ap (λ (a : Ask). is_in_form a reply.give) (sym finish) ∙ wrong),
          inr finish,
        ))

-- none of these commits
plain_mild : (mishaps : List Mishap) (tries : List TriedAsk) → ArePlain (asks_in tries) → AllByRecursion (IsMild mishaps) tries
plain_mild mishaps [] all = tt
plain_mild mishaps (it ∷ tries) all = (inl all.0, plain_mild mishaps tries all.1)

-- ---- a sync
module _ (account : AccountState) (name : List ℕ) (s t : LabState) (outcome : Outcome) (linked : IsLinkedLab account s) (room : HasSession s)
    (ends : EndsAlone kinds.Sync name s t outcome) where
  server_here : IsLinkedServer ends.session.ids.host.digits account s.sessions (server_met kinds.Sync s)
  server_here = here.server_here kinds.Sync account name s t outcome linked ends

  abbrev device_here : IsLinkedDevice (world_in ends.session.ids.host.digits account s.server).state.committed ends.d
  device_here = here.device_here kinds.Sync account name s t outcome linked ends

  server_now : IsLinkedServer ends.session.ids.host.digits account (one_more s.sessions) (with_fails ends.fails_left t.server)
  server_now =
      synced.server_now account s.sessions s.clock (s.clock +ℤ ends.d.shift) ends.d ends.made (server_met kinds.Sync s) (with_fails ends.fails_left t.server) outcome room ends.session
      server_here device_here

  -- what was asked is a front of a plan
  asked : (base : Collection) × (rest : List Ask) × (asks_in ends.session.ended.ended.sync.asked.tries ++ rest ≡ planned device_here.c base)
  asked =
      synced.asked_front account s.sessions s.clock (s.clock +ℤ ends.d.shift) ends.d ends.made (server_met kinds.Sync s) (with_fails ends.fails_left t.server) outcome room ends.session
      server_here device_here

  -- what is known of the wire before the first call and after the last one
  abbrev first : WireState (loop_kind CrossesAt crosses_nothing)
  first = state_of_loop CrossesAt crosses_nothing (inside_with (server_met kinds.Sync s) ends.session.was s.clock ends.d.mishaps no_calls)

  abbrev last : WireState (loop_kind CrossesAt crosses_nothing)
  last = state_of_loop CrossesAt crosses_nothing ends.session.end

  module _ (clear : (ends.d.mishaps ≡ []) ⊎ ((health_in (server_met kinds.Sync s)).calm ≡ true)) where
    stands : StandsIdle CrossesAt crosses_nothing account (asker ends.session.ids) ends.d.mishaps first.inside
    stands = record {
      alone = ends.session.alone;
      opens = (server_here.unused (suc s.sessions) (omega arith)).opening;
      same = refl;
      clear = clear;
    }

    -- if all that was tried is mild, nothing was committed
    mild_commits_nothing : AllByRecursion (IsMild ends.d.mishaps) ends.session.ended.ended.sync.asked.tries → KeepsCommitted (lab_world account s) (lab_world account t)
    mild_commits_nothing mild = (quiet.committed, quiet.commits)
      where
        both : QuietOrBoth (world_in ends.session.ids.host.digits account s.server) (world_in ends.session.ids.host.digits account ends.session.end.server)
        both =
            session_goes CrossesAt crosses_nothing account (asker ends.session.ids) ends.d.mishaps ends.session.ids ends.session.ended.ended.sync.asked.moment
            ends.session.ended.ended.sync.asked.meta ends.session.ended.ended.sync.asked.tries (health_over no_calls ends.d.mishaps) ends.session.health first last refl stands mild
            ends.session.ended.ended.sync.asked.tried

        here_quiet : StaysQuiet (world_in ends.session.ids.host.digits account s.server) (world_in ends.session.ids.host.digits account t.server)
        here_quiet =
            only_quiet (world_in ends.session.ids.host.digits account s.server) (world_in ends.session.ids.host.digits account t.server) server_now.lawful.committed.head
            (subst (λ (z : LoggedState). QuietOrBoth (world_in ends.session.ids.host.digits account s.server) (world_in ends.session.ids.host.digits account z))
            ends.session.server both)

        quiet : StaysQuiet (lab_world account s) (lab_world account t)
        quiet = subst (λ (h : List ℕ). StaysQuiet (world_in h account s.server) (world_in h account t.server)) ends.session.of.host here_quiet

    -- so it is if what was tried last is
    last_commits_nothing : (it : TriedAsk) (before : List TriedAsk) → meta_tried ends.session.ended.ended.sync.asked.meta ∷ ends.session.ended.ended.sync.asked.tries ≡ before ++ it ∷ []
        → IsMild ends.d.mishaps it → KeepsCommitted (lab_world account s) (lab_world account t)
    last_commits_nothing it before parts mild =
        mild_commits_nothing
        (tries_mild (asker ends.session.ids) device_here.c asked.0 ends.d.mishaps ends.session.ended.ended.sync.asked.meta ends.session.ended.ended.sync.asked.tries before it asked.1 parts asked.2 mild)

    -- memory ran out before it asked its finish, or in its last call. If nothing is lost or repeated, that was not served
    lacking_commits_nothing : ends.d.mishaps ≡ [] → LacksMemoryEarly (meta_tried ends.session.ended.ended.sync.asked.meta ∷ ends.session.ended.ended.sync.asked.tries)
        → KeepsCommitted (lab_world account s) (lab_world account t)
    lacking_commits_nothing nothing (inl plain) = mild_commits_nothing (plain_mild ends.d.mishaps ends.session.ended.ended.sync.asked.tries plain.1)
    lacking_commits_nothing nothing (inr (it, (before, parts), is)) =
        last_commits_nothing it before parts (inr (subst (ShowsNone ends.d.mishaps it.ask) (sym is) nothing))

    pub others_commit_nothing : outcome ≢ outcomes.Finished → outcome ≢ outcomes.Keep → outcome ≢ outcomes.Lost
        → (outcome ≢ outcomes.Memory) ⊎ (ends.d.mishaps ≡ [])
        → KeepsCommitted (lab_world account s) (lab_world account t)
    others_commit_nothing other unkept unlost shown = by outcome refl
      where
        lacking : outcome ≡ outcomes.Memory → (outcome ≢ outcomes.Memory) ⊎ (ends.d.mishaps ≡ []) → KeepsCommitted (lab_world account s) (lab_world account t)
        lacking is (inl enough) = absurd (enough is)
        lacking is (inr nothing) = lacking_commits_nothing nothing (ends.session.ended.memory refl is)

        ends_at : (o : Outcome) → outcome ≡ o → EndsAt (meta_tried ends.session.ended.ended.sync.asked.meta ∷ ends.session.ended.ended.sync.asked.tries) last o
        ends_at o is = subst (EndsAt (meta_tried ends.session.ended.ended.sync.asked.meta ∷ ends.session.ended.ended.sync.asked.tries) last) is ends.session.ended.ended.sync.ends.why

        early : (o : Outcome) → outcome ≡ o → ends_before_finish o ≡ true → KeepsCommitted (lab_world account s) (lab_world account t)
        early o is before =
            let early_so : ends_before_finish outcome ≡ true = ap ends_before_finish is ∙ before in
            kept_early account name s t outcome linked room ends (λ memory. not_both early_so (ap ends_before_finish memory)) early_so

        sends : (it : TriedAsk) (before : List TriedAsk) → meta_tried ends.session.ended.ended.sync.asked.meta ∷ ends.session.ended.ended.sync.asked.tries ≡ before ++ it ∷ [] → SendsRows it.ask
        sends it before parts = last_sends before it (subst (λ (l : List TriedAsk). AllByRecursion SendsRows (asks_in l)) parts (tt, ends.session.ended.ended.sync.bounded.rows))

        refused : (status : ℕ) (word : Word) (seen : ℤ)
            → EndsUnanswered (meta_tried ends.session.ended.ended.sync.asked.meta ∷ ends.session.ended.ended.sync.asked.tries) (unanswered.Refused status word seen)
            → KeepsCommitted (lab_world account s) (lab_world account t)
        refused status word seen (it, (before, parts), refusal) =
            last_commits_nothing it before parts (refused_mild ends.d.mishaps it status word seen (sends it before parts) refusal)

        unread : EndsUnanswered (meta_tried ends.session.ended.ended.sync.asked.meta ∷ ends.session.ended.ended.sync.asked.tries) unanswered.BadReply
            → KeepsCommitted (lab_world account s) (lab_world account t)
        unread (it, (before, parts), refusal) = last_commits_nothing it before parts (unread_mild ends.d.mishaps it (sends it before parts) refusal)

        by : (o : Outcome) → outcome ≡ o → KeepsCommitted (lab_world account s) (lab_world account t)
        by outcomes.Finished is = absurd (other is)
        by (outcomes.Refused status word seen) is = refused status word seen (ends_at (outcomes.Refused status word seen) is)
        by outcomes.Lost is = absurd (unlost is)
        by outcomes.BadReply is = unread (ends_at outcomes.BadReply is)
        by outcomes.Keep is = absurd (unkept is)
        by outcomes.Memory is = lacking is shown
        by outcomes.NoChanges is = early outcomes.NoChanges is refl
        by (outcomes.FullSchema device server) is = early (outcomes.FullSchema device server) is refl
        by (outcomes.FullSequence usn) is = early (outcomes.FullSequence usn) is refl
        by (outcomes.BadRow fault) is = early (outcomes.BadRow fault) is refl
        by (outcomes.BadCounts client server) is = early (outcomes.BadCounts client server) is refl
        by (outcomes.ClockOff device server) is = early (outcomes.ClockOff device server) is refl
        by (outcomes.OwnCheck fault) is = early (outcomes.OwnCheck fault) is refl
        by outcomes.Stopped is = early outcomes.Stopped is refl
        by outcomes.TooManyChunks is = early outcomes.TooManyChunks is refl
