-- What a whole sync asks and leaves.
use Rattle.std.specs.List.{AllByRecursion}
use Rattle.std.specs.Prelude.{◌≡◌, ℤ, pos, ◌+◌, ◌/◌, ◌≤◌, Bool, false, List, [], ◌∷◌, ◌++◌, length, Option, Some, None, Result, Ok, Err, IfOk}
use Rattle.std.proofs.Common.{refl, sym, ap, subst, ◌∙◌, append_assoc, inl, inr, arith}
use Rattle.std.proofs.lemmas.List.{length-append}
use Rattle.std.proofs.lemmas.Option.{same_Some}
use Rattle.ak_client.proofs.Alone.{alone_stays, commits_alone, requests_are_of}
use Rattle.ak_client.proofs.Causes.{met_because, unmet_because}
use Rattle.ak_client.proofs.Clocks.{good_end, stop_told, unchanged_unfinished}
use Rattle.ak_client.proofs.Ending.{no_graves}
use Rattle.ak_client.proofs.Fates.{at_most_once, plain_commits_nothing, stays_once, stays_unused}
use Rattle.ak_client.proofs.Greeting.{IsMetBySome, asked_meta, greeted, greeting_ends, meta_granted}
use Rattle.ak_client.proofs.Growing.{commits_grown, tried_grows, world_grown, own_timely}
use Rattle.ak_client.proofs.Leading.{linked_after}
use Rattle.ak_client.proofs.Meeting.{formed_by, is_met, may_sync}
use Rattle.ak_client.proofs.Unchanging.{found_unchanged, same_content}
use Rattle.ak_client.specs.Endings.{Ended, Ends, IsEnded}
use Rattle.ak_client.specs.Greetings.{EndsGreeting, GreetsTold, IsGreeting, IsMetBy, IsMetOver, IsReady, clock_stop, meta_of}
use Rattle.ak_client.specs.Outcomes.{changes_device, is_told_by_meta}
use Rattle.ak_client.specs.Syncs.{CommitsAtMostOnce, EndsAt, IsCommittedIn, IsFairEnd, IsShown, IsSync, IsSyncEnded, IsSyncFinished, IsSyncSparing, LacksMemoryEarly, MayBegin, StaysOnce, Synced, meta_tried, world_at}
use Rattle.ak_client.specs.declared.outcomes.Outcome.{Outcome}
use Rattle.ak_client.specs.declared.outcomes.Outcome.TheVariants as outcomes
use Rattle.ak_exchange.proofs.Replying.{requests_count}
use Rattle.ak_exchange.proofs.Stopping.{but_last_then, checked_then, ends_then, many_then, memory_then}
use Rattle.ak_exchange.proofs.Tried.{few_none, tried_then}
use Rattle.ak_exchange.specs.Asked.{AreTried, TriedAsk, answers_in, asker, asks_in}
use Rattle.ak_exchange.specs.Grants.{AreTooMany, IsGranted}
use Rattle.ak_exchange.specs.Phases.{AreGraveRequests, IsMet, holding, held_by}
use Rattle.ak_exchange.specs.declared.envelopes.Ids.{Ids}
use Rattle.ak_exchange.specs.declared.envelopes.Met.{Met}
use Rattle.ak_exchange.specs.Stops.{wire_stop}
use Rattle.ak_exchange.specs.declared.stops.Stop.TheVariants as stops
use Rattle.ak_faults.specs.Causes.{Health}
use Rattle.ak_io.specs.Arrivals.{GivesNext}
use Rattle.ak_keep.specs.Collections.{Collection, Holding}
use Rattle.ak_keep.specs.Keepers.{IsRightlyKnown, Keeping, WhereTold}
use Rattle.ak_keep.specs.declared.keepers.Wanted.TheVariants.{From, Unsent}
use Rattle.ak_merge.specs.Edits.{second_of}
use Rattle.ak_merge.specs.Exchanges.{AreExchanged, HoldsJoin}
use Rattle.ak_merge.specs.Holdings.{SameContent, content_of}
use Rattle.ak_merge.specs.Links.{AreLinked}
use Rattle.ak_messages.specs.declared.replies.Reply.{Reply}
use Rattle.ak_messages.specs.declared.requests.Ask.{Ask}
use Rattle.ak_messages.specs.declared.requests.Request.{Request}
use Rattle.ak_protocol.proofs.Commits.{not_both}
use Rattle.ak_protocol.proofs.Syncs.{all_append, unused_keys_commit_nothing}
use Rattle.ak_protocol.specs.Accounts.{AccountState}
use Rattle.ak_protocol.specs.Commits.{CommitsGrow, EachNewer, HasFreshSchema}
use Rattle.ak_protocol.specs.Logs.{Commit, Event, World, Log, IsTimely, commits_of, events_of, with_growth, world_after}
use Rattle.ak_protocol.specs.Syncs.{IsUnderWay, IsUnused}
use Rattle.ak_session.proofs.PlanLaws.{plans_are_short}
use Rattle.ak_session.specs.Plans.{Asker, planned, requests_from}
use Rattle.ak_session.specs.Requests.{asks_commit}
use Rattle.ak_session.specs.Sessions.{MaySync}
use Rattle.ak_session.specs.Slices.{wanted_graves, wanted_in_chunks}
use Rattle.ak_client_wire.specs.Wires.{WireKind, WireState}
use Rattle.ak_client_wire.specs.declared.asks.Unanswered.{Unanswered}
use Rattle.ak_client_wire.specs.declared.asks.Unanswered.TheVariants as unanswered
use Rattle.ak_client_wire.specs.declared.wires.MetaSaid.{MetaSaid}
use Rattle.ak_client_wire.specs.declared.wires.WireEnd.{WireEnd}

-- ---- a sync whose meta was not answered, or that was ended by it
synced_unmet : (ids : Ids) (outcome : Outcome) (c base : Collection) (account : AccountState) (old now : Log) (growth : List Event) (left : Keeping)
    → now ≡ with_growth old growth → AllByRecursion IsTimely growth → IsUnused ids.host.digits ids.session.0 account now → changes_device outcome ≡ false → IsFairEnd c base outcome
    → (outcome ≡ outcomes.NoChanges → IsCommittedIn (asker ids) account old growth base × SameContent (content_of c) (content_of base))
    → Synced (asker ids) (pos 0) [] c account old now left outcome
synced_unmet ids outcome c base account old now growth left grown timely unused kept fair unchanged = record {
  growth = growth;
  grown = grown;
  timely = timely;
  server = subst (λ (log : Log). CommitsGrow (world_at (asker ids) account old) (world_at (asker ids) account log)) (sym grown)
      (commits_grown (asker ids) account old growth);
  base = base;
  at_meta = inl refl;
  shown = inl (refl, unused);
  front = (planned c base, refl);
  short = omega arith;
  once = stays_unused (asker ids) c base (pos 0) account now unused;
  early = λ early. unused_keys_commit_nothing ids.host.digits ids.session.0 account now unused;
  finished = λ is. absurd (unchanged_unfinished outcome kept is);
  fair = fair;
  unchanged = unchanged;
}

-- by what the meta was answered
synced_greeted : (ids : Ids) (outcome : Outcome) (c : Collection) (account : AccountState) (old now : Log) (growth : List Event) (before left : Keeping) (old_moments new_moments : Option (List ℤ))
    → now ≡ with_growth old growth → AllByRecursion IsTimely growth → IsUnused ids.host.digits ids.session.0 account now → before ≡ holding c → MayBegin (asker ids) c account old
    → EachNewer (HasFreshSchema c) (world_at (asker ids) account old) (world_at (asker ids) account now) → changes_device outcome ≡ false → ((base : Collection) → IsFairEnd c base outcome)
    → (answer : Result MetaSaid Unanswered) → IfOk answer (λ meta. (s : Collection) × IsMetOver (asker ids) account old now s × IsMetBy meta s)
    → EndsGreeting answer old_moments new_moments before outcome → Synced (asker ids) (pos 0) [] c account old now left outcome
synced_greeted ids outcome c account old now growth before left old_moments new_moments grown timely unused holds may fresh kept fair (Err why) met ends =
    synced_unmet ids outcome c c account old now growth left grown timely unused kept (fair c)
    (λ none. absurd (not_both (ap is_told_by_meta none) (ap is_told_by_meta ends ∙ stop_told (wire_stop why))))
synced_greeted ids outcome c account old now growth before left old_moments new_moments grown timely unused holds may fresh kept fair (Ok meta) (s, over, by_meta) ends =
    synced_unmet ids outcome c s account old now (over.front ++ over.rest) left over.grown over.timely unused kept (fair s) (λ none.
    let found = found_unchanged old_moments new_moments before meta outcome ends none in (
      record { front = over.front; rest = over.rest; parts = refl; place = over.place },
      same_content (asker ids) c s account old now before meta found.0 holds may over by_meta fresh found.1,
    ))

-- a meta alone asks for no chunk
meta_is_one : (answer : Result Reply WireEnd) → AreTooMany (meta_tried answer ∷ []) → ⊥
meta_is_one answer (inl came) = omega (arith, came)
meta_is_one answer (inr sent) = omega (arith, sent)

pub unmet : {kind : WireKind} (ids : Ids) (outcome : Outcome) (before left : Keeping) (h0 h1 : Health) (w0 w1 : WireState kind) (old_moments new_moments : Option (List ℤ))
    → IsGreeting ids h0 h1 w0 w1 old_moments new_moments before (Err outcome) → changes_device outcome ≡ false
    → GreetsTold ids w0.log w1.log (Err outcome) → IsSync ids before left h0 h1 w0 w1 outcome
unmet ids outcome before left h0 h1 w0 w1 old_moments new_moments it kept greets =
    let tried : AreTried (meta_of ids ∷ []) (it.heard.answer ∷ []) h0 h1 w0 w1 = asked_meta ids h0 h1 w0 w1 it.answer it.heard in
    record {
      asked = record { meta = it.heard.answer; moment = pos 0; tries = []; tried = tried };
      bounded = record { graves = 0; graves_most = no_graves before; few = few_none 40_000 39_999 (5 + 0); rows = tt };
      ends = record {
        granted = tt;
        all_granted = λ is. absurd (unchanged_unfinished outcome kept is);
        why = greeting_ends ids h0 h1 w0 w1 old_moments new_moments before outcome it;
      };
      told = λ old told.
          let grown = tried_grows (meta_of ids ∷ []) (it.heard.answer ∷ []) h0 h1 w0 w1 old tried told in (
            grown.now,
            grown.is,
            λ c account holds may fresh.
                let greeted_so = greeted ids account old may.unused h0 h1 w0 w1 it.answer told it.heard in
                let same : greeted_so.0 ≡ grown.now = same_Some greeted_so.0 grown.now (sym greeted_so.1 ∙ grown.is) in
                synced_greeted ids outcome c account old grown.now grown.growth before left old_moments new_moments grown.grown grown.timely
                (subst (λ (log : Log). IsUnused ids.host.digits ids.session.0 account log) same greeted_so.2) holds may fresh kept
                (λ base. good_end c base outcome (meta_tried it.heard.answer ∷ []) w1 kept (meta_is_one it.heard.answer)
                (greeting_ends ids h0 h1 w0 w1 old_moments new_moments before outcome it))
                it.answer (subst (λ (log : Log). IfOk it.answer (IsMetBySome ids account old may.unused log)) same greeted_so.3) it.ends,
          );
      wire = record {
        alone = alone_stays (meta_of ids ∷ []) (it.heard.answer ∷ []) h0 h1 w0 w1 tried;
        commits = commits_alone (asker ids) (meta_of ids ∷ []) (it.heard.answer ∷ []) h0 h1 w0 w1 tried (refl, tt);
      };
    }

-- and why
pub unmet_ended : {kind : WireKind} (ids : Ids) (outcome : Outcome) (before left : Keeping) (h0 h1 : Health) (w0 w1 : WireState kind) (old_moments new_moments : Option (List ℤ))
    → IsGreeting ids h0 h1 w0 w1 old_moments new_moments before (Err outcome) → changes_device outcome ≡ false
    → GreetsTold ids w0.log w1.log (Err outcome) → IsSyncEnded ids before left h0 h1 w0 w1 old_moments outcome
unfolding unmet
unmet_ended ids outcome before left h0 h1 w0 w1 old_moments new_moments it kept greets = record {
  sync = unmet ids outcome before left h0 h1 w0 w1 old_moments new_moments it kept greets;
  because = unmet_because ids h0 h1 w0 w1 old_moments new_moments before outcome it (pos 0);
}

-- what ended it at its meta asked no finish
pub unmet_sparing : {kind : WireKind} (spares : Bool) (ids : Ids) (outcome : Outcome) (before left : Keeping) (h0 h1 : Health) (w0 w1 : WireState kind) (old_moments new_moments : Option (List ℤ))
    → IsGreeting ids h0 h1 w0 w1 old_moments new_moments before (Err outcome) → changes_device outcome ≡ false
    → GreetsTold ids w0.log w1.log (Err outcome) → IsSyncSparing spares ids before left h0 h1 w0 w1 old_moments outcome
unfolding unmet unmet_ended
unmet_sparing spares ids outcome before left h0 h1 w0 w1 old_moments new_moments it kept greets = record {
  ended = unmet_ended ids outcome before left h0 h1 w0 w1 old_moments new_moments it kept greets;
  memory = λ spared out. inl (refl, tt);
}

-- ---- a sync that went on
module _ (ids : Ids) (met : Met) (c s : Collection) (account : AccountState) (asks : List Ask) (old mid : Log) (later : List Event) (left : Keeping)
    (outcome : Outcome) (later_timely : AllByRecursion IsTimely later)
    (may : MayBegin (asker ids) c account old)
    (fresh : EachNewer (HasFreshSchema c) (world_at (asker ids) account old) (world_at (asker ids) account (with_growth mid later)))
    (over : IsMetOver (asker ids) account old mid s) (both : IsMet c s met)
    (syncs : MaySync c s) (untold : is_told_by_meta outcome ≡ false)
    (end : Ended c s account (asker ids) asks (Some (with_growth mid later)) left outcome) where
  abbrev now : Log
  now = with_growth mid later

  abbrev who : Asker
  who = asker ids

  abbrev growth : List Event
  growth = over.front ++ (over.rest ++ later)

  timely : AllByRecursion IsTimely growth
  timely =
      subst (AllByRecursion IsTimely) (append_assoc over.front over.rest later)
      (all_append IsTimely (over.front ++ over.rest) later over.timely later_timely)

  now_grown : now ≡ with_growth old growth
  now_grown =
      ap (λ (log : Log). with_growth log later) over.grown
      ∙ ap (λ (events : List Event). record old { events = events })
      (append_assoc old.events (over.front ++ over.rest) later ∙ ap (λ (l : List Event). old.events ++ l) (append_assoc over.front over.rest later))

  under_way : IsUnderWay who.host.digits who.session.0 (requests_from who s.head.moment 1 asks) s account now
  under_way =
      subst (λ (log : Log). IsUnderWay who.host.digits who.session.0 (requests_from who s.head.moment 1 asks) s account log)
      (sym (same_Some now end.shown.reached.0 end.shown.reached.1)) end.shown.reached.2

  -- at the meta's moment
  shown : IsShown who account s met.meta.moment asks now
  shown = subst (λ (moment : ℤ). IsShown who account s moment asks now) (sym both.moment) (inr (refl, under_way))

  once : StaysOnce who c s met.meta.moment asks account now
  once =
      subst (λ (moment : ℤ). StaysOnce who c s moment asks account now) (sym both.moment)
      (stays_once who c s account asks syncs (end.shown.front syncs) now under_way)

  -- a front of the plan is at most as long
  short : length asks + 1 ≤ 8 + length (wanted_graves Unsent c.rows) / 250
      + length (wanted_in_chunks (From c.head.usn) s.rows) / 250 + length (wanted_in_chunks Unsent c.rows) / 250
  short =
      let ahead = end.shown.front syncs in
      let most = plans_are_short who c s syncs.committed.head.usn.low in
      let count = requests_count who s.head.moment 1 (planned c s) in
      let both = length-append asks ahead.0 in
      let whole = ap (λ (l : List Ask). length l) ahead.1 in
      omega (arith, most, count, both, whole)

  -- the join that the one commit holds
  joined : (after : Collection) → commits_of who.session.0 (world_at who account now).commits
      ≡ record { key = who.session.0; before = s; after = after } ∷ []
      → HoldsJoin c s after
  joined after only = by (at_most_once who c s account asks syncs (end.shown.front syncs) now under_way)
    where
      by : CommitsAtMostOnce who.session.0 c s (world_at who account now).commits → HoldsJoin c s after
      by (inl none) = absurd (one_is_none (record { key = who.session.0; before = s; after = after }) (sym only ∙ none))
        where
          one_is_none : (one : Commit) → one ∷ [] ≡ [] → ⊥
          one_is_none one is = grind (arith, is)
      by (inr one) =
          subst (λ (t : Collection). HoldsJoin c s t)
          (ap (λ (l : List Commit). elim l as (λ _. Collection) [ [] ↦ after | x ∷ xs ↦ x.after ]) (sym one.only ∙ only))
          one.joins

  ended : IsEnded c s account who (Some now) left → IsSyncFinished who c s account now left
  ended it =
      let same : now ≡ it.committed.log = same_Some now it.committed.log it.committed.is in
      let only : commits_of who.session.0 (world_at who account now).commits ≡ record { key = who.session.0; before = s; after = it.after } ∷ [] =
      ap (λ (log : Log). commits_of who.session.0 (world_at who account log).commits) same ∙ it.committed.only in
      let halves : AreExchanged c s it.device it.after = it.half syncs (joined it.after only) in
      record {
        after = it.after;
        device = it.device;
        only = only;
        holds = it.holds;
        moment = it.moment;
        last_sync = it.last_sync;
        usn = it.usn;
        schema = it.schema;
        sound = it.sound syncs;
        exchanged = halves;
        linked = linked_now it.device it.after only it.schema (inr halves.linked);
      }
    where
      grown_world : world_at who account now ≡ world_after (world_at who account old) (events_of who.host.digits growth)
      grown_world = ap (world_at who account) now_grown ∙ world_grown who account old growth

      linked_now : (d after : Collection)
          → commits_of who.session.0 (world_at who account now).commits ≡ record { key = who.session.0; before = s; after = after } ∷ []
          → d.head.schema ≡ c.head.schema → AreLinked d after → AreLinked d (world_at who account now).state.committed
      linked_now d after only same linked =
          subst (λ (w : World). AreLinked d w.state.committed) (sym grown_world)
          (linked_after who.session.0 c d (record { key = who.session.0; before = s; after = after }) (world_at who account old)
          (events_of who.host.digits growth) (own_timely who account old growth timely may.lawful) may.lawful
          (subst (EachNewer (HasFreshSchema c) (world_at who account old)) grown_world fresh) may.linked
          (unused_keys_commit_nothing who.host.digits who.session.0 account old may.unused)
          (ap (λ (w : World). commits_of who.session.0 w.commits) (sym grown_world) ∙ only) same linked)

  pub synced_met : Synced who met.meta.moment asks c account old now left outcome
  synced_met = record {
    growth = growth;
    grown = now_grown;
    timely = timely;
    server = subst (λ (log : Log). CommitsGrow (world_at who account old) (world_at who account log)) (sym now_grown)
        (commits_grown who account old growth);
    base = s;
    at_meta = inr (record { front = over.front; rest = over.rest ++ later; parts = refl; place = over.place });
    shown = shown;
    front = end.shown.front syncs;
    short = short;
    once = once;
    early = λ early. plain_commits_nothing who s account asks now (end.early early) under_way;
    finished = λ is. ended (end.finished is);
    fair = end.fair syncs;
    unchanged = λ none. absurd (not_both (ap is_told_by_meta none) untold);
  }

-- what a keeper tells is true of the collection that it holds
told_of : (keeping : Keeping) (c : Collection) (P : Holding → Type 0) → keeping ≡ holding c → WhereTold keeping P → P (held_by c)
told_of keeping c P is told = subst (λ (k : Keeping). WhereTold k P) is told

-- what was tried last is so with the meta before it, which was granted
ends_after : {kind : WireKind} (first : TriedAsk) (tries : List TriedAsk) (wire : WireState kind) (outcome : Outcome) → IsGranted first
    → EndsAt tries wire outcome → EndsAt (first ∷ tries) wire outcome
ends_after first tries wire outcomes.Finished granted ends = tt
ends_after first tries wire outcomes.NoChanges granted ends = tt
ends_after first tries wire (outcomes.FullSchema device server) granted ends = tt
ends_after first tries wire (outcomes.FullSequence usn) granted ends = tt
ends_after first tries wire (outcomes.BadRow fault) granted ends = checked_then (first ∷ []) tries (stops.BadRow fault) wire ends
ends_after first tries wire (outcomes.BadCounts client server) granted ends = checked_then (first ∷ []) tries (stops.BadCounts client server) wire ends
ends_after first tries wire (outcomes.ClockOff device server) granted ends = tt
ends_after first tries wire (outcomes.OwnCheck fault) granted ends = tt
ends_after first tries wire outcomes.Stopped granted ends = tt
ends_after first tries wire (outcomes.Refused status word seen) granted ends = ends_then (first ∷ []) tries (unanswered.Refused status word seen) ends
ends_after first tries wire outcomes.Lost granted ends = ends_then (first ∷ []) tries unanswered.Lost ends
ends_after first tries wire outcomes.BadReply granted ends = ends_then (first ∷ []) tries unanswered.BadReply ends
ends_after first tries wire outcomes.TooManyChunks granted ends = many_then (first ∷ []) tries ends
ends_after first tries wire outcomes.Keep granted ends = (granted, ends)
ends_after first tries wire outcomes.Memory granted ends = memory_then (first ∷ []) tries (granted, tt) ends

pub went_on : {kind : WireKind} (spares : Bool) (ids : Ids) (met : Met) (before kept left : Keeping) (h0 h1 h2 : Health) (w0 w1 w2 : WireState kind) (old_moments new_moments : Option (List ℤ)) (read : Keeping)
    (outcome : Outcome) → IsGreeting ids h0 h1 w0 w1 old_moments new_moments read (Ok met) → GreetsTold ids w0.log w1.log (Ok met) → WhereTold before (λ h. IsReady h met)
    → IsRightlyKnown before → kept ≡ before → Ends spares ids met kept left h1 h2 w1 w2 outcome → IsSync ids before left h0 h2 w0 w2 outcome
went_on spares ids met before kept left h0 h1 h2 w0 w1 w2 old_moments new_moments read outcome it greets ready known same ends =
    let first_tried : AreTried (meta_of ids ∷ []) (it.heard.answer ∷ []) h0 h1 w0 w1 = asked_meta ids h0 h1 w0 w1 it.answer it.heard in
    let list : List Request = requests_from (asker ids) met.meta.moment 1 (asks_in ends.tries) in
    let all_tried : AreTried (meta_of ids ∷ list) (it.heard.answer ∷ answers_in ends.tries) h0 h2 w0 w2 =
    tried_then (meta_of ids ∷ []) list (it.heard.answer ∷ []) (answers_in ends.tries) h0 h1 h2 w0 w1 w2 first_tried ends.tried in
    let granted : IsGranted (meta_tried it.heard.answer) = meta_granted ids h0 h1 w0 w1 it.answer met.meta it.heard it.goes_on in
    record {
      asked = record { meta = it.heard.answer; moment = met.meta.moment; tries = ends.tries; tried = all_tried };
      bounded = record {
        graves = ends.graves;
        graves_most = subst (λ (k : Keeping). AreGraveRequests k ends.graves) same ends.graves_most;
        few = ends.few;
        rows = ends.rows;
      };
      ends = record {
        granted = but_last_then (meta_tried it.heard.answer ∷ []) ends.tries (granted, tt) ends.granted;
        all_granted = λ is. (granted, ends.ends.0 is);
        why = ends_after (meta_tried it.heard.answer) ends.tries w2 outcome granted ends.ends.1;
      };
      told = λ old told.
          let first = tried_grows (meta_of ids ∷ []) (it.heard.answer ∷ []) h0 h1 w0 w1 old first_tried told in
          let then_on = tried_grows list (answers_in ends.tries) h1 h2 w1 w2 first.now ends.tried first.is in (
            with_growth first.now then_on.growth,
            then_on.is ∙ ap (λ (log : Log). Some log) then_on.grown,
            λ c account holds may fresh.
                let greeted = greets account old told may.unused in
                let met_over : IsMetOver (asker ids) account old first.now greeted.2.met.0 =
                subst (λ (log : Log). IsMetOver (asker ids) account old log greeted.2.met.0)
                (same_Some greeted.0 first.now (sym greeted.1 ∙ first.is)) greeted.2.met.1 in
                let ready_so : IsReady (held_by c) met = told_of before c (λ h. IsReady h met) holds ready in
                let both : IsMet c greeted.2.met.0 met = is_met c greeted.2.met.0 met ready_so greeted.2.met.2 in
                synced_met ids met c greeted.2.met.0 account (asks_in ends.tries) old first.now then_on.growth left outcome then_on.timely may fresh met_over both
                (may_sync (asker ids) c greeted.2.met.0 account old first.now then_on.growth met may met_over fresh (formed_by c before holds known) ready_so greeted.2.met.2) ends.ends.2
                (subst (λ (o : Option Log). Ended c greeted.2.met.0 account (asker ids) (asks_in ends.tries) o left outcome)
                (then_on.is ∙ ap (λ (log : Log). Some log) then_on.grown)
                (ends.told c greeted.2.met.0 account both (first.now, first.is, met_over.under_way) (same ∙ holds))),
          );
      wire = record {
        alone = alone_stays (meta_of ids ∷ list) (it.heard.answer ∷ answers_in ends.tries) h0 h2 w0 w2 all_tried;
        commits = commits_alone (asker ids) (meta_of ids ∷ list) (it.heard.answer ∷ answers_in ends.tries) h0 h2 w0 w2 all_tried
            (refl, requests_are_of (asker ids) met.meta.moment 1 (asks_in ends.tries));
      };
    }

-- and why it ended
pub met_ended : {kind : WireKind} (spares : Bool) (ids : Ids) (met : Met) (before kept left : Keeping) (h0 h1 h2 : Health) (w0 w1 w2 : WireState kind) (old_moments new_moments : Option (List ℤ))
    (outcome : Outcome) → IsGreeting ids h0 h1 w0 w1 old_moments new_moments before (Ok met) → GreetsTold ids w0.log w1.log (Ok met)
    → WhereTold before (λ h. IsReady h met) → (at : ℤ) × GivesNext old_moments new_moments at × (clock_stop met.meta (second_of at) ≡ None)
    → IsRightlyKnown before → kept ≡ before → Ends spares ids met kept left h1 h2 w1 w2 outcome → IsSyncEnded ids before left h0 h2 w0 w2 old_moments outcome
unfolding went_on
met_ended spares ids met before kept left h0 h1 h2 w0 w1 w2 old_moments new_moments outcome it greets ready clocks known same ends = record {
  sync = went_on spares ids met before kept left h0 h1 h2 w0 w1 w2 old_moments new_moments before outcome it greets ready known same ends;
  because = met_because ids h0 h1 w0 w1 old_moments new_moments before met ends.tries outcome it ready clocks ends.ends.2;
}

-- with the meta before it
early_after : (first : TriedAsk) (tries : List TriedAsk) → asks_commit first.ask ≡ false → LacksMemoryEarly tries → LacksMemoryEarly (first ∷ tries)
early_after first tries plain (inl more) = inl (plain, more)
early_after first tries plain (inr ends) = inr (ends_then (first ∷ []) tries unanswered.Memory ends)

-- and where it may have run out of memory
pub met_sparing : {kind : WireKind} (spares : Bool) (ids : Ids) (met : Met) (before kept left : Keeping) (h0 h1 h2 : Health) (w0 w1 w2 : WireState kind) (old_moments new_moments : Option (List ℤ))
    (outcome : Outcome) → IsGreeting ids h0 h1 w0 w1 old_moments new_moments before (Ok met) → GreetsTold ids w0.log w1.log (Ok met)
    → WhereTold before (λ h. IsReady h met) → (at : ℤ) × GivesNext old_moments new_moments at × (clock_stop met.meta (second_of at) ≡ None)
    → IsRightlyKnown before → kept ≡ before → Ends spares ids met kept left h1 h2 w1 w2 outcome → IsSyncSparing spares ids before left h0 h2 w0 w2 old_moments outcome
unfolding went_on met_ended
met_sparing spares ids met before kept left h0 h1 h2 w0 w1 w2 old_moments new_moments outcome it greets ready clocks known same ends = record {
  ended = met_ended spares ids met before kept left h0 h1 h2 w0 w1 w2 old_moments new_moments outcome it greets ready clocks known same ends;
  memory = λ spared out. early_after (meta_tried it.heard.answer) ends.tries refl (ends.ends.3 spared out);
}
