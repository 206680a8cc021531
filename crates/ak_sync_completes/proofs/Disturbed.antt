-- Why a sync ends over a wire that tells its log, whatever else comes to the server.
use Rattle.std.specs.List.{AllByRecursion}
use Rattle.std.specs.Option.{option_map, option_or}
use Rattle.std.specs.Ordering.{int_eq}
use Rattle.std.specs.Prelude.{◌≡◌, ◌⊎◌, ℤ, not, if◌then◌else◌, Bool, true, false, List, [], ◌∷◌, ◌++◌, Option, Some, None, Ok, Err}
use Rattle.std.proofs.Common.{refl, sym, ap, subst, ◌∙◌, inl, inr, arith, append_assoc}
use Rattle.std.proofs.lemmas.Int.{ints}
use Rattle.std.proofs.lemmas.Option.{same_Some}
use Rattle.ak_base.specs.Limits.{last_head_usn}
use Rattle.ak_client.proofs.Growing.{HasGrown, lawful_grown, timely_growth, tried_grows}
use Rattle.ak_client.proofs.Meeting.{linked_at_meta}
use Rattle.ak_client.specs.Greetings.{IsMetOver, are_far_apart, clock_stop, device_stop, is_unchanged, meta_of}
use Rattle.ak_client.specs.Outcomes.{HasOutcomeCause, is_told_by_meta, outcome_at}
use Rattle.ak_client.specs.Syncs.{EndsAt, EndsByMeta, IsCommittedIn, IsShown, IsSync, meta_tried, told_by, world_at}
use Rattle.ak_client.specs.declared.outcomes.Outcome.{Outcome}
use Rattle.ak_client.specs.declared.outcomes.Outcome.TheVariants as outcomes
use Rattle.ak_client_wire.specs.Forms.{is_meta_in_range, is_moment, meta_told, verdict_in}
use Rattle.ak_client_wire.specs.Wires.{WireKind, Carries}
use Rattle.ak_client_wire.specs.declared.wires.MetaSaid.{MetaSaid}
use Rattle.ak_client_wire.specs.declared.wires.WireEnd.{WireEnd}
use Rattle.ak_client_wire.specs.declared.wires.WireEnd.TheVariants as ends
use Rattle.ak_exchange.proofs.Tried.{answers_append, tried_reads}
use Rattle.ak_exchange.specs.Asked.{AreTried, TriedAsk, answers_in, asker, asks_in}
use Rattle.ak_exchange.specs.Grants.{AllGrantedButLast, IsCheckedLast, IsGranted, is_in_form}
use Rattle.ak_exchange.specs.Phases.{held_by}
use Rattle.ak_exchange.specs.Stops.{keep_stop, verdict_of}
use Rattle.ak_exchange.specs.declared.envelopes.Ids.{Ids}
use Rattle.ak_exchange.specs.declared.stops.Stop.TheVariants as stops
use Rattle.ak_faults.specs.Causes.{HasCauseOf}
use Rattle.ak_keep.specs.Collections.{Collection}
use Rattle.ak_keep.specs.Keepers.{Keeping, WhereTold}
use Rattle.ak_keep.specs.declared.keepers.KeepFault.{KeepFault}
use Rattle.ak_keep.specs.declared.keepers.KeepFault.TheVariants as faults
use Rattle.ak_merge.specs.Commits.{IsCommitted}
use Rattle.ak_merge.specs.Edits.{second_of}
use Rattle.ak_merge.specs.Holdings.{row_under}
use Rattle.ak_merge.specs.Joins.{joined_under}
use Rattle.ak_merge.specs.Links.{AreLinked}
use Rattle.ak_merge.specs.Soundness.{IsLeastFault, first_fault}
use Rattle.ak_merge.specs.declared.checks.CheckFault.{CheckFault}
use Rattle.ak_messages.specs.declared.replies.Give.TheVariants as gives
use Rattle.ak_messages.specs.declared.replies.Reply.{Reply}
use Rattle.ak_messages.specs.declared.replies.SanityReply.{SanityReply}
use Rattle.ak_messages.specs.declared.requests.Ask.{Ask}
use Rattle.ak_messages.specs.declared.requests.Ask.TheVariants as asks
use Rattle.ak_messages.specs.declared.requests.Request.{Request}
use Rattle.ak_messages.specs.declared.requests.SanityCounts.{SanityCounts}
use Rattle.ak_protocol.proofs.Calls.{metas_are_read, syncs_ask_more}
use Rattle.ak_protocol.proofs.Commits.{not_both}
use Rattle.ak_protocol.proofs.Syncs.{all_front}
use Rattle.ak_protocol.specs.Accounts.{AccountState}
use Rattle.ak_protocol.specs.Commits.{EachNewer, HasFreshSchema}
use Rattle.ak_protocol.specs.Logs.{Event, Asked, Grows, Log, IsTimely, commits_of, with_growth}
use Rattle.ak_protocol.specs.Replies.{granted, meta_reply}
use Rattle.ak_protocol.specs.Syncs.{IsUnderWay, IsUnused}
use Rattle.ak_session.proofs.PlanLaws.{asked_place, each_planned}
use Rattle.ak_session.specs.Asks.{asks_of}
use Rattle.ak_session.specs.Contents.{answer}
use Rattle.ak_session.specs.Plans.{Asker, plan, planned, requests_from}
use Rattle.ak_session.specs.Requests.{asks_commit}
use Rattle.ak_session.specs.Sessions.{MaySync}
use Rattle.ak_sync_completes.proofs.Asking.{IsAskedOf, first_tried, granted_before, last_ask, nothing_tried, place_in_plan}
use Rattle.ak_sync_completes.proofs.Bases.{commit_is_timed, one_base}
use Rattle.ak_sync_completes.proofs.Checks.{first_fault_shown}
use Rattle.ak_sync_completes.proofs.Forming.{check_place, formed, is_check, metas_fit}
use Rattle.ak_sync_completes.proofs.Metas.{one_of}
use Rattle.ak_sync_completes.proofs.Reading.{IsOn, call_told, last_is_counted, on_after, plan_formed}
use Rattle.ak_sync_completes.proofs.Serving.{Answer, TriedLast, same_growth, tried_last}
use Rattle.ak_sync_completes.proofs.Sides.{sides_may_sync}
use Rattle.ak_sync_completes.specs.Causes.{IsSyncTold}
use Rattle.ak_sync_completes.specs.Completing.{SyncEnds}

-- ---- the meta
-- a meta that was granted was answered over what was committed at its place, and the sync is under way from there on
meta_over : (ids : Ids) (account : AccountState) (old new : Log) (reply : Reply) → IsUnused ids.host.digits ids.session.0 account old
    → Grows {E = WireEnd} old new (meta_of ids) (Ok reply) → reply.status ≡ 200
    → (s : Collection) × IsMetOver (asker ids) account old new s × ((at : ℤ) × (reply ≡ granted (gives.Meta (meta_reply s.head at))))
meta_over ids account old new reply unused grows ok =
    let read = metas_are_read (meta_of ids) account old grows.growth grows.may reply grows.reply unused.opening unused refl ok in (
      read.0.base,
      record {
        front = grows.reply.before;
        rest = Asked (meta_of ids) grows.reply.now grows.reply.setback ∷ grows.reply.after;
        grown = grows.grown ∙ ap (λ (events : List Event). with_growth old events) (sym grows.reply.place);
        timely = subst (AllByRecursion IsTimely) (sym grows.reply.place) (timely_growth old.events (meta_of ids) grows.growth grows.may);
        place = sym read.1;
        under_way = subst (λ (log : Log). IsUnderWay ids.host.digits ids.session.0 [] read.0.base account log) (sym grows.grown) read.0.under_way;
      },
      (read.0.now, read.0.told),
    )

-- what it said is of that collection
meta_says : (s : Collection) (at : ℤ) (reply : Reply) (said : MetaSaid) → reply ≡ granted (gives.Meta (meta_reply s.head at)) → told_by (Ok reply) ≡ Some said
    → meta_told (meta_reply s.head at) ≡ said
meta_says s at reply said is told =
    one_of (is_meta_in_range (meta_reply s.head at)) (meta_told (meta_reply s.head at)) said (subst (λ (r : Reply). told_by (Ok r) ≡ Some said) is told)

-- ---- an end that the reply to a later request told
abbrev is_later : Outcome → Bool
is_later outcomes.BadReply = true
is_later (outcomes.BadRow fault) = true
is_later outcome = false

-- a sync that ended so was not ended by the clocks
clocks_pass : (said : MetaSaid) (second : ℤ) (outcome : Outcome) → is_later outcome ≡ true
    → ((why : Outcome) → clock_stop said second ≡ Some why → outcome ≡ why) → clock_stop said second ≡ None
clocks_pass said second outcome later = by said.cont (are_far_apart second said.ts)
  where
    by : (cont far : Bool)
        → ((why : Outcome) → (if not cont then Some outcomes.Stopped else if far then Some (outcomes.ClockOff second said.ts) else None) ≡ Some why → outcome ≡ why)
        → (if not cont then Some outcomes.Stopped else if far then Some (outcomes.ClockOff second said.ts) else None) ≡ None
    by false far ends = absurd (not_both later (ap is_later (ends outcomes.Stopped refl)))
    by true true ends = absurd (not_both later (ap is_later (ends (outcomes.ClockOff second said.ts) refl)))
    by true false ends = refl

-- and the two sides have one schema moment
schemas_agree : (said : MetaSaid) (c : Collection) (outcome : Outcome) → is_later outcome ≡ true
    → ((why : Outcome) → device_stop said (held_by c) ≡ Some why → (outcome ≡ why) ⊎ ((fault : KeepFault) × (outcome ≡ outcome_at (keep_stop fault))))
    → c.head.schema ≡ said.scm
schemas_agree said c outcome later = by (is_unchanged said c.head c.rows) (int_eq c.head.schema said.scm) refl
  where
    never : (why : Outcome) → is_later why ≡ false
        → (outcome ≡ why) ⊎ ((fault : KeepFault) × (outcome ≡ outcome_at (keep_stop fault))) → ⊥
    never why other (inl is) = not_both later (ap is_later is ∙ other)
    never why other (inr (faults.Failed, is)) = not_both later (ap is_later is)
    never why other (inr (faults.Memory, is)) = not_both later (ap is_later is)

    by : (unchanged schemas : Bool) → int_eq c.head.schema said.scm ≡ schemas
        → ((why : Outcome) → option_or (if unchanged then Some outcomes.NoChanges
        else if not schemas then Some (outcomes.FullSchema c.head.schema said.scm)
        else if int_eq said.usn last_head_usn then Some (outcomes.FullSequence said.usn)
        else None) (option_map (λ (fault : CheckFault). outcomes.OwnCheck fault) (first_fault c.rows)) ≡ Some why
        → (outcome ≡ why) ⊎ ((fault : KeepFault) × (outcome ≡ outcome_at (keep_stop fault))))
        → c.head.schema ≡ said.scm
    by true schemas is found = absurd (never outcomes.NoChanges refl (found outcomes.NoChanges refl))
    by false false is found =
        absurd (never (outcomes.FullSchema c.head.schema said.scm) refl (found (outcomes.FullSchema c.head.schema said.scm) refl))
    by false true is found = grind (arith, ints, is)

-- ---- what was tried last
some_tried : (rest : List TriedAsk) (last : TriedAsk) → rest ++ last ∷ [] ≡ [] → ⊥
some_tried [] last is = grind (arith, is)
some_tried (one ∷ rest) last is = grind (arith, is)

-- a sync of c and s asked this last, as its plan has it: it was under way then, and this is told of the log after it
record IsAskedLast (who : Asker) (c s : Collection) (account : AccountState) (last : TriedAsk) (told : Option Log) : Type 0 where
  pub may : MaySync c s
  pub mid : Log
  pub new : Log
  pub is : told ≡ Some new
  pub on : IsOn who c s account mid
  pub before : List Request
  pub request : Request
  pub after : List Request
  pub place : before ++ request ∷ after ≡ plan who c s
  pub asks : request.ask ≡ last.ask
  pub grows : Grows {E = WireEnd} mid new request last.answer

module _ {kind : WireKind} (ids : Ids) (c : Collection) (account : AccountState) (before after : SyncEnds kind) (outcome : Outcome)
    (it : IsSyncTold ids c account before after outcome) where
  abbrev own : IsSync ids before.keeping after.keeping before.health after.health before.wire after.wire outcome
  own = it.ended.sync

  abbrev asked : List Ask
  asked = asks_in own.asked.tries

  abbrev later_requests : List Request
  later_requests = requests_from (asker ids) own.asked.moment 1 asked

  abbrev base : Collection
  base = it.synced.base

  first_call : (new : Log) × (own.asked.tried.1.log ≡ Some new) × Grows it.old new (meta_of ids) own.asked.meta
  first_call = subst (λ (o : Option Log). Carries o own.asked.tried.1.log (meta_of ids) own.asked.meta) it.told own.asked.tried.2.carries

  first_grows : (reply : Reply) → own.asked.meta ≡ Ok reply → Grows {E = WireEnd} it.old first_call.0 (meta_of ids) (Ok reply)
  first_grows reply is = subst (λ (a : Answer). Grows it.old first_call.0 (meta_of ids) a) is first_call.2

  committed_over : (s : Collection) (new : Log) → IsMetOver (asker ids) account it.old new s → IsCommitted s
  committed_over s new over =
      subst IsCommitted over.place
      (lawful_grown (asker ids) account it.old over.front (all_front IsTimely over.front over.rest over.timely) it.may.lawful).committed

  -- a meta that is granted has its form
  meta_formed : (reply : Reply) → own.asked.meta ≡ Ok reply → reply.status ≡ 200 → is_in_form asks.Meta reply.give ≡ true
  meta_formed reply is ok =
      let met = meta_over ids account it.old first_call.0 reply it.may.unused (first_grows reply is) ok in
      ap (λ (r : Reply). is_in_form asks.Meta r.give) met.2.1
      ∙ formed (is_meta_in_range (meta_reply met.0.head met.2.0)) (meta_told (meta_reply met.0.head met.2.0))
      (metas_fit met.0.head met.2.0 (committed_over met.0 first_call.0 met.1).head)

  -- a sync that asked more
  module _ (later : is_later outcome ≡ true) (rest : List TriedAsk) (last : TriedAsk) (tries : own.asked.tries ≡ rest ++ last ∷ [])
      (granted_first : IsGranted (meta_tried own.asked.meta)) where
    nothing_else : own.asked.tries ≡ [] → ⊥
    nothing_else none = some_tried rest last (sym tries ∙ none)

    said : (it : MetaSaid) × (told_by own.asked.meta ≡ Some it) × (own.asked.moment ≡ it.moment) × (is_told_by_meta outcome ≡ false)
    said = by it.ended.because.more
      where
        by : (own.asked.tries ≡ []) ⊎ ((it : MetaSaid) × (told_by own.asked.meta ≡ Some it) × (own.asked.moment ≡ it.moment) × (is_told_by_meta outcome ≡ false))
            → (it : MetaSaid) × (told_by own.asked.meta ≡ Some it) × (own.asked.moment ≡ it.moment) × (is_told_by_meta outcome ≡ false)
        by (inl none) = absurd (nothing_else none)
        by (inr found) = found

    met : (s : Collection) × IsMetOver (asker ids) account it.old first_call.0 s × ((at : ℤ) × (granted_first.reply ≡ granted (gives.Meta (meta_reply s.head at))))
    met = meta_over ids account it.old first_call.0 granted_first.reply it.may.unused (first_grows granted_first.reply granted_first.is) granted_first.status

    abbrev s : Collection
    s = met.0

    abbrev over : IsMetOver (asker ids) account it.old first_call.0 s
    over = met.1

    told_of_s : meta_told (meta_reply s.head met.2.0) ≡ said.0
    told_of_s = meta_says s met.2.0 granted_first.reply said.0 met.2.1 (subst (λ (a : Answer). told_by a ≡ Some said.0) granted_first.is said.1)

    moment_is : own.asked.moment ≡ s.head.moment
    moment_is = said.2 ∙ sym (ap (λ (m : MetaSaid). m.moment) told_of_s)

    schema_is : c.head.schema ≡ s.head.schema
    schema_is = by (it.ended.because.met said.0 said.1).0 (it.ended.because.met said.0 said.1).3 ∙ sym (ap (λ (m : MetaSaid). m.scm) told_of_s)
      where
        by : (at : ℤ) → EndsByMeta said.0 at before.keeping outcome → c.head.schema ≡ said.0.scm
        by at ends =
            schemas_agree said.0 c outcome later
            (subst (λ (k : Keeping). WhereTold k (λ h. (why : Outcome) → device_stop said.0 h ≡ Some why
            → (outcome ≡ why) ⊎ ((fault : KeepFault) × (outcome ≡ outcome_at (keep_stop fault))))) it.holds
            (ends.by_device (clocks_pass said.0 (second_of at) outcome later ends.by_clocks)))

    -- what came after the meta
    came : HasGrown first_call.0 after.wire.log
    came = tried_grows later_requests (answers_in own.asked.tries) own.asked.tried.0 after.health own.asked.tried.1 after.wire first_call.0 own.asked.tried.3 first_call.1

    now_is : it.now ≡ with_growth first_call.0 came.growth
    now_is = same_Some it.now came.now (sym it.told_now ∙ came.is) ∙ came.grown

    whole : it.synced.growth ≡ over.front ++ (over.rest ++ came.growth)
    whole =
        same_growth it.old it.now it.synced.growth (over.front ++ (over.rest ++ came.growth)) it.synced.grown
        (now_is
        ∙ ap (λ (log : Log). with_growth log came.growth) over.grown
        ∙ ap (λ (events : List Event). record it.old { events = events })
        (append_assoc it.old.events (over.front ++ over.rest) came.growth ∙ ap (λ (l : List Event). it.old.events ++ l) (append_assoc over.front over.rest came.growth)))

    -- the meta was answered over the collection that is told of the sync
    placed : IsCommittedIn (asker ids) account it.old it.synced.growth base
    placed = by it.synced.at_meta
      where
        by : (asked ≡ []) ⊎ IsCommittedIn (asker ids) account it.old it.synced.growth base → IsCommittedIn (asker ids) account it.old it.synced.growth base
        by (inl none) = absurd (nothing_else (nothing_tried own.asked.tries none))
        by (inr place) = place

    base_moment : base.head.moment ≡ own.asked.moment
    base_moment = by it.synced.shown
      where
        by : IsShown (asker ids) account base own.asked.moment asked it.now → base.head.moment ≡ own.asked.moment
        by (inl (none, unused)) = absurd (nothing_else (nothing_tried own.asked.tries none))
        by (inr (moment, under_way)) = moment

    same : base ≡ s
    same =
        one_base (asker ids) account it.old placed.front over.front placed.rest (over.rest ++ came.growth) base s
        (sym placed.parts ∙ whole) placed.place over.place (base_moment ∙ moment_is)

    -- so the two may sync, and what was asked is of their plan
    linked : AreLinked c s
    linked =
        linked_at_meta (asker ids) c s account it.old first_call.0 came.growth (record { meta = said.0; head = c.head }) it.may over
        (subst (λ (log : Log). EachNewer (HasFreshSchema c) (world_at (asker ids) account it.old) (world_at (asker ids) account log)) now_is it.fresh)

    may_sync : MaySync c s
    may_sync =
        sides_may_sync c s it.formed schema_is linked (committed_over s first_call.0 over)

    asked_of : IsAskedOf c s own.asked.moment asked
    asked_of = inr (moment_is, subst (λ (k : Collection). (more : List Ask) × (asked ++ more ≡ planned c k)) same it.synced.front)

    last_tried : TriedLast later_requests (answers_in rest) last.answer own.asked.tried.0 after.health own.asked.tried.1 after.wire
    last_tried =
        tried_last later_requests (answers_in rest) last.answer own.asked.tried.0 after.health own.asked.tried.1 after.wire
        (subst (λ (x : List Answer). AreTried later_requests x own.asked.tried.0 after.health own.asked.tried.1 after.wire)
        (ap answers_in tries ∙ answers_append rest (last ∷ [])) own.asked.tried.3)

    in_plan : IsAskedLast (asker ids) c s account last after.wire.log
    in_plan =
        let there = place_in_plan (asker ids) c s own.asked.moment asked last_tried.front last_tried.request last_tried.parts asked_of in
        let on : IsOn (asker ids) c s account first_call.0 =
        syncs_ask_more ids.host.digits ids.session.0 [] (plan (asker ids) c s) s account first_call.0 over.under_way in
        let mid = on_after (asker ids) c s account [] last_tried.front (last_tried.request ∷ there.0) (answers_in rest) own.asked.tried.0 last_tried.health
        own.asked.tried.1 last_tried.wire first_call.0 there.1 last_tried.earlier first_call.1 on in
        let call : (new : Log) × (after.wire.log ≡ Some new) × Grows mid.0 new last_tried.request last.answer =
        subst (λ (o : Option Log). Carries o after.wire.log last_tried.request last.answer) mid.1 last_tried.tried.carries in
        record {
          may = may_sync;
          mid = mid.0;
          new = call.0;
          is = call.1;
          on = mid.2;
          before = last_tried.front;
          request = last_tried.request;
          after = there.0;
          place = there.1;
          asks = last_ask ids own.asked.moment own.asked.meta own.asked.tries (meta_tried own.asked.meta ∷ rest) last (meta_of ids ∷ last_tried.front) last_tried.request
              (ap (λ (l : List TriedAsk). meta_tried own.asked.meta ∷ l) tries) (ap (λ (l : List Request). meta_of ids ∷ l) last_tried.parts);
          grows = call.2;
        }

    asked_last : IsAskedLast (asker ids) c base account last after.wire.log
    asked_last = subst (λ (k : Collection). IsAskedLast (asker ids) c k account last after.wire.log) (sym same) in_plan

  -- what was tried last is the meta, or of the plan
  meta_or_later : is_later outcome ≡ true → (earlier : List TriedAsk) (last : TriedAsk) → meta_tried own.asked.meta ∷ own.asked.tries ≡ earlier ++ last ∷ []
      → (meta_tried own.asked.meta ≡ last) ⊎ IsAskedLast (asker ids) c base account last after.wire.log
  meta_or_later later [] last parts = inl (first_tried (meta_tried own.asked.meta) last own.asked.tries [] parts).0
  meta_or_later later (one ∷ rest) last parts =
      let both = first_tried (meta_tried own.asked.meta) one own.asked.tries (rest ++ last ∷ []) parts in
      let granted_all = granted_before (one ∷ rest) last (subst AllGrantedButLast parts own.ends.granted) in
      inr (asked_last later rest last both.1 (subst IsGranted (sym both.0) granted_all.0))

  -- ---- a reply of the plan
  module _ (last : TriedAsk) (place : IsAskedLast (asker ids) c base account last after.wire.log) (reply : Reply) (is : last.answer ≡ Ok reply)
      (ok : reply.status ≡ 200) where
    grows : Grows {E = WireEnd} place.mid place.new place.request (Ok reply)
    grows = subst (λ (a : Answer). Grows place.mid place.new place.request a) is place.grows

    timed : (made : Collection) → commits_of ids.session.0 (world_at (asker ids) account place.new).commits
        ≡ record { key = ids.session.0; before = base; after = made } ∷ [] → is_moment made.head.moment ≡ true
    timed =
        subst (λ (log : Log). (made : Collection) → commits_of ids.session.0 (world_at (asker ids) account log).commits
        ≡ record { key = ids.session.0; before = base; after = made } ∷ [] → is_moment made.head.moment ≡ true)
        (same_Some it.now place.new (sym it.told_now ∙ place.is))
        (commit_is_timed (asker ids) account it.old it.now it.synced.growth it.synced.grown it.may.unused it.may.lawful it.synced.timely base)

    -- it has the form of what was asked
    later_formed : is_in_form last.ask reply.give ≡ true
    later_formed =
        ap (λ (a : Ask). is_in_form a reply.give) (sym place.asks)
        ∙ plan_formed (asker ids) c base place.may account place.mid place.new place.on place.before place.request place.after place.place reply grows ok timed

    -- a sanity check that is bad by a row shows the first fault of the join
    first_shown : (counts : SanityCounts) (fault : CheckFault) (found : SanityReply) → last.ask ≡ asks.SanityCheck2 counts → verdict_in reply.give ≡ Some found
        → verdict_of found ≡ Err (stops.BadRow fault) → IsLeastFault (joined_under (row_under c) (row_under base)) fault
    first_shown counts fault found checks gave bad =
        let asks_so : place.request.ask ≡ asks.SanityCheck2 counts = place.asks ∙ checks in
        let one = each_planned (asker ids) c base place.before place.request place.after place.place in
        let told = call_told (asker ids) c base place.may account place.mid place.new place.on place.before place.request place.after place.place reply grows ok timed in
        let there = check_place c base (asks_of place.before) (asks_of place.after) place.request.ask (ap is_check asks_so)
        (asked_place (asker ids) c base place.before place.request place.after place.place) in
        let answered : reply ≡ granted (answer base place.before place.request) = told.answers (ap asks_commit asks_so) one.reads_nothing in
        first_fault_shown c base place.before place.request fault found place.may there.0 there.1
        (ap (λ (r : Reply). verdict_in r.give) (sym answered) ∙ gave) bad

  -- ---- a bad reply
  last_formed : is_later outcome ≡ true → (earlier : List TriedAsk) (last : TriedAsk) → meta_tried own.asked.meta ∷ own.asked.tries ≡ earlier ++ last ∷ []
      → (reply : Reply) → last.answer ≡ Ok reply → reply.status ≡ 200 → is_in_form last.ask reply.give ≡ true
  last_formed later earlier last parts reply is ok = by (meta_or_later later earlier last parts)
    where
      by : (meta_tried own.asked.meta ≡ last) ⊎ IsAskedLast (asker ids) c base account last after.wire.log → is_in_form last.ask reply.give ≡ true
      by (inl meta) =
          ap (λ (t : TriedAsk). is_in_form t.ask reply.give) (sym meta) ∙ meta_formed reply (ap (λ (t : TriedAsk). t.answer) meta ∙ is) ok
      by (inr place) = later_formed last place reply is ok

  counted : outcome ≡ outcomes.BadReply → HasCauseOf {T = Reply} ends.BadReply before.wire.reading after.wire.reading (Err ends.BadReply)
  counted is = by (subst (EndsAt (meta_tried own.asked.meta ∷ own.asked.tries) after.wire) is own.ends.why)
    where
      by : EndsAt (meta_tried own.asked.meta ∷ own.asked.tries) after.wire outcomes.BadReply
          → HasCauseOf {T = Reply} ends.BadReply before.wire.reading after.wire.reading (Err ends.BadReply)
      by (last, (earlier, parts), inl unread) =
          subst (λ (a : Answer). HasCauseOf ends.BadReply before.wire.reading after.wire.reading a) unread
          (last_is_counted (meta_of ids ∷ later_requests) (answers_in earlier) last.answer before.health after.health before.wire after.wire
          (tried_last (meta_of ids ∷ later_requests) (answers_in earlier) last.answer before.health after.health before.wire after.wire
          (subst (λ (x : List Answer). AreTried (meta_of ids ∷ later_requests) x before.health after.health before.wire after.wire)
          (ap answers_in parts ∙ answers_append earlier (last ∷ [])) own.asked.tried)))
      by (last, (earlier, parts), inr (reply, answered, ok, wrong)) =
          absurd (not_both (last_formed (ap is_later is) earlier last parts reply answered ok) wrong)

  pub unread : HasOutcomeCause outcomes.BadReply before.wire.reading after.wire.reading outcome
  unread = record {
    goes = tried_reads (meta_of ids ∷ later_requests) (own.asked.meta ∷ answers_in own.asked.tries) before.health after.health before.wire after.wire own.asked.tried;
    failed = λ is. (counted is).failed refl;
    unfailed = λ calm is. (counted is).unfailed calm refl;
  }

  -- ---- a bad row
  pub first : (fault : CheckFault) → outcome ≡ outcomes.BadRow fault → IsLeastFault (joined_under (row_under c) (row_under base)) fault
  first fault is = by (subst (EndsAt (meta_tried own.asked.meta ∷ own.asked.tries) after.wire) is own.ends.why)
    where
      by : IsCheckedLast (meta_tried own.asked.meta ∷ own.asked.tries) (stops.BadRow fault) after.wire → IsLeastFault (joined_under (row_under c) (row_under base)) fault
      by check = by_place (meta_or_later (ap is_later is) check.last.0 check.it check.last.1)
        where
          not_meta : (ask : Ask) → ask ≡ asks.SanityCheck2 check.counts → asks.Meta ≡ ask → ⊥
          not_meta ask checks meta = let wrong : asks.Meta ≡ asks.SanityCheck2 check.counts = meta ∙ checks in grind (arith, wrong)

          by_place : (meta_tried own.asked.meta ≡ check.it) ⊎ IsAskedLast (asker ids) c base account check.it after.wire.log
              → IsLeastFault (joined_under (row_under c) (row_under base)) fault
          by_place (inl meta) = absurd (not_meta check.it.ask check.asks (ap (λ (t : TriedAsk). t.ask) meta))
          by_place (inr place) =
              first_shown check.it place check.granted.reply check.granted.is check.granted.status check.counts fault check.reply check.asks check.gave check.verdict
