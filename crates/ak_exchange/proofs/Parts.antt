-- The parts of a sync that ask one request: refused once it was asked, and granted.
use Rattle.std.specs.Int.{div_ceil}
use Rattle.std.specs.Option.{option_map, option_map_or}
use Rattle.std.specs.Prelude.{◌≡◌, ℕ, pos, ◌≤ℤ◌, ◌+◌, ◌*◌, ◌%◌, ◌<◌, ◌≤◌, ◌&&◌, ℤ, cond, not, Bool, true, false, List, [], ◌∷◌, ◌++◌, length, count_by, Option, Some, None, option_and_then, Result, Ok, Err, IsErr, IsErrAnd, IfOk, IfSome, ok_or, ◌==◌, if◌then◌else◌, ⊤}
use Rattle.std.proofs.lemmas.List.{length-append}
use Rattle.std.proofs.lemmas.List.Sums.{sum_by-append}
use Rattle.std.proofs.lemmas.Nat.{div-add-mod', mod_below}
use Rattle.std.proofs.lemmas.Option.{none-some, same_Some}
use Rattle.std.proofs.Common.{refl, sym, ap, subst, ◌∙◌, inl, inr, append_assoc, arith}
use Rattle.ak_base.specs.declared.heads.Head.{Head}
use Rattle.ak_base.specs.declared.names.Name.{Name}
use Rattle.ak_base.specs.declared.names.Table.TheVariants as tables
use Rattle.ak_base.specs.declared.rows.Row.{Row}
use Rattle.ak_device.proofs.Receiving.{received_nothing}
use Rattle.ak_device.proofs.TakingAndSettling.{check_settles_none, chunk_settles_none, rows_after, start_settles_none}
use Rattle.ak_device.specs.Devices.{IsFullIfMore, IsNextToSend, changes_to_send, received}
use Rattle.ak_device.specs.Settlings.{names_of, settled_by, settled_under}
use Rattle.ak_exchange.proofs.Granted.{changes_are, chunk_are, graves_are}
use Rattle.ak_exchange.proofs.Held.{changes_at, replied_quietly, rows_at, told_at}
use Rattle.ak_exchange.proofs.Passing.{advances_from, advances_more, advances_passed, advances_then, advances_to, asked_one, both_tried, exchanged_one, left_one, one_tried, refused_after, same_tried, shown_one, stays_here, took_after}
use Rattle.ak_exchange.proofs.Places.{after_changes, after_chunks, after_graves, after_pushes, after_start, leads_on, next_graves, no_graves_yet, next_pull, next_push, part_sent, pulled_lead, pulled_one, push_request, pushed_full, pushed_last, pushed_lead, sent_graves}
use Rattle.ak_exchange.proofs.SentRows.{counts_same}
use Rattle.ak_exchange.proofs.Stopping.{Gave, IsKept, IsRefused, IsRefusedAfter, check_stops, was_granted}
use Rattle.ak_exchange.proofs.Checking.{fair_stop, sound_join}
use Rattle.ak_exchange.proofs.Tried.{asks_append}
use Rattle.ak_exchange.specs.Asked.{AreFew, Talk, TriedAsk, asker, asks_in, request_at, sends_unfinished}
use Rattle.ak_exchange.specs.Grants.{brings_unfinished, came_unfinished}
use Rattle.ak_exchange.specs.Loops.{HasPulledOne, HasPushedOne, HavePulled, HavePushed, HaveSentGraves, PullsOne, PushesOne, SendsOne, rows_once_sent, rows_to_push}
use Rattle.ak_exchange.specs.Phases.{Advances, AreGraveRequests, Exchanges, HasPassedCheck, HasReceived, HasTenMillionRows, IsAt, IsMet, Place, at_end_of, at_meta, held_by}
use Rattle.ak_exchange.specs.Stops.{verdict_of}
use Rattle.ak_exchange.specs.declared.envelopes.Met.{Met}
use Rattle.ak_exchange.specs.declared.stops.Stop.{Stop}
use Rattle.ak_keep.specs.Collections.{Collection, Holding, Rows, wanted_past}
use Rattle.ak_keep.specs.Keepers.{Keeping, WhereTold, changed}
use Rattle.ak_keep.specs.Marks as marks
use Rattle.ak_keep.specs.Marks.{WithMark}
use Rattle.ak_keep.specs.declared.keepers.Wanted.TheVariants.{Unsent}
use Rattle.ak_merge.proofs.WantedCounts.{unsent_never_grow}
use Rattle.ak_merge.specs.Takings.{all_taken}
use Rattle.ak_merge.specs.Commits.{Received}
use Rattle.ak_messages.specs.declared.replies.Give.{Give}
use Rattle.ak_messages.specs.declared.replies.Give.TheVariants as gives
use Rattle.ak_messages.specs.declared.replies.Reply.{Reply}
use Rattle.ak_messages.specs.declared.replies.SanityReply.{SanityReply}
use Rattle.ak_messages.specs.declared.requests.Ask.{Ask}
use Rattle.ak_messages.specs.declared.requests.Ask.TheVariants as asks
use Rattle.ak_messages.specs.declared.requests.Changes.{Changes}
use Rattle.ak_messages.specs.declared.requests.Chunk.{Chunk}
use Rattle.ak_messages.specs.declared.requests.GraveIds.{GraveIds}
use Rattle.ak_messages.specs.declared.requests.Request.{Request}
use Rattle.ak_messages.specs.declared.requests.SanityCounts.{SanityCounts}
use Rattle.ak_protocol.specs.Accounts.{AccountState}
use Rattle.ak_session.proofs.PlanLaws.{list_fewer, pushes_fewer}
use Rattle.ak_session.proofs.MessageLaws.{same_rows}
use Rattle.ak_session.specs.Answers.{answer_to, counts_of}
use Rattle.ak_session.specs.Asks.{all_brought, nothing}
use Rattle.ak_session.specs.Messages.{changes_of, chunk_of, grave_ids}
use Rattle.ak_session.specs.Plans.{device_changes, device_rows, planned, planned_changes, planned_chunks, planned_graves, planned_pushes, planned_start}
use Rattle.ak_session.specs.Replies.{all_replied, replied}
use Rattle.ak_session.specs.Sessions.{MaySync}
use Rattle.ak_session.specs.Slices.{slice, slices, wanted_graves}
use Rattle.ak_client_wire.specs.Forms.{changes_in, chunk_in, graves_in, nothing_in, sanity_in, shows_cause, verdict_in}
use Rattle.ak_client_wire.specs.Tries.{Answered, granted_in, in_form}
use Rattle.ak_client_wire.specs.Wires.{WireKind, said_after, said_of, sanity_said}
use Rattle.ak_client_wire.specs.declared.asks.Unanswered.{Unanswered}
use Rattle.ak_client_wire.specs.declared.asks.Unanswered.TheVariants as unanswered
use Rattle.ak_client_wire.specs.declared.wires.Said.{Said}
use Rattle.ak_client_wire.specs.declared.wires.WireEnd.{WireEnd}
use Rattle.ak_client_wire.specs.declared.wires.WireEnd.TheVariants as ends
use Rattle.ak_merge.specs.declared.sides.Side.TheVariants.{Device}

-- a part with its request, as it was called
pub record IsAsked {kind : WireKind} {G : Type 0} (was now : Talk kind) (ask : Ask) (part : Give → Option G) (given : Result G Unanswered) : Type 0 where
  pub it : Request
  pub made : it ≡ request_at (asker was.envelopes.ids) was.envelopes.base (was.envelopes.step + 1) ask
  pub envelopes : now.envelopes ≡ record was.envelopes { step = was.envelopes.step + 1 }
  pub call : Answered was.health now.health was.wire now.wire it part given

-- what was received of a give that is this one
received_as : (usn : ℤ) (give own : Give) (before after : Keeping) → give ≡ own → after ≡ changed (received usn (replied own)) before
    → after ≡ changed (received usn (replied give)) before
received_as usn give own before after same took = took ∙ ap (λ (g : Give). changed (received usn (replied g)) before) (sym same)

-- a give that brings nothing
brings_nothing : (usn : ℤ) (give : Give) (k : Keeping) → replied give ≡ nothing → k ≡ changed (received usn (replied give)) k
brings_nothing usn give k is = received_nothing usn k ∙ ap (λ (came : Received). changed (received usn came) k) (sym is)

quiet_give : (give : Give) (done : Unit {0}) → nothing_in give ≡ Some done → replied give ≡ nothing
quiet_give gives.Nothing done is = refl
quiet_give (gives.Meta m) done is = refl
quiet_give (gives.Graves g) done is = absurd (none-some done is)
quiet_give (gives.Changes c) done is = absurd (none-some done is)
quiet_give (gives.Chunk c) done is = absurd (none-some done is)
quiet_give (gives.Sanity s) done is = refl
quiet_give (gives.Moment m) done is = refl
quiet_give (gives.Uploaded m s) done is = refl
quiet_give (gives.Whole w) done is = refl

quiet_verdict : (give : Give) (reply : SanityReply) → verdict_in give ≡ Some reply → replied give ≡ nothing
quiet_verdict gives.Nothing reply is = refl
quiet_verdict (gives.Meta m) reply is = refl
quiet_verdict (gives.Graves g) reply is = absurd (none-some reply is)
quiet_verdict (gives.Changes c) reply is = absurd (none-some reply is)
quiet_verdict (gives.Chunk c) reply is = absurd (none-some reply is)
quiet_verdict (gives.Sanity s) reply is = refl
quiet_verdict (gives.Moment m) reply is = refl
quiet_verdict (gives.Uploaded m s) reply is = refl
quiet_verdict (gives.Whole w) reply is = refl

-- ---- the start
module _ {kind : WireKind} (met : Met) (before : Keeping) (was now : Talk kind) (given : Result GraveIds Unanswered)
    (at : IsAsked was now (asks.Start met.head.usn met.head.moment) graves_in given) where
  abbrev start_place : Place
  start_place = at_end_of (λ c s. planned_start c)

  start_few : AreFew 0 0 1 (asks.Start met.head.usn met.head.moment ∷ [])
  start_few = record { asked = omega arith; sent = omega arith; rest = omega arith }

  start_is : (c s : Collection) (asked more : List Ask) → IsMet c s met → asked ≡ []
      → asked ++ asks.Start met.head.usn met.head.moment ∷ more ≡ asks.Start c.head.usn c.head.moment ∷ more
  start_is c s asked more met_is is =
      ap (λ (l : List Ask). l ++ asks.Start met.head.usn met.head.moment ∷ more) is
      ∙ ap (λ (h : Head). asks.Start h.usn h.moment ∷ more) met_is.head

  start_next : (c s : Collection) (account : AccountState) (asked : List Ask) → IsMet c s met → IsAt c s account asked at_meta before was → MaySync c s
      → (rest : List Ask) × (asked ++ asks.Start met.head.usn met.head.moment ∷ rest ≡ planned c s)
  start_next c s account asked met_is place may =
      let ahead = after_start c s in (ahead.0, start_is c s asked ahead.0 met_is (place.has.placed may) ∙ ahead.1)

  pub start_refused : {T : Type 0} (after : Keeping) (result : Result T Stop) → IsKept given before after → IsRefusedAfter given result → Advances 0 0 1 at_meta start_place met before after was now result
  start_refused after result kept is =
      refused_after was now (asks.Start met.head.usn met.head.moment) at.it graves_in given at.made at.envelopes at.call refl refl refl
      0 0 1 start_few at_meta met before start_next (λ give. refl) tt start_place after result kept is

  pub start_took : {T : Type 0} (after : Keeping) (x : T) (ids : GraveIds) → given ≡ Ok ids
      → after ≡ changed (received met.meta.usn (replied (gives.Graves ids))) before → Advances 0 0 1 at_meta start_place met before after was now (Ok x)
  start_took after x ids came took =
      took_after was now (asks.Start met.head.usn met.head.moment) at.it graves_in given at.made at.envelopes at.call refl refl refl
      0 0 1 start_few at_meta met before start_next (λ give. refl) tt start_place after x ids came
      (λ give is. (
        after,
        received_as met.meta.usn give (gives.Graves ids) before after (graves_are give ids is).0 took,
        start_settles_none met.meta.usn met.head.usn met.head.moment after,
      ))
      (λ c s account asked met_is place is may. start_is c s asked [] met_is (place.has.placed may))

-- ---- graves
module _ {kind : WireKind} (met : Met) (before : Keeping) (was now : Talk kind) (given : Result (Unit {0}) Unanswered) (k : ℕ) (list : List Row) (ids : GraveIds)
    (less : 250 * k < length list) (ids_are : ids ≡ grave_ids (slice k list)) (at : IsAsked was now (asks.ApplyGraves ids) nothing_in given) where
  graves_few : AreFew 0 0 1 (asks.ApplyGraves ids ∷ [])
  graves_few = record { asked = omega arith; sent = omega arith; rest = omega arith }

  graves_next : (c s : Collection) (account : AccountState) (asked : List Ask) → IsMet c s met → IsAt c s account asked (HaveSentGraves k list) before was
      → MaySync c s → (rest : List Ask) × (asked ++ asks.ApplyGraves ids ∷ rest ≡ planned c s)
  graves_next c s account asked met_is place may =
      let ahead = next_graves k list c s asked less (place.has.placed may) in
      (ahead.0, ap (λ (i : GraveIds). asked ++ asks.ApplyGraves i ∷ ahead.0) ids_are ∙ ahead.1)

  pub graves_refused : {T : Type 0} (after : Keeping) (result : Result T Stop) → IsKept given before after → IsRefusedAfter given result
      → Advances 0 0 1 (HaveSentGraves k list) (HaveSentGraves (k + 1) list) met before after was now result
  graves_refused after result kept is =
      refused_after was now (asks.ApplyGraves ids) at.it nothing_in given at.made at.envelopes at.call refl refl refl
      0 0 1 graves_few (HaveSentGraves k list) met before graves_next (λ give. refl) tt (HaveSentGraves (k + 1) list) after result kept is

  pub graves_took : {T : Type 0} (after : Keeping) (x : T) (done : Unit {0}) → given ≡ Ok done → after ≡ changed (settled_by met.meta.usn (asks.ApplyGraves ids)) before
      → Advances 0 0 1 (HaveSentGraves k list) (HaveSentGraves (k + 1) list) met before after was now (Ok x)
  graves_took after x done came settles =
      took_after was now (asks.ApplyGraves ids) at.it nothing_in given at.made at.envelopes at.call refl refl refl
      0 0 1 graves_few (HaveSentGraves k list) met before graves_next (λ give. refl) tt (HaveSentGraves (k + 1) list) after x done came
      (λ give is. (before, brings_nothing met.meta.usn give before (quiet_give give done is), settles))
      (λ c s account asked met_is place is may.
      subst (λ (i : GraveIds). HaveSentGraves (k + 1) list c s (asked ++ asks.ApplyGraves i ∷ [])) (sym ids_are)
      (sent_graves k list c s asked (place.has.placed may)))

-- ---- the changes
module _ {kind : WireKind} (met : Met) (before : Keeping) (was now : Talk kind) (given : Result Changes Unanswered) (changes : Changes)
    (told : WhereTold before (λ h. IfSome h.head (λ head. changes ≡ changes_to_send met.meta.moment h.rows head)))
    (at : IsAsked was now (asks.ApplyChanges changes) changes_in given) where
  changes_few : AreFew 0 0 1 (asks.ApplyChanges changes ∷ [])
  changes_few = record { asked = omega arith; sent = omega arith; rest = omega arith }

  changes_made : (c s : Collection) (account : AccountState) (asked : List Ask) → IsMet c s met → IsAt c s account asked (at_end_of planned_graves) before was
      → MaySync c s → changes ≡ changes_of (device_changes c s)
  changes_made c s account asked met_is place may =
      let is = place.has.placed may in
      let ahead = leads_on planned_graves after_graves c s asked may is in
      changes_at c s account asked (at_end_of planned_graves) before was changes place may is ahead
      (subst (λ (moment : ℤ). WhereTold before (λ h. IfSome h.head (λ head. changes ≡ changes_to_send moment h.rows head))) met_is.moment told)

  changes_end : (c s : Collection) (asked more : List Ask) → asked ≡ planned_graves c s → changes ≡ changes_of (device_changes c s)
      → asked ++ asks.ApplyChanges changes ∷ more ≡ planned_graves c s ++ asks.ApplyChanges (changes_of (device_changes c s)) ∷ more
  changes_end c s asked more is made =
      ap (λ (l : List Ask). l ++ asks.ApplyChanges changes ∷ more) is
      ∙ ap (λ (m : Changes). planned_graves c s ++ asks.ApplyChanges m ∷ more) made

  changes_next : (c s : Collection) (account : AccountState) (asked : List Ask) → IsMet c s met → IsAt c s account asked (at_end_of planned_graves) before was
      → MaySync c s → (rest : List Ask) × (asked ++ asks.ApplyChanges changes ∷ rest ≡ planned c s)
  changes_next c s account asked met_is place may =
      let ahead = after_changes c s in (
        ahead.0,
        changes_end c s asked ahead.0 (place.has.placed may) (changes_made c s account asked met_is place may)
            ∙ sym (append_assoc (planned_graves c s) (asks.ApplyChanges (changes_of (device_changes c s)) ∷ []) ahead.0)
            ∙ ahead.1,
      )

  pub changes_refused : {T : Type 0} (after : Keeping) (result : Result T Stop) → IsKept given before after → IsRefusedAfter given result
      → Advances 0 0 1 (at_end_of planned_graves) (at_end_of planned_changes) met before after was now result
  changes_refused after result kept is =
      refused_after was now (asks.ApplyChanges changes) at.it changes_in given at.made at.envelopes at.call refl refl refl
      0 0 1 changes_few (at_end_of planned_graves) met before changes_next (λ give. refl) tt (at_end_of planned_changes) after result kept is

  pub changes_took : {T : Type 0} (mid after : Keeping) (x : T) (came : Changes) → given ≡ Ok came
      → mid ≡ changed (received met.meta.usn (replied (gives.Changes came))) before → after ≡ changed (settled_by met.meta.usn (asks.ApplyChanges changes)) mid
      → Advances 0 0 1 (at_end_of planned_graves) (at_end_of planned_changes) met before after was now (Ok x)
  changes_took mid after x came granted took settles =
      took_after was now (asks.ApplyChanges changes) at.it changes_in given at.made at.envelopes at.call refl refl refl
      0 0 1 changes_few (at_end_of planned_graves) met before changes_next (λ give. refl) tt (at_end_of planned_changes) after x came granted
      (λ give is. (mid, received_as met.meta.usn give (gives.Changes came) before mid (changes_are give came is).0 took, settles))
      (λ c s account asked met_is place is may. changes_end c s asked [] (place.has.placed may) (changes_made c s account asked met_is place may))

-- ---- a chunk that comes
pub counted_one : {X : Type 0} (p : X → Bool) (x : X) → p x ≡ true → 1 ≤ count_by p (x ∷ [])
counted_one p x is = subst (λ (b : Bool). 1 ≤ 0 + cond b 1 0) (sym is) (omega arith)

brought : (answer : Result Reply WireEnd) (chunk : Chunk) → Gave chunk_in asks.Chunk (λ give. refl) answer chunk → chunk.done ≡ false → brings_unfinished answer ≡ true
brought answer chunk gave unfinished =
    ap brings_unfinished gave.granted.is
    ∙ ap (λ (o : Option Chunk). option_map_or (λ (c : Chunk). not c.done) o false) gave.gave
    ∙ ap not unfinished

module _ {kind : WireKind} (met : Met) (before : Keeping) (was now : Talk kind) (given : Result Chunk Unanswered) (k : ℕ) (at : IsAsked was now asks.Chunk chunk_in given) where
  pull_few : AreFew 1 0 0 (asks.Chunk ∷ [])
  pull_few = record { asked = omega arith; sent = omega arith; rest = omega arith }

  pull_next : (c s : Collection) (account : AccountState) (asked : List Ask) → IsMet c s met → IsAt c s account asked (HavePulled k) before was
      → MaySync c s → (rest : List Ask) × (asked ++ asks.Chunk ∷ rest ≡ planned c s)
  pull_next c s account asked met_is place may = next_pull k c s asked (place.has.placed may)

  pub pull_refused : {T : Type 0} (to : Place) (after : Keeping) (result : Result T Stop) → IsKept given before after → IsRefusedAfter given result
      → Advances 1 0 0 (HavePulled k) to met before after was now result
  pull_refused to after result kept is =
      refused_after was now asks.Chunk at.it chunk_in given at.made at.envelopes at.call refl refl refl
      1 0 0 pull_few (HavePulled k) met before pull_next (λ give. refl) tt to after result kept is

  pub pull_took : (after : Keeping) (chunk : Chunk) → given ≡ Ok chunk
      → after ≡ changed (received met.meta.usn (replied (gives.Chunk chunk))) before
      → PullsOne k met before after was now (Ok chunk.done)
  pull_took after chunk granted took =
      let made = one_tried was now asks.Chunk at.it chunk_in given at.made at.envelopes at.call refl refl refl
      1 0 0 pull_few (HavePulled k) met before pull_next (λ give. refl) tt (HasPulledOne k chunk.done) after chunk.done chunk granted
      (λ give is. (after, received_as met.meta.usn give (gives.Chunk chunk) before after (chunk_are give chunk is).0 took, chunk_settles_none met.meta.usn after))
      (λ c s account asked met_is place is may. pulled_one k c s asked chunk may (place.has.placed may) (chunk_are (answer_to s asked asks.Chunk) chunk is).0) in
      record {
        leads = made.0;
        unfinished = λ unfinished. subst (λ (l : List TriedAsk). 1 ≤ count_by came_unfinished l) (sym made.1)
            (counted_one came_unfinished (record { ask = asks.Chunk; answer = at.call.answer })
            (brought at.call.answer chunk (was_granted chunk_in asks.Chunk (λ give. refl) at.call.answer chunk (sym at.call.came ∙ granted)) unfinished));
      }

  pub pull_left : (after : Keeping) (result : Result Bool Stop) → IsKept given before after → IsRefusedAfter given result → PullsOne k met before after was now result
  pull_left after (Ok done) kept is = absurd is
  pull_left after (Err stop) kept is = record { leads = pull_refused (λ c s asked. ⊤) after (Err stop) kept is; unfinished = tt }

-- nothing was asked
pub pull_stays : {kind : WireKind} (k : ℕ) (met : Met) (before after : Keeping) (was now : Talk kind) (result : Result Bool Stop)
    → now.health ≡ was.health → now.wire ≡ was.wire → now.envelopes ≡ was.envelopes → IsRefused result → PullsOne k met before after was now result
pull_stays k met before after was now (Ok done) health wire envelopes is = absurd is
pull_stays k met before after was now (Err stop) health wire envelopes is = record {
  leads = stays_here 1 0 0 (HavePulled k) (λ c s asked. ⊤) met before after was now (Err stop) (pulled_lead k) health wire envelopes is;
  unfinished = tt;
}

-- ---- a chunk that is sent
-- how many requests it is
pub pushed_few : (chunk : Chunk) → AreFew 0 (if chunk.done then 0 else 1) (if chunk.done then 1 else 0) (asks.ApplyChunk chunk ∷ [])
pushed_few chunk = by chunk.done refl
  where
    by : (b : Bool) → chunk.done ≡ b → AreFew 0 (if b then 0 else 1) (if b then 1 else 0) (asks.ApplyChunk chunk ∷ [])
    by true is = record {
      asked = omega arith;
      sent = subst (λ (b : Bool). 0 + cond (not b) 1 0 ≤ 0) (sym is) (omega arith);
      rest = subst (λ (b : Bool). 0 + cond (true && not (not b)) 1 0 ≤ 1) (sym is) (omega arith);
    }
    by false is = record {
      asked = omega arith;
      sent = subst (λ (b : Bool). 0 + cond (not b) 1 0 ≤ 1) (sym is) (omega arith);
      rest = subst (λ (b : Bool). 0 + cond (true && not (not b)) 1 0 ≤ 0) (sym is) (omega arith);
    }

-- the next chunk is that of what the device holds, which took the server's chunks and settled what it sent
next_made : {kind : WireKind} (keeping : Keeping) (was : Talk kind) (k : ℕ) (from next : Name) (chunk : Chunk) → WhereTold keeping (λ h. IsNextToSend h.rows from chunk next)
    → (c s : Collection) (account : AccountState) (asked : List Ask) → IsAt c s account asked (HavePushed k from) keeping was → MaySync c s
    → IsNextToSend (rows_once_sent c s asked) from chunk next
next_made keeping was k from next chunk told c s account asked place may =
    let usn = s.head.usn in
    let same : all_replied s asked ≡ all_replied s (planned_chunks c s) =
    ap (all_replied s) (place.has.placed may).asked_is
    ∙ replied_quietly s push_request (λ before part. refl) (planned_chunks c s) (slices k (rows_to_push c s)) in
    subst (λ (rows : Rows). IsNextToSend rows from chunk next)
    (rows_after usn asked (received usn (all_replied s asked) (held_by c))
    ∙ ap (λ (came : Received). settled_under usn (names_of (all_brought asked).rows) (all_taken Device usn came.rows c.rows)) same
    ∙ ap (settled_under usn (names_of (all_brought asked).rows)) (same_rows c s (planned_chunks c s) (after_chunks c s).0 usn c.rows may (after_chunks c s).1))
    (told_at c s account asked (HavePushed k from) keeping was place (λ h. IsNextToSend h.rows from chunk next) told)

-- if 39,999 chunks were sent and the next one is not the last one, the device has ten million rows to send
pub too_many_pushed : {kind : WireKind} (k : ℕ) (from next : Name) (chunk : Chunk) (keeping : Keeping) (now : Talk kind) → 39_999 ≤ k → chunk.done ≡ false
    → WhereTold keeping (λ h. IsNextToSend h.rows from chunk next)
    → (c s : Collection) (account : AccountState) (asked : List Ask) → IsAt c s account asked (HavePushed k from) keeping now → MaySync c s
    → HasTenMillionRows c s
too_many_pushed k from next chunk keeping now many unfinished told c s account asked place may =
    let made = next_made keeping now k from next chunk told c s account asked place may in
    let more = (pushed_full k from next c s asked (place.has.placed may) made.part made.slice may
    (sym (ap (λ (x : Chunk). x.done) made.chunk_is) ∙ unfinished)).full in
    let fewer = pushes_fewer c s may.committed.head.usn.low in
    inr (omega (arith, many, more, fewer))

module _ {kind : WireKind} (met : Met) (before : Keeping) (was now : Talk kind) (given : Result (Unit {0}) Unanswered) (k : ℕ) (from next : Name) (chunk : Chunk)
    (told : WhereTold before (λ h. IsNextToSend h.rows from chunk next)) (full : IsFullIfMore chunk)
    (at : IsAsked was now (asks.ApplyChunk chunk) nothing_in given) where
  -- the chunk is the next one of what the device holds
  chunk_made : (c s : Collection) (account : AccountState) (asked : List Ask) → IsAt c s account asked (HavePushed k from) before was → MaySync c s
      → IsNextToSend (rows_once_sent c s asked) from chunk next
  chunk_made = next_made before was k from next chunk told

  push_next : (c s : Collection) (account : AccountState) (asked : List Ask) → IsMet c s met → IsAt c s account asked (HavePushed k from) before was
      → MaySync c s → (rest : List Ask) × (asked ++ asks.ApplyChunk chunk ∷ rest ≡ planned c s)
  push_next c s account asked met_is place may =
      let at_k = place.has.placed may in
      let made = chunk_made c s account asked place may in
      let ahead = next_push k from c s asked at_k in (
        ahead.0,
        ap (λ (x : Chunk). asked ++ asks.ApplyChunk x ∷ ahead.0)
            (made.chunk_is ∙ ap chunk_of (part_sent k from next c s asked at_k made.part made.slice))
            ∙ ahead.1,
      )

  pub push_refused : (after : Keeping) (result : Result (Unit {0}) Stop) → IsKept given before after → IsRefusedAfter given result → SendsOne chunk k from next met before after was now result
  push_refused after (Ok done) kept is = absurd is
  push_refused after (Err stop) kept is = record {
    leads = refused_after was now (asks.ApplyChunk chunk) at.it nothing_in given at.made at.envelopes at.call refl refl refl
        0 (if chunk.done then 0 else 1) (if chunk.done then 1 else 0) (pushed_few chunk) (HavePushed k from) met before push_next (λ give. refl) full
        (HasPushedOne k (if chunk.done then None else Some next)) after (Err stop) kept is;
    sent = tt;
  }

  -- it was the last one, or the next begins after it
  push_place : (c s : Collection) (account : AccountState) (asked : List Ask) → IsAt c s account asked (HavePushed k from) before was → MaySync c s
      → (done : Bool) → chunk.done ≡ done → HasPushedOne k (if done then None else Some next) c s (asked ++ asks.ApplyChunk chunk ∷ [])
  push_place c s account asked place may true is =
      let at_k = place.has.placed may in
      let made = chunk_made c s account asked place may in
      subst (λ (x : Chunk). asked ++ asks.ApplyChunk x ∷ [] ≡ planned_pushes c s) (sym made.chunk_is)
      (pushed_last k from next c s asked at_k made.part made.slice (sym (ap (λ (x : Chunk). x.done) made.chunk_is) ∙ is))
  push_place c s account asked place may false is =
      let at_k = place.has.placed may in
      let made = chunk_made c s account asked place may in
      subst (λ (x : Chunk). HavePushed (k + 1) next c s (asked ++ asks.ApplyChunk x ∷ [])) (sym made.chunk_is)
      (pushed_full k from next c s asked at_k made.part made.slice may (sym (ap (λ (x : Chunk). x.done) made.chunk_is) ∙ is))

  pub push_took : (after : Keeping) (done : Unit {0}) → given ≡ Ok done → after ≡ changed (settled_by met.meta.usn (asks.ApplyChunk chunk)) before
      → SendsOne chunk k from next met before after was now (Ok tt)
  push_took after done came settles =
      let made = one_tried was now (asks.ApplyChunk chunk) at.it nothing_in given at.made at.envelopes at.call refl refl refl
      0 (if chunk.done then 0 else 1) (if chunk.done then 1 else 0) (pushed_few chunk) (HavePushed k from) met before push_next (λ give. refl) full
      (HasPushedOne k (if chunk.done then None else Some next)) after tt done came
      (λ give is. (before, brings_nothing met.meta.usn give before (quiet_give give done is), settles))
      (λ c s account asked met_is place told_is may. push_place c s account asked place may chunk.done refl) in
      record { leads = made.0; sent = ap asks_in made.1 }

-- nothing was sent
pub push_stays : {kind : WireKind} (chunk : Chunk) (k : ℕ) (from next : Name) (met : Met) (before after : Keeping) (was now : Talk kind) (result : Result (Unit {0}) Stop)
    → now.health ≡ was.health → now.wire ≡ was.wire → now.envelopes ≡ was.envelopes → IsRefused result → SendsOne chunk k from next met before after was now result
push_stays chunk k from next met before after was now (Ok done) health wire envelopes is = absurd is
push_stays chunk k from next met before after was now (Err stop) health wire envelopes is = record {
  leads = stays_here 0 (if chunk.done then 0 else 1) (if chunk.done then 1 else 0) (HavePushed k from) (HasPushedOne k (if chunk.done then None else Some next))
      met before after was now (Err stop) (pushed_lead k from) health wire envelopes is;
  sent = tt;
}

-- a chunk was sent, or refused
pub pushes_left : {kind : WireKind} (chunk : Chunk) (k : ℕ) (from next : Name) (met : Met) (k0 km k1 : Keeping) (was now : Talk kind) (e : Stop) (result : Result (Option Name) Stop) → km ≡ k0
    → IsErrAnd result (λ (stop : Stop). stop ≡ e) → SendsOne chunk k from next met km k1 was now (Err e) → PushesOne k from met k0 k1 was now result
pushes_left chunk k from next met k0 km k1 was now e (Ok it) same is one = absurd is
pushes_left chunk k from next met k0 km k1 was now e (Err stop) same is one = record {
  leads = advances_from 0 1 1 (HavePushed k from) (λ c s asked. ⊤) met k0 km k1 was now (Err stop) same
      (advances_more 0 (if chunk.done then 0 else 1) (if chunk.done then 1 else 0) 0 1 1 (HavePushed k from) (λ c s asked. ⊤) met km k1 was now (Err stop)
      (omega arith) (at_most_one chunk.done 0 1 (omega arith) (omega arith)) (at_most_one chunk.done 1 0 (omega arith) (omega arith))
      (advances_passed 0 (if chunk.done then 0 else 1) (if chunk.done then 1 else 0) (HavePushed k from) (HasPushedOne k (if chunk.done then None else Some next))
      (λ c s asked. ⊤) met km k1 was now e (Err stop) is one.leads));
  unfinished = tt;
}
  where
    at_most_one : (b : Bool) (m n : ℕ) → m ≤ 1 → n ≤ 1 → (if b then m else n) ≤ 1
    at_most_one true m n one two = one
    at_most_one false m n one two = two

pub pushes_none : {kind : WireKind} (k : ℕ) (from : Name) (met : Met) (k0 k1 : Keeping) (was now : Talk kind) (result : Result (Option Name) Stop)
    → now.health ≡ was.health → now.wire ≡ was.wire → now.envelopes ≡ was.envelopes → IsRefused result → PushesOne k from met k0 k1 was now result
pushes_none k from met k0 k1 was now (Ok it) health wire envelopes is = absurd is
pushes_none k from met k0 k1 was now (Err stop) health wire envelopes is = record {
  leads = stays_here 0 1 1 (HavePushed k from) (λ c s asked. ⊤) met k0 k1 was now (Err stop) (pushed_lead k from) health wire envelopes is;
  unfinished = tt;
}

pub pushes_took : {kind : WireKind} (chunk : Chunk) (k : ℕ) (from next : Name) (met : Met) (k0 km k1 : Keeping) (was now : Talk kind) (done : Bool) → km ≡ k0 → chunk.done ≡ done
    → SendsOne chunk k from next met km k1 was now (Ok tt) → PushesOne k from met k0 k1 was now (Ok (if done then None else Some next))
pushes_took chunk k from next met k0 km k1 was now true same is one = record {
  leads = advances_from 0 1 1 (HavePushed k from) (HasPushedOne k None) met k0 km k1 was now (Ok None) same
      (advances_to 0 1 1 (HavePushed k from) (HasPushedOne k None) (HasPushedOne k None) met km k1 was now tt None (λ c s asked may at. at)
      (advances_more 0 0 1 0 1 1 (HavePushed k from) (HasPushedOne k None) met km k1 was now (Ok tt) (omega arith) (omega arith) (omega arith)
      (subst (λ (b : Bool). Advances 0 (if b then 0 else 1) (if b then 1 else 0) (HavePushed k from) (HasPushedOne k (if b then None else Some next)) met km k1 was now (Ok tt)) is one.leads)));
  unfinished = tt;
}
pushes_took chunk k from next met k0 km k1 was now false same is one = subst (λ (kept : Keeping). PushesOne k from met kept k1 was now (Ok (Some next))) same sent_it
  where
    shown : 1 ≤ count_by sends_unfinished (asks_in one.leads.tries)
    shown = subst (λ (l : List Ask). 1 ≤ count_by sends_unfinished l) (sym one.sent) (counted_one sends_unfinished (asks.ApplyChunk chunk) (ap not is))

    moved : (b : Bool) → chunk.done ≡ b → (it : Advances {T = Unit {0}} 0 (if b then 0 else 1) (if b then 1 else 0) (HavePushed k from) (HasPushedOne k (if b then None else Some next)) met km k1 was now (Ok tt))
        × (1 ≤ count_by sends_unfinished (asks_in it.tries))
    moved b eq = subst (λ (d : Bool). (it : Advances {T = Unit {0}} 0 (if d then 0 else 1) (if d then 1 else 0) (HavePushed k from) (HasPushedOne k (if d then None else Some next)) met km k1 was now (Ok tt))
        × (1 ≤ count_by sends_unfinished (asks_in it.tries))) eq (one.leads, shown)

    sent_it : PushesOne k from met km k1 was now (Ok (Some next))
    sent_it =
        let one_more = moved false is in
        let made = same_tried 0 1 0 (HavePushed k from) (HasPushedOne k (Some next)) (HasPushedOne k (Some next)) met km k1 was now (tt {0}) (Some next)
        (λ c s asked may at. at) one_more.0 in
        record {
          leads = made.0;
          unfinished = subst (λ (l : List TriedAsk). 1 ≤ count_by sends_unfinished (asks_in l)) (sym made.1) one_more.1;
        }

-- ---- the sanity check
abbrev Checking : Type 0
Checking = Result SanityReply Unanswered

err-ok : (why : Unanswered) (reply : SanityReply) → (let refused : Checking = Err why in refused ≡ Ok reply) → ⊥
err-ok why reply is = grind (arith, is)

same_ok : (own reply : SanityReply) → (let granted : Checking = Ok own in granted ≡ Ok reply) → own ≡ reply
same_ok own reply is = grind (arith, is)

-- the part of a give that shows a cause is what the give said
shown_sanity : (give : Give) (reply : SanityReply) → verdict_in give ≡ Some reply → sanity_in give ≡ Some reply
shown_sanity give reply is = by (sanity_in give) is
  where
    by : (o : Option SanityReply) → option_and_then (λ (r : SanityReply). if shows_cause r then Some r else None) o ≡ Some reply → o ≡ Some reply
    by None is = absurd (none-some reply is)
    by (Some own) is = cause (shows_cause own) is
      where
        cause : (b : Bool) → (if b then Some own else None) ≡ Some reply → Some own ≡ Some reply
        cause true is = is
        cause false is = absurd (none-some reply is)

-- what the wire says once a sanity check was granted
said_check : (it : Request) (counts : SanityCounts) → it.ask ≡ asks.SanityCheck2 counts → (answer : Result Reply WireEnd) (reply : SanityReply)
    → in_form verdict_in (granted_in answer) ≡ Ok reply → (said : Said) × (said_after it answer ≡ Some said) × (said.sanity ≡ Some reply)
said_check it counts ask (Ok own) reply is =
    (said_of it own, refl, ap (λ (a : Ask). sanity_said a own) ask ∙ by (own.status == 200) is)
  where
    given : (o : Option SanityReply) → verdict_in own.give ≡ o → ok_or o unanswered.BadReply ≡ Ok reply → sanity_in own.give ≡ Some reply
    given None shown same = absurd (err-ok unanswered.BadReply reply same)
    given (Some r) shown same = shown_sanity own.give reply (shown ∙ ap (λ (x : SanityReply). Some x) (same_ok r reply same))

    by : (b : Bool) → in_form verdict_in (if b then Ok own.give else Err (unanswered.Refused own.status own.word own.seen)) ≡ Ok reply
        → (if b then sanity_in own.give else None) ≡ Some reply
    by true same = given (verdict_in own.give) refl same
    by false same = absurd (err-ok (unanswered.Refused own.status own.word own.seen) reply same)
said_check it counts ask (Err ends.Failed) reply is = absurd (err-ok unanswered.Lost reply is)
said_check it counts ask (Err ends.BadReply) reply is = absurd (err-ok unanswered.BadReply reply is)
said_check it counts ask (Err ends.Memory) reply is = absurd (err-ok unanswered.Memory reply is)

module _ {kind : WireKind} (met : Met) (keeping : Keeping) (was now : Talk kind) (given : Result SanityReply Unanswered) (counts : SanityCounts)
    (told : WhereTold keeping (λ h. counts ≡ counts_of h.rows)) (at : IsAsked was now (asks.SanityCheck2 counts) verdict_in given) where
  check_few : AreFew 0 0 1 (asks.SanityCheck2 counts ∷ [])
  check_few = record { asked = omega arith; sent = omega arith; rest = omega arith }

  -- the counts are those of the plan
  check_counted : (c s : Collection) (account : AccountState) (asked : List Ask) → IsAt c s account asked (at_end_of planned_pushes) keeping was → MaySync c s
      → counts ≡ counts_of (device_rows c s (planned_pushes c s))
  check_counted c s account asked place may =
      let is = place.has.placed may in
      told_at c s account asked (at_end_of planned_pushes) keeping was place (λ h. counts ≡ counts_of h.rows) told
      ∙ ap counts_of (rows_at c s asked may (leads_on planned_pushes after_pushes c s asked may is))
      ∙ counts_same s.head.usn (names_of (all_brought asked).rows) (device_rows c s asked)
      ∙ ap (λ (l : List Ask). counts_of (device_rows c s l)) is

  check_end : (c s : Collection) (account : AccountState) (asked more : List Ask) → IsAt c s account asked (at_end_of planned_pushes) keeping was → MaySync c s
      → asked ++ asks.SanityCheck2 counts ∷ more ≡ planned_pushes c s ++ asks.SanityCheck2 (counts_of (device_rows c s (planned_pushes c s))) ∷ more
  check_end c s account asked more place may =
      let is = place.has.placed may in
      ap (λ (l : List Ask). l ++ asks.SanityCheck2 counts ∷ more) is
      ∙ ap (λ (n : SanityCounts). planned_pushes c s ++ asks.SanityCheck2 n ∷ more) (check_counted c s account asked place may)

  check_next : (c s : Collection) (account : AccountState) (asked : List Ask) → IsMet c s met → IsAt c s account asked (at_end_of planned_pushes) keeping was
      → MaySync c s → (rest : List Ask) × (asked ++ asks.SanityCheck2 counts ∷ rest ≡ planned c s)
  check_next c s account asked met_is place may = (
    asks.Finish ∷ [],
    check_end c s account asked (asks.Finish ∷ []) place may
        ∙ sym (append_assoc (planned_pushes c s) (asks.SanityCheck2 (counts_of (device_rows c s (planned_pushes c s))) ∷ []) (asks.Finish ∷ [])),
  )

  pub check_refused : {T : Type 0} (to : Place) (result : Result T Stop) → IsRefusedAfter given result
      → Advances 0 0 1 (at_end_of planned_pushes) to met keeping keeping was now result
  check_refused to result is =
      refused_after was now (asks.SanityCheck2 counts) at.it verdict_in given at.made at.envelopes at.call refl refl refl
      0 0 1 check_few (at_end_of planned_pushes) met keeping check_next (λ give. refl) tt to keeping result (λ why came. refl) is

  -- what the reply shows is what the session answers to the planned check
  check_shown : (c s : Collection) (account : AccountState) (asked : List Ask) → IsAt c s account asked (at_end_of planned_pushes) keeping was
      → (reply : SanityReply) → given ≡ Ok reply → MaySync c s
      → verdict_in (answer_to s (planned_pushes c s) (asks.SanityCheck2 (counts_of (device_rows c s (planned_pushes c s))))) ≡ Some reply
  check_shown c s account asked place reply came may =
      let is = place.has.placed may in
      let shown : verdict_in (answer_to s asked (asks.SanityCheck2 counts)) ≡ Some reply =
      subst (λ (r : Result SanityReply Unanswered). IfOk r (λ (it : SanityReply). verdict_in (answer_to s asked (asks.SanityCheck2 counts)) ≡ Some it)) came
      (shown_one was now (asks.SanityCheck2 counts) at.it verdict_in given at.made at.envelopes at.call refl refl refl c s account asked (at_end_of planned_pushes) place.has).1 in
      ap (λ (n : SanityCounts). verdict_in (answer_to s (planned_pushes c s) (asks.SanityCheck2 n))) (sym (check_counted c s account asked place may))
      ∙ ap (λ (l : List Ask). verdict_in (answer_to s l (asks.SanityCheck2 counts))) (sym is)
      ∙ shown

  check_took : (x : Unit {0}) (reply : SanityReply) → given ≡ Ok reply → verdict_of reply ≡ Ok x
      → Advances 0 0 1 (at_end_of planned_pushes) HasPassedCheck met keeping keeping was now (Ok x)
  check_took x reply came good =
      took_after was now (asks.SanityCheck2 counts) at.it verdict_in given at.made at.envelopes at.call refl refl refl
      0 0 1 check_few (at_end_of planned_pushes) met keeping check_next (λ give. refl) tt HasPassedCheck keeping x reply came
      (λ give is. (keeping, brings_nothing met.meta.usn give keeping (quiet_verdict give reply is), check_settles_none met.meta.usn counts keeping))
      (λ c s account asked met_is place is may. record {
        asked_is = check_end c s account asked [] place may;
        sound = sound_join (asker was.envelopes.ids) c s reply may (check_shown c s account asked place reply came may) x good;
      })

  -- what the check found: the sync goes on, or stops at what the reply showed
  pub check_ends : (result : Result (Unit {0}) Stop) (reply : SanityReply) → given ≡ Ok reply → result ≡ verdict_of reply
      → Advances 0 0 1 (at_end_of planned_pushes) HasPassedCheck met keeping keeping was now result
  check_ends (Ok x) reply came is = check_took x reply came (sym is)
  check_ends (Err stop) reply came is = record {
    tries = record { ask = asks.SanityCheck2 counts; answer = at.call.answer } ∷ [];
    asked = asked_one was now (asks.SanityCheck2 counts) at.it verdict_in given at.made at.envelopes at.call;
    few = check_few;
    granted = tt;
    rows = (tt, tt);
    plain = (refl, tt);
    ends =
        let said = said_check at.it counts (ap (λ (r : Request). r.ask) at.made) at.call.answer reply (sym at.call.came ∙ came) in
        let gave = was_granted verdict_in (asks.SanityCheck2 counts) (λ give. refl) at.call.answer reply (sym at.call.came ∙ came) in
        check_stops (record { ask = asks.SanityCheck2 counts; answer = at.call.answer } ∷ []) now.wire stop (record {
          it = record { ask = asks.SanityCheck2 counts; answer = at.call.answer };
          last = ([], refl);
          counts = counts;
          asks = refl;
          granted = gave.granted;
          reply = reply;
          gave = gave.gave;
          said = said.0;
          is = at.call.tried.said ∙ said.1;
          found = said.2;
          verdict = sym is;
        });
    device = λ whole.
        let gave = was_granted verdict_in (asks.SanityCheck2 counts) (λ give. refl) at.call.answer reply (sym at.call.came ∙ came) in
        exchanged_one met.meta.usn (record { ask = asks.SanityCheck2 counts; answer = at.call.answer }) gave.granted keeping keeping keeping
        (brings_nothing met.meta.usn gave.granted.reply.give keeping (quiet_verdict gave.granted.reply.give reply gave.gave))
        (check_settles_none met.meta.usn counts keeping);
    leads = λ c s account earlier met_is place. (
      left_one was now (asks.SanityCheck2 counts) at.it verdict_in given at.made at.envelopes at.call refl refl refl
          0 0 1 check_few (at_end_of planned_pushes) met keeping check_next c s account earlier met_is place,
      tt,
      fair_stop (asker was.envelopes.ids) c s stop reply (sym is) (check_shown c s account earlier place reply came),
    );
  }

-- ---- turns of chunks
-- a loop came so far, and so many chunks that are not the last one came, or were sent
pub record HasTurned {kind : WireKind} (p q : ℕ) (from to : Place) (met : Met) (k0 k1 : Keeping) (t0 t1 : Talk kind) (turns : ℕ) (counted : List TriedAsk → ℕ) : Type 0 where
  pub leads : Advances {T = Unit {0}} p q 0 from to met k0 k1 t0 t1 (Ok tt)
  pub many : turns ≤ counted leads.tries

abbrev pub came : List TriedAsk → ℕ
came tries = count_by came_unfinished tries

abbrev pub sent : List TriedAsk → ℕ
sent tries = count_by sends_unfinished (asks_in tries)

came_then : (a b : List TriedAsk) (m n : ℕ) → m ≤ came a → n ≤ came b → m + n ≤ came (a ++ b)
came_then a b m n one two = let both = sum_by-append (λ (x : TriedAsk). cond (came_unfinished x) 1 0) a b in omega (arith, both, one, two)

sent_then : (a b : List TriedAsk) (m n : ℕ) → m ≤ sent a → n ≤ sent b → m + n ≤ sent (a ++ b)
sent_then a b m n one two = subst (λ (l : List Ask). m + n ≤ count_by sends_unfinished l) (sym (asks_append a b)) (of (asks_in a) (asks_in b) one two)
  where
    of : (x y : List Ask) → m ≤ count_by sends_unfinished x → n ≤ count_by sends_unfinished y → m + n ≤ count_by sends_unfinished (x ++ y)
    of x y one two = let both = sum_by-append (λ (ask : Ask). cond (sends_unfinished ask) 1 0) x y in omega (arith, both, one, two)

-- if 40,000 chunks came and none was the last one, the server has ten million rows to send
pub too_many_pulled : {kind : WireKind} (k : ℕ) (keeping : Keeping) (now : Talk kind) → 40_000 ≤ k
    → (c s : Collection) (account : AccountState) (asked : List Ask) → IsAt c s account asked (HavePulled k) keeping now → MaySync c s
    → HasTenMillionRows c s
too_many_pulled k keeping now many c s account asked place may =
    let full = (place.has.placed may).full in
    let fewer = list_fewer c s in
    inl (omega (arith, many, full, fewer))

-- another chunk came, and it is not the last one
pub pulled_on : {kind : WireKind} (turns : ℕ) (from : Place) (met : Met) (k0 k1 k2 : Keeping) (t0 t1 t2 : Talk kind) (done : Bool) → done ≡ false
    → HasTurned turns 0 from (HavePulled turns) met k0 k1 t0 t1 turns came → PullsOne turns met k1 k2 t1 t2 (Ok done)
    → HasTurned (turns + 1) 0 from (HavePulled (turns + 1)) met k0 k2 t0 t2 (turns + 1) came
pulled_on turns from met k0 k1 k2 t0 t1 t2 true is one two = absurd (grind (arith, is))
pulled_on turns from met k0 k1 k2 t0 t1 t2 false is one two =
    let last = same_tried 1 0 0 (HavePulled turns) (HavePulled (turns + 1)) (HavePulled (turns + 1)) met k1 k2 t1 t2 false (tt {0}) (λ c s asked may at. at) two.leads in
    let made = both_tried turns 0 0 1 0 0 from (HavePulled turns) (HavePulled (turns + 1)) met k0 k1 k2 t0 t1 t2 tt (Ok (tt {0})) one.leads last.0 in
    record {
      leads = made.0;
      many = subst (λ (l : List TriedAsk). turns + 1 ≤ came l) (sym (made.1 ∙ ap (λ (l : List TriedAsk). one.leads.tries ++ l) last.1))
          (came_then one.leads.tries two.leads.tries turns 1 one.many (two.unfinished refl));
    }

-- another chunk was sent, and it is the last one
pub pushed_end : {kind : WireKind} (k : ℕ) (from : Name) (met : Met) (k0 k1 : Keeping) (t0 t1 : Talk kind) (next : Option Name) → next ≡ None
    → PushesOne k from met k0 k1 t0 t1 (Ok next)
    → Advances {T = Unit {0}} 0 1 1 (HavePushed k from) (at_end_of planned_pushes) met k0 k1 t0 t1 (Ok tt)
pushed_end k from met k0 k1 t0 t1 None is one =
    advances_to 0 1 1 (HavePushed k from) (at_end_of planned_pushes) (at_end_of planned_pushes) met k0 k1 t0 t1 None tt (λ c s asked may at. at) one.leads
pushed_end k from met k0 k1 t0 t1 (Some next) is one = absurd (grind (arith, is))

-- or it is not
pub pushed_on : {kind : WireKind} (turns : ℕ) (from : Name) (start : Place) (met : Met) (k0 k1 k2 : Keeping) (t0 t1 t2 : Talk kind) (next : Option Name) (name : Name) → next ≡ Some name
    → HasTurned 0 turns start (HavePushed turns from) met k0 k1 t0 t1 turns sent → PushesOne turns from met k1 k2 t1 t2 (Ok next)
    → HasTurned 0 (turns + 1) start (HavePushed (turns + 1) name) met k0 k2 t0 t2 (turns + 1) sent
pushed_on turns from start met k0 k1 k2 t0 t1 t2 None name is one two = absurd (none-some name is)
pushed_on turns from start met k0 k1 k2 t0 t1 t2 (Some next) name is one two =
    let last = same_tried 0 1 0 (HavePushed turns from) (HavePushed (turns + 1) next) (HavePushed (turns + 1) name) met k1 k2 t1 t2 (Some next) (tt {0})
    (λ c s asked may at. subst (λ (n : Name). HavePushed (turns + 1) n c s asked) (same_Some next name is) at) two.leads in
    let made = both_tried 0 turns 0 0 1 0 start (HavePushed turns from) (HavePushed (turns + 1) name) met k0 k1 k2 t0 t1 t2 tt (Ok (tt {0})) one.leads last.0 in
    record {
      leads = made.0;
      many = subst (λ (l : List TriedAsk). turns + 1 ≤ sent l) (sym (made.1 ∙ ap (λ (l : List TriedAsk). one.leads.tries ++ l) last.1))
          (sent_then one.leads.tries two.leads.tries turns 1 one.many two.unfinished);
    }

-- the last chunk of all was sent, or refused
pub last_pushed : {kind : WireKind} (turns : ℕ) (from next : Name) (chunk : Chunk) (start : Place) (met : Met) (k0 k1 km k2 : Keeping) (t0 t1 t2 : Talk kind) (result : Result (Unit {0}) Stop)
    → km ≡ k1 → chunk.done ≡ true → HasTurned 0 turns start (HavePushed turns from) met k0 k1 t0 t1 turns sent → SendsOne chunk turns from next met km k2 t1 t2 result
    → Advances 0 turns 1 start (at_end_of planned_pushes) met k0 k2 t0 t2 result
last_pushed turns from next chunk start met k0 k1 km k2 t0 t1 t2 result same is one two =
    advances_more 0 (turns + 0) 1 0 turns 1 start (at_end_of planned_pushes) met k0 k2 t0 t2 result (omega arith) (omega arith) (omega arith)
    (advances_then 0 turns 0 0 0 1 start (HavePushed turns from) (at_end_of planned_pushes) met k0 k1 k2 t0 t1 t2 tt result one.leads
    (advances_from 0 0 1 (HavePushed turns from) (at_end_of planned_pushes) met k1 km k2 t1 t2 result same
    (subst (λ (b : Bool). Advances 0 (if b then 0 else 1) (if b then 1 else 0) (HavePushed turns from) (HasPushedOne turns (if b then None else Some next)) met km k2 t1 t2 result)
    is two.leads)))

-- ---- how many requests the graves need
pub no_grave_requests : (k : Keeping) → AreGraveRequests k 0
no_grave_requests k = by k.told
  where
    by : (t : Option (WithMark Holding)) → IfSome t (λ w. 0 ≤ div_ceil (length (wanted_graves Unsent w.current.rows)) 250)
    by None = tt
    by (Some w) = omega arith

pub grave_requests : (k : Keeping) (list : List Row) → WhereTold k (λ h. list ≡ wanted_graves Unsent h.rows) → AreGraveRequests k (div_ceil (length list) 250)
grave_requests k list told = by k.told told
  where
    by : (t : Option (WithMark Holding)) → IfSome t (λ w. list ≡ wanted_graves Unsent w.current.rows)
        → IfSome t (λ w. div_ceil (length list) 250 ≤ div_ceil (length (wanted_graves Unsent w.current.rows)) 250)
    by None is = tt
    by (Some w) is = subst (λ (l : List Row). div_ceil (length list) 250 ≤ div_ceil (length l) 250) is (omega arith)

div_more : (m n : ℕ) → m ≤ n → div_ceil m 250 ≤ div_ceil n 250
div_more m n le =
    let one = div-add-mod' m 250 in
    let two = div-add-mod' n 250 in
    let below : m % 250 < 250 = mod_below m 250 (omega arith) in
    let under : n % 250 < 250 = mod_below n 250 (omega arith) in
    omega (arith, one, two, below, under, le)

-- what came with the server's number adds no grave that is still to be sent
fewer_graves : (usn : ℤ) (came : List Row) (held : Rows) → pos 0 ≤ℤ usn
    → length (wanted_graves Unsent (all_taken Device usn came held)) ≤ length (wanted_graves Unsent held)
fewer_graves usn came held low =
    let notes = unsent_never_grow tables.NoteGrave Device usn came held low in
    let cards = unsent_never_grow tables.CardGrave Device usn came held low in
    let decks = unsent_never_grow tables.DeckGrave Device usn came held low in
    let before = three (wanted_past tables.NoteGrave Unsent (pos 0) held) (wanted_past tables.CardGrave Unsent (pos 0) held) (wanted_past tables.DeckGrave Unsent (pos 0) held) in
    let after = three (wanted_past tables.NoteGrave Unsent (pos 0) (all_taken Device usn came held)) (wanted_past tables.CardGrave Unsent (pos 0) (all_taken Device usn came held)) (wanted_past tables.DeckGrave Unsent (pos 0) (all_taken Device usn came held)) in
    omega (arith, notes, cards, decks, before, after)
  where
    three : (a b d : List Row) → length (a ++ (b ++ d)) ≡ length a + (length b + length d)
    three a b d = length-append a (b ++ d) ∙ ap (λ (n : ℕ). length a + n) (length-append b d)

pub requests_before : (usn : ℤ) (k0 k1 : Keeping) (graves : ℕ) → pos 0 ≤ℤ usn → HasReceived usn k0 k1 → AreGraveRequests k1 graves → AreGraveRequests k0 graves
requests_before usn k0 k1 graves low took most = by k0.told (subst (λ (k : Keeping). AreGraveRequests k graves) took.1 most)
  where
    by : (t : Option (WithMark Holding))
        → IfSome (option_map (marks.changed (received usn took.0)) t) (λ w. graves ≤ div_ceil (length (wanted_graves Unsent w.current.rows)) 250)
        → IfSome t (λ w. graves ≤ div_ceil (length (wanted_graves Unsent w.current.rows)) 250)
    by None is = tt
    by (Some w) is =
        let fewer = div_more (length (wanted_graves Unsent (all_taken Device usn took.0.rows w.current.rows))) (length (wanted_graves Unsent w.current.rows))
        (fewer_graves usn took.0.rows w.current.rows low) in
        omega (arith, is, fewer)

-- the graves that were read are those of the plan
pub graves_at : {kind : WireKind} (c s : Collection) (account : AccountState) (asked : List Ask) (keeping : Keeping) (was : Talk kind) (list : List Row)
    → IsAt c s account asked (at_end_of (λ d t. planned_start d)) keeping was → MaySync c s → WhereTold keeping (λ h. list ≡ wanted_graves Unsent h.rows)
    → HaveSentGraves 0 list c s asked
graves_at c s account asked keeping was list place may told =
    let is = place.has.placed may in
    no_graves_yet list c s asked
    (told_at c s account asked (at_end_of (λ d t. planned_start d)) keeping was place (λ h. list ≡ wanted_graves Unsent h.rows) told
    ∙ ap (wanted_graves Unsent) (rows_at c s asked may (leads_on (λ d t. planned_start d) after_start c s asked may is)
    ∙ ap (λ (l : List Ask). settled_under s.head.usn (names_of (all_brought l).rows) (device_rows c s l)) is)) is

-- ---- all but the finish
pub exchanges_refused : {kind : WireKind} (to : Place) (met : Met) (k0 k1 : Keeping) (t0 t1 : Talk kind) (result : Result (Unit {0}) Stop) (graves : ℕ)
    → AreGraveRequests k0 graves → IsErr result → Advances 40_000 39_999 (4 + graves) at_meta to met k0 k1 t0 t1 result → Exchanges met k0 k1 t0 t1 result
exchanges_refused to met k0 k1 t0 t1 (Ok x) graves most is one = absurd (grind (arith, is))
exchanges_refused to met k0 k1 t0 t1 (Err stop) graves most is one = record {
  tries = one.tries;
  asked = one.asked;
  graves = graves;
  graves_most = most;
  few = one.few;
  granted = one.granted;
  rows = one.rows;
  plain = one.plain;
  ends = one.ends;
  device = one.device;
  leads = λ c s account met_is at. let led = one.leads c s account [] met_is at in (led.0, tt, led.2);
}

exchanges_went : {kind : WireKind} (met : Met) (k0 k1 : Keeping) (t0 t1 : Talk kind) (graves : ℕ) (x : Unit {0}) → AreGraveRequests k0 graves
    → Advances 40_000 39_999 (4 + graves) at_meta HasPassedCheck met k0 k1 t0 t1 (Ok x) → Exchanges met k0 k1 t0 t1 (Ok x)
exchanges_went met k0 k1 t0 t1 graves x most one = record {
  tries = one.tries;
  asked = one.asked;
  graves = graves;
  graves_most = most;
  few = one.few;
  granted = one.granted;
  rows = one.rows;
  plain = one.plain;
  ends = tt;
  device = one.device;
  leads = λ c s account met_is at.
      let there = one.leads c s account [] met_is at in (
        there.0,
        there.1,
        tt,
      );
}

-- all was asked but the finish, or it was refused
pub exchanges_all : {kind : WireKind} (met : Met) (k0 k1 : Keeping) (t0 t1 : Talk kind) (graves : ℕ) (result : Result (Unit {0}) Stop) → AreGraveRequests k0 graves
    → Advances 40_000 39_999 (4 + graves) at_meta HasPassedCheck met k0 k1 t0 t1 result → Exchanges met k0 k1 t0 t1 result
exchanges_all met k0 k1 t0 t1 graves (Ok x) most one = exchanges_went met k0 k1 t0 t1 graves x most one
exchanges_all met k0 k1 t0 t1 graves (Err stop) most one = exchanges_refused HasPassedCheck met k0 k1 t0 t1 (Err stop) graves most (grind arith) one
