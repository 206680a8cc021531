-- What the tests of a greeting say if they let a sync go on.
use Rattle.std.specs.Ordering.{int_eq}
use Rattle.std.specs.Prelude.{◌≡◌, ◌≢◌, ◌==◌, ℤ, pos, ◌<ℤ◌, ◌&&◌, Bool, true, false, not, if◌then◌else◌, List, Option, Some, None, IfSome, Result, Ok, Err, IfOk, IsErrAnd, ok_or, ◌⊎◌}
use Rattle.std.proofs.Common.{refl, sym, ap, subst, ◌∙◌, inl, inr, arith}
use Rattle.std.proofs.lemmas.Int.{ints}
use Rattle.std.proofs.lemmas.Option.{none-some, same_Some}
use Rattle.ak_base.specs.Heads.{IsWithin, is_within}
use Rattle.ak_base.specs.Limits.{last_head_usn}
use Rattle.ak_base.specs.declared.heads.Head.{Head}
use Rattle.ak_client.specs.Greetings.{EndsAtDevice, Finds, FindsTold, IsGreeting, IsReady, are_far_apart, clock_stop, head_stop, is_unchanged, meta_of}
use Rattle.ak_client.specs.Outcomes.{end_or_go, is_told_by_meta, outcome_at}
use Rattle.ak_client.specs.declared.outcomes.Outcome.{Outcome}
use Rattle.ak_client.specs.declared.outcomes.Outcome.TheVariants as outcomes
use Rattle.ak_client_wire.specs.Forms.{is_meta_in_range, is_moment, meta_in, meta_told}
use Rattle.ak_client_wire.specs.Tries.{Answered, granted_in, in_form}
use Rattle.ak_client_wire.specs.Wires.{WireKind, WireState}
use Rattle.ak_client_wire.specs.declared.asks.Unanswered.{Unanswered}
use Rattle.ak_client_wire.specs.declared.asks.Unanswered.TheVariants as unanswered
use Rattle.ak_client_wire.specs.declared.wires.MetaSaid.{MetaSaid}
use Rattle.ak_client_wire.specs.declared.wires.WireEnd.{WireEnd}
use Rattle.ak_client_wire.specs.declared.wires.WireEnd.TheVariants as ends
use Rattle.ak_exchange.specs.Stops.{keep_stop, wire_stop}
use Rattle.ak_exchange.specs.declared.envelopes.Ids.{Ids}
use Rattle.ak_exchange.specs.declared.envelopes.Met.{Met}
use Rattle.ak_faults.specs.Causes.{Health}
use Rattle.ak_io.specs.Arrivals.{GivesNext}
use Rattle.ak_keep.specs.Collections.{Holding, Rows}
use Rattle.ak_keep.specs.Keepers.{IsRightlyKnown, Keeping, WhereTold}
use Rattle.ak_keep.specs.Marks.{WithMark}
use Rattle.ak_keep.specs.declared.keepers.KeepFault.{KeepFault}
use Rattle.ak_merge.specs.Edits.{second_of}
use Rattle.ak_merge.specs.Soundness.{first_fault}
use Rattle.ak_merge.specs.declared.checks.CheckFault.{CheckFault}
use Rattle.ak_messages.specs.declared.replies.Give.{Give}
use Rattle.ak_messages.specs.declared.replies.Give.TheVariants as gives
use Rattle.ak_messages.specs.declared.replies.Reply.{Reply}
use Rattle.ak_messages.specs.declared.requests.Request.{Request}
use Rattle.ak_session.proofs.Ranges.{within}

-- a test that lets a sync go on found no reason to stop
pub passed : (o : Option Outcome) → end_or_go o ≡ Ok tt → o ≡ None
passed None is = refl
passed (Some why) is = grind (arith, is)

none_of : (why : Outcome) → Some why ≡ None → ⊥
none_of why is = grind (arith, is)

-- what holds of the result of an exit by this reason
pub exits : {T E : Type 0} (result : Result T E) (why : E) (P : Result T E → Type 0) → IsErrAnd result (λ (other : E). other ≡ why)
    → P (Err why) → P result
exits (Ok value) why P is so = absurd is
exits {T} {E} (Err other) why P is so = subst (λ (e : E). P (Err e)) (sym is) so

-- ---- the reasons that the tests give
-- what holds of those that the server and the clocks give
pub of_clocks : (P : Outcome → Type 0) → P outcomes.Stopped → ((device server : ℤ) → P (outcomes.ClockOff device server)) → (meta : MetaSaid) (second : ℤ) (why : Outcome)
    → clock_stop meta second ≡ Some why → P why
of_clocks P stopped off meta second why = by (not meta.cont) (are_far_apart second meta.ts)
  where
    by : (no far : Bool) → (if no then Some outcomes.Stopped else if far then Some (outcomes.ClockOff second meta.ts) else None) ≡ Some why → P why
    by true far is = subst P (same_Some outcomes.Stopped why is) stopped
    by false true is = subst P (same_Some (outcomes.ClockOff second meta.ts) why is) (off second meta.ts)
    by false false is = absurd (none-some why is)

-- and of those that the heads give
pub of_heads : (P : Outcome → Type 0) → P outcomes.NoChanges → ((device server : ℤ) → P (outcomes.FullSchema device server)) → ((usn : ℤ) → P (outcomes.FullSequence usn))
    → (meta : MetaSaid) (head : Head) (unchanged : Bool) (why : Outcome) → head_stop meta head unchanged ≡ Some why → P why
of_heads P none schemas number meta head unchanged why = by unchanged (not (int_eq head.schema meta.scm)) (int_eq meta.usn last_head_usn)
  where
    by : (same other last : Bool)
        → (if same then Some outcomes.NoChanges else if other then Some (outcomes.FullSchema head.schema meta.scm) else if last then Some (outcomes.FullSequence meta.usn) else None) ≡ Some why
        → P why
    by true other last is = subst P (same_Some outcomes.NoChanges why is) none
    by false true last is = subst P (same_Some (outcomes.FullSchema head.schema meta.scm) why is) (schemas head.schema meta.scm)
    by false false true is = subst P (same_Some (outcomes.FullSequence meta.usn) why is) (number meta.usn)
    by false false false is = absurd (none-some why is)

-- the meta tells them all
pub clock_told : (meta : MetaSaid) (second : ℤ) (why : Outcome) → clock_stop meta second ≡ Some why → is_told_by_meta why ≡ true
clock_told meta second why is = of_clocks (λ (o : Outcome). is_told_by_meta o ≡ true) refl (λ device server. refl) meta second why is

pub head_told : (meta : MetaSaid) (head : Head) (unchanged : Bool) (why : Outcome) → head_stop meta head unchanged ≡ Some why → is_told_by_meta why ≡ true
head_told meta head unchanged why is =
    of_heads (λ (o : Outcome). is_told_by_meta o ≡ true) refl (λ device server. refl) (λ usn. refl) meta head unchanged why is

-- ---- the heads

-- there is something to sync, the schema moments agree, and the server's number is not the last one
pub heads_pass : (meta : MetaSaid) (head : Head) (unchanged : Bool) → head_stop meta head unchanged ≡ None
    → (head.schema ≡ meta.scm) × (meta.usn ≢ last_head_usn)
heads_pass meta head unchanged is =
    by unchanged (int_eq head.schema meta.scm) (int_eq meta.usn last_head_usn) refl refl is
  where
    by : (same schemas last : Bool) → int_eq head.schema meta.scm ≡ schemas → int_eq meta.usn last_head_usn ≡ last
        → (if same then Some outcomes.NoChanges
        else if not schemas then Some (outcomes.FullSchema head.schema meta.scm)
        else if last then Some (outcomes.FullSequence meta.usn)
        else None) ≡ None
        → (head.schema ≡ meta.scm) × (meta.usn ≢ last_head_usn)
    by true schemas last two three is = absurd (none_of outcomes.NoChanges is)
    by false false last two three is = absurd (none_of (outcomes.FullSchema head.schema meta.scm) is)
    by false true true two three is = absurd (none_of (outcomes.FullSequence meta.usn) is)
    by false true false two three is = (grind (arith, ints, two), λ same. grind (arith, ints, three, same))

-- a number in the range of a head that is not the last one is below it
pub below_last : (usn : ℤ) → IsWithin (pos 0) last_head_usn usn → usn ≢ last_head_usn → usn <ℤ last_head_usn
below_last usn within other = let high = within.high in grind (arith, ints, high, other)

-- ---- the number of a meta
third : (a b c : Bool) → (a && b && c) ≡ true → c ≡ true
third true true c is = is
third true false c is = grind (arith, is)
third false b c is = grind (arith, is)

usn_given : (give : Give) → IfOk (ok_or (meta_in give) unanswered.BadReply) (λ (met : MetaSaid). IsWithin (pos 0) last_head_usn met.usn)
usn_given (gives.Meta meta) = by (is_meta_in_range meta) refl
  where
    by : (b : Bool) → is_meta_in_range meta ≡ b
        → IfOk (ok_or (if b then Some (meta_told meta) else None) unanswered.BadReply) (λ (met : MetaSaid). IsWithin (pos 0) last_head_usn met.usn)
    by false is = tt
    by true is =
        within (pos 0) last_head_usn meta.usn
        (third (is_moment meta.scm) (is_moment meta.moment) (is_within (pos 0) last_head_usn meta.usn) is)
usn_given gives.Nothing = tt
usn_given (gives.Graves ids) = tt
usn_given (gives.Changes changes) = tt
usn_given (gives.Chunk chunk) = tt
usn_given (gives.Sanity reply) = tt
usn_given (gives.Moment moment) = tt
usn_given (gives.Uploaded moment schema) = tt
usn_given (gives.Whole whole) = tt

usn_granted : (b : Bool) (reply : Reply)
    → IfOk (in_form meta_in (if b then Ok reply.give else Err (unanswered.Refused reply.status reply.word reply.seen)))
    (λ (met : MetaSaid). IsWithin (pos 0) last_head_usn met.usn)
usn_granted true reply = usn_given reply.give
usn_granted false reply = tt

usn_answered : (answer : Result Reply WireEnd) → IfOk (in_form meta_in (granted_in answer)) (λ (met : MetaSaid). IsWithin (pos 0) last_head_usn met.usn)
usn_answered (Ok reply) = usn_granted (reply.status == 200) reply
usn_answered (Err ends.Failed) = tt
usn_answered (Err ends.BadReply) = tt
usn_answered (Err ends.Memory) = tt

-- the number that a granted meta tells is in the range of a head
pub usn_within : {kind : WireKind} (request : Request) (before now : Health) (was is : WireState kind) (met : MetaSaid) → Answered before now was is request meta_in (Ok met)
    → IsWithin (pos 0) last_head_usn met.usn
usn_within request before now was is met call =
    subst (λ (r : Result MetaSaid Unanswered). IfOk r (λ (m : MetaSaid). IsWithin (pos 0) last_head_usn m.usn)) (sym call.came) (usn_answered call.answer)

-- ---- the device
-- what was read of the device
pub finds_told : (keeping read : Keeping) (meta : MetaSaid) (head : Head) (unchanged : Bool) → read ≡ keeping → WhereTold keeping (λ h. h.head ≡ Some head)
    → IsRightlyKnown read → WhereTold read (λ h. unchanged ≡ is_unchanged meta head h.rows) → FindsTold meta head unchanged keeping
finds_told keeping read meta head unchanged same held known found = record {
  known = subst IsRightlyKnown same known;
  told = by keeping.told held (subst (λ (k : Keeping). WhereTold k (λ h. unchanged ≡ is_unchanged meta head h.rows)) same found);
}
  where
    by : (told : Option (WithMark Holding)) → IfSome told (λ (w : WithMark Holding). w.current.head ≡ Some head)
        → IfSome told (λ (w : WithMark Holding). unchanged ≡ is_unchanged meta head w.current.rows)
        → IfSome told (λ (w : WithMark Holding). Finds meta head unchanged w.current)
    by None one other = tt
    by (Some w) one other = record { holds = one; tells = other }

-- and passed
pub ready_where : (keeping : Keeping) (meta : MetaSaid) (head : Head) (unchanged : Bool) → head_stop meta head unchanged ≡ None → IsWithin (pos 0) last_head_usn meta.usn
    → FindsTold meta head unchanged keeping → WhereTold keeping (λ h. first_fault h.rows ≡ None)
    → WhereTold keeping (λ h. IsReady h (record { meta = meta; head = head }))
ready_where keeping meta head unchanged pass usn finds = by keeping.told finds.told
  where
    by : (told : Option (WithMark Holding)) → IfSome told (λ (w : WithMark Holding). Finds meta head unchanged w.current)
        → IfSome told (λ (w : WithMark Holding). first_fault w.current.rows ≡ None)
        → IfSome told (λ (w : WithMark Holding). IsReady w.current (record { meta = meta; head = head }))
    by None held sound = tt
    by (Some w) held sound =
        let heads = heads_pass meta head unchanged pass in
        record { head = held.holds; pass = ap (head_stop meta head) (sym held.tells) ∙ pass; schema = heads.0; number = below_last meta.usn usn heads.1; sound = sound }

-- the head that was read is that of the device
pub heads_told : (before now : Keeping) (met : Met) → now ≡ before → WhereTold before (λ h. IsReady h met) → WhereTold now (λ h. h.head ≡ Some met.head)
heads_told before now met same ready = subst (λ (k : Keeping). WhereTold k (λ h. h.head ≡ Some met.head)) (sym same) (by before.told ready)
  where
    by : (t : Option (WithMark Holding)) → IfSome t (λ (w : WithMark Holding). IsReady w.current met)
        → IfSome t (λ (w : WithMark Holding). w.current.head ≡ Some met.head)
    by None is = tt
    by (Some w) is = is.head

-- ---- why a greeting ends
pub stopped_by : (o : Option Outcome) (why : Outcome) → end_or_go o ≡ Err why → o ≡ Some why
stopped_by None why is = grind (arith, is)
stopped_by (Some own) why is = grind (arith, is)

-- what the heads and the rows say
pub ends_by_heads : (keeping : Keeping) (meta : MetaSaid) (head : Head) (unchanged : Bool) (why : Outcome) → FindsTold meta head unchanged keeping
    → Err why ≡ end_or_go (head_stop meta head unchanged) → EndsAtDevice meta keeping why
ends_by_heads keeping meta head unchanged why finds is = inr (head, unchanged, finds, inl (stopped_by (head_stop meta head unchanged) why (sym is)))

pub ends_by_rows : (keeping read : Keeping) (meta : MetaSaid) (head : Head) (unchanged : Bool) (why : Outcome) → read ≡ keeping → FindsTold meta head unchanged keeping
    → head_stop meta head unchanged ≡ None
    → ((fault : KeepFault) × (why ≡ outcome_at (keep_stop fault)))
    ⊎ ((fault : CheckFault) × (why ≡ outcomes.OwnCheck fault) × WhereTold read (λ h. first_fault h.rows ≡ Some fault))
    → EndsAtDevice meta keeping why
ends_by_rows keeping read meta head unchanged why same finds pass (inl refused) = inl refused
ends_by_rows keeping read meta head unchanged why same finds pass (inr (fault, own, unsound)) =
    inr (head, unchanged, finds, inr (pass, (fault, own, subst (λ (k : Keeping). WhereTold k (λ h. first_fault h.rows ≡ Some fault)) same unsound)))

-- the greeting, once its meta was granted and the clock gave this moment
module _ {kind : WireKind} (ids : Ids) (h0 h1 : Health) (w0 w1 : WireState kind) (old new : Option (List ℤ)) (keeping : Keeping) (meta : MetaSaid) (why : Outcome)
    (heard : Answered h0 h1 w0 w1 (meta_of ids) meta_in (Ok meta)) (at second : ℤ) (given : GivesNext old new at) (is : second ≡ second_of at) where
  pub greeting_by_clocks : Err why ≡ end_or_go (clock_stop meta second) → IsGreeting ids h0 h1 w0 w1 old new keeping (Err why)
  greeting_by_clocks stopped = record {
    answer = Ok meta;
    heard = heard;
    goes_on = tt;
    ends = (at, given, inl (subst (λ (s : ℤ). clock_stop meta s ≡ Some why) is (stopped_by (clock_stop meta second) why (sym stopped))));
  }

  pub greeting_by_device : Ok tt ≡ end_or_go (clock_stop meta second) → EndsAtDevice meta keeping why
      → IsGreeting ids h0 h1 w0 w1 old new keeping (Err why)
  greeting_by_device pass ends = record {
    answer = Ok meta;
    heard = heard;
    goes_on = tt;
    ends = (at, given, inr (subst (λ (s : ℤ). clock_stop meta s ≡ None) is (passed (clock_stop meta second) (sym pass)), ends));
  }

pub greeting_unheard : {kind : WireKind} (ids : Ids) (h0 h1 : Health) (w0 w1 : WireState kind) (old : Option (List ℤ)) (keeping : Keeping) (why : Unanswered)
    → Answered h0 h1 w0 w1 (meta_of ids) meta_in (Err why) → IsGreeting ids h0 h1 w0 w1 old old keeping (Err (outcome_at (wire_stop why)))
greeting_unheard ids h0 h1 w0 w1 old keeping why heard = record { answer = Err why; heard = heard; goes_on = tt; ends = refl }

pub greeting_goes_on : {kind : WireKind} (ids : Ids) (h0 h1 : Health) (w0 w1 : WireState kind) (old new : Option (List ℤ)) (keeping : Keeping) (met : Met)
    → Answered h0 h1 w0 w1 (meta_of ids) meta_in (Ok met.meta) → IsGreeting ids h0 h1 w0 w1 old new keeping (Ok met)
greeting_goes_on ids h0 h1 w0 w1 old new keeping met heard = record { answer = Ok met.meta; heard = heard; goes_on = refl; ends = tt }
