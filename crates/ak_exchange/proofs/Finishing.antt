-- The finish: once it is granted, its session committed.
use Rattle.std.specs.Prelude.{◌≡◌, ℕ, ◌+◌, ◌^◌, ℤ, pos, Bool, true, false, if◌then◌else◌, List, [], ◌∷◌, ◌++◌, length, Some, None, Result, Ok, Err, IsErrAnd, IfOk, IfErr, ◌⊎◌}
use Rattle.std.proofs.Common.{refl, sym, ap, subst, ◌∙◌, append-nil, inl, inr, arith}
use Rattle.std.proofs.lemmas.Option.{none-some, same_Some}
use Rattle.ak_base.specs.Heads.{IsMoment}
use Rattle.ak_base.specs.Limits.{last_moment}
use Rattle.ak_client_wire.specs.Forms.{is_moment, moment_in}
use Rattle.ak_client_wire.specs.Tries.{Answered}
use Rattle.ak_client_wire.specs.Wires.{WireKind, WireState}
use Rattle.ak_client_wire.specs.declared.asks.Unanswered.{Unanswered}
use Rattle.ak_client_wire.specs.declared.asks.Unanswered.TheVariants as unanswered
use Rattle.ak_exchange.proofs.Asking.{CommitsOnce, IsShown, commit_call}
use Rattle.ak_exchange.proofs.Parts.{IsAsked}
use Rattle.ak_exchange.proofs.Passing.{asked_one}
use Rattle.ak_exchange.proofs.Places.{after_check}
use Rattle.ak_exchange.proofs.Stepping.{one_more, step_is}
use Rattle.ak_exchange.proofs.Stopping.{by_memory, by_wire, none_granted, one_but_last, refused_after_stops, refused_stops, was_granted, was_not_granted}
use Rattle.ak_exchange.proofs.Tried.{asked_none, few_none}
use Rattle.ak_exchange.specs.Asked.{AreFew, Talk, TriedAsk, asker, request_at}
use Rattle.ak_exchange.specs.Grants.{EndsUnanswered, StopsUnanswered}
use Rattle.ak_exchange.specs.Phases.{Finishes, HasAsked, HasCommitted, HasPassedCheck, IsLeft, IsOutOfSteps, IsReached, finish_after}
use Rattle.ak_exchange.specs.Stops.{comes_before_finish, wire_stop}
use Rattle.ak_exchange.specs.declared.stops.Stop.{Stop}
use Rattle.ak_exchange.specs.declared.stops.Stop.TheVariants as stops
use Rattle.ak_keep.specs.Collections.{Collection}
use Rattle.ak_messages.specs.declared.replies.Give.{Give}
use Rattle.ak_messages.specs.declared.replies.Give.TheVariants as gives
use Rattle.ak_messages.specs.declared.requests.Ask.{Ask}
use Rattle.ak_messages.specs.declared.requests.Ask.TheVariants as asks
use Rattle.ak_messages.specs.declared.requests.Request.{Request}
use Rattle.ak_protocol.specs.Accounts.{AccountState}
use Rattle.ak_protocol.specs.Logs.{Log}
use Rattle.ak_protocol.specs.Serving.{commit_reply}
use Rattle.ak_session.proofs.Ranges.{within}
use Rattle.ak_session.specs.Contents.{closed, refusal}
use Rattle.ak_session.specs.Plans.{Asker, requests_from}

-- ---- the moment
same_if : (b : Bool) (own moment : ℤ) → (if b then Some own else None) ≡ Some moment → (own ≡ moment) × (b ≡ true)
same_if true own moment is = (same_Some own moment is, refl)
same_if false own moment is = absurd (none-some moment is)

-- a moment that was given is in its range
pub moment_fits : (give : Give) (moment : ℤ) → moment_in give ≡ Some moment → IsMoment moment
moment_fits (gives.Moment own) moment is =
    let same = same_if (is_moment own) own moment is in
    subst IsMoment same.0 (within (pos 0) last_moment own same.1)
moment_fits gives.Nothing moment is = absurd (none-some moment is)
moment_fits (gives.Meta m) moment is = absurd (none-some moment is)
moment_fits (gives.Graves g) moment is = absurd (none-some moment is)
moment_fits (gives.Changes c) moment is = absurd (none-some moment is)
moment_fits (gives.Chunk c) moment is = absurd (none-some moment is)
moment_fits (gives.Sanity s) moment is = absurd (none-some moment is)
moment_fits (gives.Uploaded m s) moment is = absurd (none-some moment is)
moment_fits (gives.Whole w) moment is = absurd (none-some moment is)

-- ---- refused
late_as : {T : Type 0} (result : Result T Stop) (why : Stop) → comes_before_finish why ≡ false → IsErrAnd result (λ (stop : Stop). stop ≡ why)
    → IfErr result (λ (stop : Stop). comes_before_finish stop ≡ false)
late_as (Ok x) why late is = tt
late_as (Err stop) why late is = ap comes_before_finish is ∙ late

pub late_memory : {T : Type 0} (result : Result T Stop) → IsErrAnd result (λ (stop : Stop). stop ≡ stops.Memory)
    → IfErr result (λ (stop : Stop). comes_before_finish stop ≡ false)
late_memory result is = late_as result stops.Memory refl is

pub late_wire : {T : Type 0} (result : Result T Stop) (why : Unanswered) → IsErrAnd result (λ (stop : Stop). stop ≡ wire_stop why)
    → IfErr result (λ (stop : Stop). comes_before_finish stop ≡ false)
late_wire result why is = late_as result (wire_stop why) (each why) is
  where
    each : (u : Unanswered) → comes_before_finish (wire_stop u) ≡ false
    each unanswered.Lost = refl
    each unanswered.BadReply = refl
    each (unanswered.Refused status word seen) = refl
    each unanswered.Memory = refl

no_moment : (result : Result ℤ Stop) (why : Stop) (P : ℤ → Type 0) → IsErrAnd result (λ (stop : Stop). stop ≡ why) → IfOk result P
no_moment (Ok x) why P is = absurd is
no_moment (Err stop) why P is = tt

-- no step was left
stopped_unasked : {kind : WireKind} {T : Type 0} (was : Talk kind) (result : Result T Stop) → was.envelopes.step + 1 ≡ 2 ^ 64 → IsErrAnd result (λ (stop : Stop). stop ≡ stops.Memory)
    → IfErr result (λ (stop : Stop). IsOutOfSteps was [] stop ⊎ StopsUnanswered [] stop)
stopped_unasked was (Ok x) full is = absurd is
stopped_unasked was (Err stop) full is = inl (record { unasked = refl; last = full; memory = is })

-- or because the last that was tried was not granted
stopped_unanswered : {kind : WireKind} {T : Type 0} (was : Talk kind) (tries : List TriedAsk) (result : Result T Stop) (why : Unanswered) → EndsUnanswered tries why
    → IsErrAnd result (λ (stop : Stop). stop ≡ wire_stop why) → IfErr result (λ (stop : Stop). IsOutOfSteps was tries stop ⊎ StopsUnanswered tries stop)
stopped_unanswered was tries (Ok x) why ends is = absurd is
stopped_unanswered was tries (Err stop) why ends is = inr (why, is, ends)

-- a finish that was not asked
pub finishes_unasked : {kind : WireKind} (was now : Talk kind) (result : Result ℤ Stop) → was.envelopes.step + 1 ≡ 2 ^ 64
    → IsErrAnd result (λ (stop : Stop). stop ≡ stops.Memory) → now.health ≡ was.health → now.wire ≡ was.wire → now.envelopes ≡ was.envelopes → Finishes was now result
finishes_unasked {kind} was now result full is health wire envelopes = record {
  tries = [];
  asked = asked_none was now health wire envelopes;
  few = few_none 0 0 1;
  granted = none_granted result;
  rows = tt;
  ends = refused_stops now.wire result (by_memory result is);
  late = late_memory result is;
  why = stopped_unasked was result full is;
  leads = λ c s account earlier has. (
    record {
      reached = subst (λ (l : List Ask). IsReached (asker was.envelopes.ids) account s l now.wire.log) (sym (append-nil earlier))
          (subst (λ (w : WireState kind). IsReached (asker was.envelopes.ids) account s earlier w.log) (sym wire) has.reached);
      front = λ may. let ahead = after_check c s in (
        ahead.0,
        ap (λ (l : List Ask). l ++ ahead.0) (append-nil earlier) ∙ ap (λ (l : List Ask). l ++ ahead.0) (has.placed may).asked_is ∙ ahead.1,
      );
    },
    no_moment result stops.Memory (λ moment. ([] ≡ asks.Finish ∷ []) × HasCommitted c s account (asker was.envelopes.ids) earlier moment now) is,
  );
}

module _ {kind : WireKind} (was now : Talk kind) (given : Result ℤ Unanswered) (at : IsAsked was now asks.Finish moment_in given) where
  finish_few : AreFew 0 0 1 (asks.Finish ∷ [])
  finish_few = record { asked = omega arith; sent = omega arith; rest = omega arith }

  module _ (c s : Collection) (account : AccountState) (earlier : List Ask) (has : HasAsked c s account earlier HasPassedCheck was) where
    abbrev who : Asker
    who = asker was.envelopes.ids

    abbrev before : List Request
    before = requests_from who s.head.moment 1 earlier

    -- the request is the finish after these
    same_step : finish_after who s earlier ≡ request_at who s.head.moment (length before + 1) asks.Finish
    same_step = step_is who account s earlier asks.Finish (length earlier + 1) refl

    same_request : at.it ≡ request_at who s.head.moment (length before + 1) asks.Finish
    same_request = at.made
        ∙ ap (λ (base : ℤ). request_at who base (was.envelopes.step + 1) asks.Finish) has.base
        ∙ ap (λ (n : ℕ). request_at who s.head.moment (n + 1) asks.Finish) has.step
        ∙ same_step

    abbrev Given : ℤ → Type 0
    Given moment = (log : Log) × (now.wire.log ≡ Some log) × ((clock : ℤ) × (after : Collection)
        × CommitsOnce who account s before asks.Finish log clock after × (moment_in (commit_reply asks.Finish after.head).give ≡ Some moment))

    called : IsShown who account s (before ++ request_at who s.head.moment (length before + 1) asks.Finish ∷ []) now.wire.log × IfOk given Given
    called = commit_call who account s before asks.Finish was.health now.health was.wire now.wire moment_in given refl refl has.reached
        (subst (λ (r : Request). Answered was.health now.health was.wire now.wire r moment_in given) same_request at.call)

    pub finish_left : IsLeft c s account who (earlier ++ asks.Finish ∷ []) now
    finish_left = record {
      reached = subst (λ (l : List Request). IsShown who account s l now.wire.log) (one_more who account s earlier asks.Finish) called.0;
      front = λ may. ([], append-nil (earlier ++ asks.Finish ∷ []) ∙ ap (λ (l : List Ask). l ++ asks.Finish ∷ []) (has.placed may).asked_is);
    }

    committed : (moment : ℤ) → Given moment → HasCommitted c s account who earlier moment now
    committed moment made =
        let once = made.2.2 in record {
          log = made.0;
          told = made.1;
          at = made.2.0;
          after = made.2.1;
          after_is = once.0 ∙ ap (λ (r : Request). closed s before r made.2.0) (sym same_step);
          only = once.1;
          allowed = subst (λ (r : Request). refusal s before r ≡ None) (sym same_step) once.2;
          moment_is = sym (same_if (is_moment made.2.1.head.moment) made.2.1.head.moment moment made.2.3).0;
        }

    pub finish_committed : (moment : ℤ) → given ≡ Ok moment → HasCommitted c s account who earlier moment now
    finish_committed moment is = committed moment (subst (λ (r : Result ℤ Unanswered). IfOk r Given) is called.1)

  abbrev tried_finish : TriedAsk
  tried_finish = record { ask = asks.Finish; answer = at.call.answer }

  pub finishes_refused : (result : Result ℤ Stop) (why : Unanswered) → given ≡ Err why → IsErrAnd result (λ (stop : Stop). stop ≡ wire_stop why)
      → Finishes was now result
  finishes_refused result why came is = record {
    tries = tried_finish ∷ [];
    asked = asked_one was now asks.Finish at.it moment_in given at.made at.envelopes at.call;
    few = finish_few;
    rows = (tt, tt);
    granted = one_but_last tried_finish result (λ (stop : Stop). stop ≡ wire_stop why) is;
    ends = refused_after_stops now.wire tried_finish given result
        (λ moment was_so. (was_granted moment_in asks.Finish (λ give. refl) at.call.answer moment (sym at.call.came ∙ was_so)).granted)
        (λ other was_so. was_not_granted moment_in asks.Finish (λ give. refl) at.call.answer other (sym at.call.came ∙ was_so)) (by_wire given result why came is);
    late = late_wire result why is;
    why = stopped_unanswered was (tried_finish ∷ []) result why
        (tried_finish, ([], refl), was_not_granted moment_in asks.Finish (λ give. refl) at.call.answer why (sym at.call.came ∙ came)) is;
    leads = λ c s account earlier has. (
      finish_left c s account earlier has,
      no_moment result (wire_stop why) (λ moment. (asks.Finish ∷ [] ≡ asks.Finish ∷ []) × HasCommitted c s account (asker was.envelopes.ids) earlier moment now) is,
    );
  }

  pub finishes_granted : (moment : ℤ) → given ≡ Ok moment → Finishes was now (Ok moment)
  finishes_granted moment is = record {
    tries = tried_finish ∷ [];
    asked = asked_one was now asks.Finish at.it moment_in given at.made at.envelopes at.call;
    few = finish_few;
    rows = (tt, tt);
    granted = ((was_granted moment_in asks.Finish (λ give. refl) at.call.answer moment (sym at.call.came ∙ is)).granted, tt);
    ends = tt;
    late = tt;
    why = tt;
    leads = λ c s account earlier has. (finish_left c s account earlier has, (refl, finish_committed c s account earlier has moment is));
  }
