-- What the meta of a sync makes of the log, and what its reply tells.
use Rattle.std.specs.List.{AllByRecursion}
use Rattle.std.specs.Prelude.{◌≡◌, ◌==◌, ℕ, ℤ, Bool, true, false, if◌then◌else◌, List, [], ◌∷◌, Option, Some, None, Result, Ok, Err, IfOk, ok_or}
use Rattle.std.proofs.Common.{refl, sym, ap, subst, ◌∙◌, inl, inr, arith}
use Rattle.std.proofs.lemmas.Option.{none-some, same_Some}
use Rattle.ak_base.specs.declared.heads.Head.{Head}
use Rattle.ak_client.proofs.Clocks.{fault_ends, stop_ends, told_ends}
use Rattle.ak_client.proofs.Growing.{timely_growth}
use Rattle.ak_client.proofs.Testing.{clock_told, head_told}
use Rattle.ak_client.specs.Greetings.{EndsAtDevice, EndsGreeting, GreetsTold, IsGreeting, IsMetBy, IsMetOver, meta_of}
use Rattle.ak_client.specs.declared.outcomes.Outcome.{Outcome}
use Rattle.ak_client.specs.Syncs.{EndsAt, meta_tried}
use Rattle.ak_exchange.proofs.Stopping.{unanswered_stops, was_granted, was_not_granted}
use Rattle.ak_exchange.specs.Asked.{AreTried, TriedAsk, asker}
use Rattle.ak_exchange.specs.Grants.{AllGranted, IsGranted}
use Rattle.ak_exchange.specs.Stops.{wire_stop}
use Rattle.ak_exchange.specs.declared.envelopes.Ids.{Ids}
use Rattle.ak_faults.specs.Causes.{Health}
use Rattle.ak_keep.specs.Collections.{Collection}
use Rattle.ak_keep.specs.Keepers.{Keeping}
use Rattle.ak_merge.specs.Edits.{second_of}
use Rattle.ak_messages.specs.declared.replies.Give.TheVariants as gives
use Rattle.ak_messages.specs.declared.replies.Reply.{Reply}
use Rattle.ak_messages.specs.declared.requests.Ask.TheVariants as asks
use Rattle.ak_protocol.proofs.Calls.{metas_are_read}
use Rattle.ak_protocol.proofs.Syncs.{metas_leave_unused}
use Rattle.ak_protocol.specs.Accounts.{AccountState}
use Rattle.ak_protocol.specs.Logs.{Event, Asked, Log, Grows, IsTimely, with_growth}
use Rattle.ak_protocol.specs.Replies.{granted, meta_reply}
use Rattle.ak_protocol.specs.Syncs.{IsUnderWay, IsUnused}
use Rattle.ak_client_wire.specs.Forms.{is_meta_in_range, meta_in, meta_told}
use Rattle.ak_client_wire.specs.Tries.{Answered, granted_by, granted_in, in_form}
use Rattle.ak_client_wire.specs.Wires.{WireKind, WireState, Carries}
use Rattle.ak_client_wire.specs.declared.asks.Unanswered.{Unanswered}
use Rattle.ak_client_wire.specs.declared.asks.Unanswered.TheVariants as unanswered
use Rattle.ak_client_wire.specs.declared.wires.MetaSaid.{MetaSaid}
use Rattle.ak_client_wire.specs.declared.wires.WireEnd.{WireEnd}
use Rattle.ak_client_wire.specs.declared.wires.WireEnd.TheVariants as ends

is_200 : (status : ℕ) → (status == 200) ≡ true → status ≡ 200
is_200 status is = grind (arith, is)

told_by : (b : Bool) (x y : MetaSaid) → (if b then Some x else None) ≡ Some y → x ≡ y
told_by true x y is = same_Some x y is
told_by false x y is = absurd (none-some y is)

-- a meta in its form says what the head tells
met_by : (s : Collection) (now : ℤ) (met : MetaSaid) → meta_in (gives.Meta (meta_reply s.head now)) ≡ Some met → IsMetBy met s
met_by s now met is =
    let one : meta_told (meta_reply s.head now) ≡ met = told_by (is_meta_in_range (meta_reply s.head now)) (meta_told (meta_reply s.head now)) met is in
    record {
      moment = sym (ap (λ (m : MetaSaid). m.moment) one);
      schema = sym (ap (λ (m : MetaSaid). m.scm) one);
      usn = sym (ap (λ (m : MetaSaid). m.usn) one);
    }

module _ (ids : Ids) (account : AccountState) (old : Log) (unused : IsUnused ids.host.digits ids.session.0 account old) where
  abbrev pub IsMetBySome : Log → MetaSaid → Type 0
  IsMetBySome new met = (s : Collection) × IsMetOver (asker ids) account old new s × IsMetBy met s

  still_unused : (new : Log) (answer : Result Reply WireEnd) → Grows old new (meta_of ids) answer → IsUnused ids.host.digits ids.session.0 account new
  still_unused new answer grows =
      subst (λ (log : Log). IsUnused ids.host.digits ids.session.0 account log) (sym grows.grown)
      (metas_leave_unused (meta_of ids) account old grows.growth grows.may unused refl)

  opened : (new : Log) (reply : Reply) → Grows {E = WireEnd} old new (meta_of ids) (Ok reply) → reply.status ≡ 200
      → (s : Collection) × IsMetOver (asker ids) account old new s × ((now : ℤ) × (reply ≡ granted (gives.Meta (meta_reply s.head now))))
  opened new reply grows ok =
      let read = metas_are_read (meta_of ids) account old grows.growth grows.may reply grows.reply unused.opening unused refl ok in
      let place = Asked (meta_of ids) grows.reply.now grows.reply.setback in (
        read.0.base,
        record {
          front = grows.reply.before;
          rest = place ∷ grows.reply.after;
          grown = grows.grown ∙ ap (λ (events : List Event). with_growth old events) (sym grows.reply.place);
          timely = subst (AllByRecursion IsTimely) (sym grows.reply.place) (timely_growth old.events (meta_of ids) grows.growth grows.may);
          place = sym read.1;
          under_way = subst (λ (log : Log). IsUnderWay ids.host.digits ids.session.0 [] read.0.base account log) (sym grows.grown) read.0.under_way;
        },
        (read.0.now, read.0.told),
      )

  met_of : (new : Log) (reply : Reply) → Grows {E = WireEnd} old new (meta_of ids) (Ok reply) → IfOk (in_form meta_in (granted_by reply)) (IsMetBySome new)
  met_of new reply grows = by (reply.status == 200) refl
    where
      given : (o : Option MetaSaid) → meta_in reply.give ≡ o → reply.status ≡ 200 → IfOk (ok_or o unanswered.BadReply) (IsMetBySome new)
      given None is ok = tt
      given (Some met) is ok =
          let it = opened new reply grows ok in
          (it.0, it.1, met_by it.0 it.2.0 met (ap (λ (r : Reply). meta_in r.give) (sym it.2.1) ∙ is))

      by : (b : Bool) → (reply.status == 200) ≡ b
          → IfOk (in_form meta_in (if b then Ok reply.give else Err (unanswered.Refused reply.status reply.word reply.seen))) (IsMetBySome new)
      by false is = tt
      by true is = given (meta_in reply.give) refl (is_200 reply.status is)

  answered : (new : Log) (answer : Result Reply WireEnd) → Grows old new (meta_of ids) answer
      → IfOk (in_form meta_in (granted_in answer)) (IsMetBySome new)
  answered new (Ok reply) grows = met_of new reply grows
  answered new (Err ends.Failed) grows = tt
  answered new (Err ends.BadReply) grows = tt
  answered new (Err ends.Memory) grows = tt

  -- the meta of a sync whose key is unused: it stays so, and a granted reply tells what was committed at its place
  pub greeted : {kind : WireKind} (before now : Health) (was is : WireState kind) (result : Result MetaSaid Unanswered) → was.log ≡ Some old
      → Answered before now was is (meta_of ids) meta_in result
      → (new : Log) × (is.log ≡ Some new) × IsUnused ids.host.digits ids.session.0 account new × IfOk result (IsMetBySome new)
  greeted before now was is result told call =
      let grown : (new : Log) × (is.log ≡ Some new) × Grows old new (meta_of ids) call.answer =
      subst (λ (o : Option Log). Carries o is.log (meta_of ids) call.answer) told call.tried.carries in (
        grown.0,
        grown.1,
        still_unused grown.0 call.answer grown.2,
        subst (λ (r : Result MetaSaid Unanswered). IfOk r (IsMetBySome grown.0)) (sym call.came) (answered grown.0 call.answer grown.2),
      )

-- ---- what a greeting knows
-- a meta was asked, and nothing else
pub asked_meta : {kind : WireKind} (ids : Ids) (before now : Health) (was is : WireState kind) (result : Result MetaSaid Unanswered)
    → (call : Answered before now was is (meta_of ids) meta_in result) → AreTried (meta_of ids ∷ []) (call.answer ∷ []) before now was is
asked_meta ids before now was is result call = (now, is, call.tried, (refl, refl))

-- a meta that was granted, and what was not
pub meta_granted : {kind : WireKind} (ids : Ids) (before now : Health) (was is : WireState kind) (result : Result MetaSaid Unanswered) (meta : MetaSaid)
    → (call : Answered before now was is (meta_of ids) meta_in result) → result ≡ Ok meta → IsGranted (meta_tried call.answer)
meta_granted ids before now was is result meta call granted =
    (was_granted meta_in asks.Meta (λ give. refl) call.answer meta (sym call.came ∙ granted)).granted

-- why a greeting ends, by its meta
device_ends : {kind : WireKind} (tries : List TriedAsk) (now : WireState kind) (meta : MetaSaid) (keeping : Keeping) (outcome : Outcome) → AllGranted tries
    → EndsAtDevice meta keeping outcome → EndsAt tries now outcome
device_ends tries now meta keeping outcome all (inl (fault, is)) = subst (EndsAt tries now) (sym is) (fault_ends tries now fault all)
device_ends tries now meta keeping outcome all (inr (head, unchanged, found, inl is)) = told_ends tries now outcome (head_told meta head unchanged outcome is)
device_ends tries now meta keeping outcome all (inr (head, unchanged, found, inr (pass, unsound))) = subst (EndsAt tries now) (sym unsound.1) tt

pub greeting_ends : {kind : WireKind} (ids : Ids) (h0 h1 : Health) (w0 w1 : WireState kind) (old new : Option (List ℤ)) (keeping : Keeping) (outcome : Outcome)
    → (it : IsGreeting ids h0 h1 w0 w1 old new keeping (Err outcome)) → EndsAt (meta_tried it.heard.answer ∷ []) w1 outcome
greeting_ends ids h0 h1 w0 w1 old new keeping outcome it = by it.answer refl it.ends
  where
    by : (answer : Result MetaSaid Unanswered) → it.answer ≡ answer → EndsGreeting answer old new keeping outcome → EndsAt (meta_tried it.heard.answer ∷ []) w1 outcome
    by (Err why) is ends =
        subst (EndsAt (meta_tried it.heard.answer ∷ []) w1) (sym ends)
        (stop_ends (meta_tried it.heard.answer ∷ []) w1 (wire_stop why) (unanswered_stops (meta_tried it.heard.answer ∷ []) w1 (meta_tried it.heard.answer) why ([], refl)
        (was_not_granted meta_in asks.Meta (λ give. refl) it.heard.answer why (sym it.heard.came ∙ is))))
    by (Ok meta) is (at, given, inl stopped) = told_ends (meta_tried it.heard.answer ∷ []) w1 outcome (clock_told meta (second_of at) outcome stopped)
    by (Ok meta) is (at, given, inr (pass, ends)) =
        device_ends (meta_tried it.heard.answer ∷ []) w1 meta keeping outcome (meta_granted ids h0 h1 w0 w1 it.answer meta it.heard is, tt) ends

-- a greeting that stops
pub greets_stop : {kind : WireKind} (ids : Ids) (before now : Health) (was is : WireState kind) (result : Result MetaSaid Unanswered) (outcome : Outcome)
    → Answered before now was is (meta_of ids) meta_in result → GreetsTold ids was.log is.log (Err outcome)
greets_stop ids before now was is result outcome call account old told unused =
    let it = greeted ids account old unused before now was is result told call in
    (it.0, it.1, record { unused = it.2; met = tt })

-- a greeting after which the sync may go on
pub greets_on : {kind : WireKind} (ids : Ids) (before now : Health) (was is : WireState kind) (meta : MetaSaid) (head : Head)
    → Answered before now was is (meta_of ids) meta_in (Ok meta) → GreetsTold ids was.log is.log (Ok (record { meta = meta; head = head }))
greets_on ids before now was is meta head call account old told unused =
    let it = greeted ids account old unused before now was is (Ok meta) told call in
    (it.0, it.1, record { unused = it.2; met = it.3 })
