-- A sync that ended as lost met three planned losses in a row: of the tries of one request.
use Rattle.std.specs.Prelude.{◌≡◌, ◌≤◌, ◌-◌, ◌^◌, ℕ, suc, ℤ, Bool, true, List, [], ◌∷◌, ◌++◌, length, Result, Ok, Err}
use Rattle.std.proofs.Common.{refl, sym, ap, subst, ◌∙◌, append_assoc, append-nil, arith}
use Rattle.ak_client.specs.Syncs.{meta_tried}
use Rattle.ak_client.specs.declared.outcomes.Outcome.TheVariants as outcomes
use Rattle.ak_client_wire.specs.Tries.{AreCallsOf, MadeCall, calls_of}
use Rattle.ak_client_wire.specs.Wires.{more}
use Rattle.ak_client_wire.specs.declared.asks.Unanswered.TheVariants as unanswered
use Rattle.ak_client_wire.specs.declared.wires.WireEnd.{WireEnd}
use Rattle.ak_client_wire.specs.declared.wires.WireEnd.TheVariants as ends
use Rattle.ak_exchange.specs.Asked.{TriedAsk, answers_in}
use Rattle.ak_exchange.specs.Grants.{EndsUnanswered}
use Rattle.ak_faults.specs.Causes.{one_more}
use Rattle.ak_lab.specs.LabStates.{LabState}
use Rattle.ak_lab.specs.LabSyncs.{EndsSync, server_met, with_fails}
use Rattle.ak_lab_devices.specs.declared.devices.Device.{Device}
use Rattle.ak_lab_joins.specs.LabMishaps.{EndsInLosses, LosesThree, lost_call}
use Rattle.ak_lab_wires.specs.CrossedSyncs.{CrossesAt, SyncsCrossed, crosses_nothing}
use Rattle.ak_lab_wires.specs.LabSessions.{ComeInCalls, IsSessionOver, sent_by}
use Rattle.ak_lab_wires.specs.Replaying.{ReplaysAt, replays_nothing}
use Rattle.ak_lab_wires.specs.Servings.{with_line}
use Rattle.ak_lab_wires.specs.declared.lab_sessions.SessionKind.TheVariants as kinds
use Rattle.ak_messages.specs.declared.replies.Reply.{Reply}
use Rattle.ak_messages.specs.declared.requests.Request.{Request}
use Rattle.ak_sync_in_memory.specs.Betweens.{ActEnd, Acting}
use Rattle.ak_sync_in_memory.specs.Entries.{LoggedState}
use Rattle.ak_sync_in_memory.specs.LoopWires.{FaresAfter}
use Rattle.ak_sync_in_memory.specs.Mishaps.{is_lost}
use Rattle.ak_sync_in_memory.specs.declared.mishaps.Mishap.{Mishap}

-- ---- the last three calls
-- these calls end with three of one request, which got no answer
record EndLost (calls : List MadeCall) : Type 0 where
  pub earlier : List MadeCall
  pub request : Request
  pub parts : calls ≡ earlier ++ lost_call request ∷ lost_call request ∷ lost_call request ∷ []

-- three tries of a request that got no answer
three : (tries : ℕ) (request : Request) → tries ≡ 3 → calls_of tries request (Err ends.Failed) ≡ lost_call request ∷ lost_call request ∷ lost_call request ∷ []
three tries request is = ap (λ (n : ℕ). calls_of n request (Err ends.Failed)) is

head_is : {A : Type 0} (a b : A) (xs ys : List A) → a ∷ xs ≡ b ∷ ys → a ≡ b
head_is {A} a b xs ys is = ap first is
  where
    first : List A → A
    first [] = a
    first (x ∷ l) = x

tail_is : {A : Type 0} (a b : A) (xs ys : List A) → a ∷ xs ≡ b ∷ ys → xs ≡ ys
tail_is {A} a b xs ys is = ap others is
  where
    others : List A → List A
    others [] = []
    others (x ∷ l) = l

-- nothing was asked after the last answer
none_later : (requests : List Request) (calls : List MadeCall) → AreCallsOf requests [] calls → calls ≡ []
none_later [] calls are = are
none_later (request ∷ requests) calls are = absurd are

-- what was answered last got no answer
last_lost : (requests : List Request) (answers : List (Result Reply WireEnd)) (calls : List MadeCall) (before : List (Result Reply WireEnd)) → answers ≡ before ++ Err ends.Failed ∷ []
    → AreCallsOf requests answers calls → EndLost calls
last_lost [] [] calls [] is are = absurd (grind (arith, is))
last_lost [] [] calls (one ∷ before) is are = absurd (grind (arith, is))
last_lost [] (answer ∷ answers) calls before is are = absurd are
last_lost (request ∷ requests) [] calls before is are = absurd are
last_lost (request ∷ requests) (answer ∷ []) calls [] is are =
    let failed : answer ≡ Err ends.Failed = head_is answer (Err ends.Failed) [] [] is in
    let times : are.0 ≡ 3 = are.2.third failed in
    record {
      earlier = [];
      request = request;
      parts = are.3 ∙ ap (λ (l : List MadeCall). calls_of are.0 request answer ++ l) (none_later requests are.1 are.4)
          ∙ append-nil (calls_of are.0 request answer) ∙ ap (calls_of are.0 request) failed ∙ three are.0 request times;
    }
last_lost (request ∷ requests) (answer ∷ next ∷ answers) calls [] is are = absurd (grind (arith, is))
last_lost (request ∷ requests) (answer ∷ answers) calls (one ∷ before) is are =
    let rest = last_lost requests answers are.1 before (tail_is answer one answers (before ++ Err ends.Failed ∷ []) is) are.4 in
    record {
      earlier = calls_of are.0 request answer ++ rest.earlier;
      request = rest.request;
      parts = are.3 ∙ ap (λ (l : List MadeCall). calls_of are.0 request answer ++ l) rest.parts
          ∙ sym (append_assoc (calls_of are.0 request answer) rest.earlier (lost_call rest.request ∷ lost_call rest.request ∷ lost_call rest.request ∷ []));
    }

-- ---- counts
-- the number of a call stays at the last `u64`
none_more : (number : ℕ) → number ≤ 2 ^ 64 - 1 → number ≡ more 0 number
none_more number small = grind (arith, small)

one_later : (times number : ℕ) → more times (one_more number) ≡ more (suc times) number
one_later times number = grind arith

stays_small : (number : ℕ) → one_more number ≤ 2 ^ 64 - 1
stays_small number = grind arith

-- ---- what they met
module _ {X : Type 0} (acts : Acting X) (idle : X → Bool) (mishaps : List Mishap) (at : ℤ) where
  -- a call that got no answer was to be lost
  was_lost : (came : ActEnd) (number : ℕ) (old new : LoggedState) (request : Request) → FaresAfter came number mishaps old new request at (Err ends.Failed)
      → is_lost number mishaps ≡ true
  was_lost (Ok done) number old new request fares = fares.0
  was_lost (Err end) number old new request fares = absurd (let is = fares.0 in grind (arith, is))

  three_lost : (earlier : List MadeCall) (request : Request) (number : ℕ) (x y : X) (a b : LoggedState) → number ≤ 2 ^ 64 - 1
      → ComeInCalls acts idle mishaps at number (earlier ++ lost_call request ∷ lost_call request ∷ lost_call request ∷ []) x y a b
      → LosesThree (more (length earlier) number) mishaps
  three_lost [] request number x y a b small come =
      let one = come.2 in
      let two = come.3.2 in
      let last = come.3.3.2 in
      subst (λ (n : ℕ). LosesThree n mishaps) (none_more number small) (record {
        first = was_lost one.came number one.met come.1 request one.fares;
        second = was_lost two.came (one_more number) two.met come.3.1 request two.fares;
        third = was_lost last.came (one_more (one_more number)) last.met come.3.3.1 request last.fares;
      })
  three_lost (it ∷ earlier) request number x y a b small come =
      subst (λ (n : ℕ). LosesThree n mishaps) (one_later (length earlier) number)
      (three_lost earlier request (one_more number) come.0 y come.1 b (stays_small number) come.3)

-- the answers, up to the last one that was tried
last_answer : (tries before : List TriedAsk) (it : TriedAsk) → tries ≡ before ++ it ∷ [] → answers_in tries ≡ answers_in before ++ it.answer ∷ []
last_answer tries before it is = ap answers_in is ∙ of_both before
  where
    of_both : (l : List TriedAsk) → answers_in (l ++ it ∷ []) ≡ answers_in l ++ it.answer ∷ []
    of_both [] = refl
    of_both (one ∷ l) = ap (λ (answers : List (Result Reply WireEnd)). one.answer ∷ answers) (of_both l)

-- ---- a sync
session_met_three : {X : Type 0} (acts : Acting X) (idle : X → Bool) (key : ℕ) (at : ℤ) (moments : List ℤ) (mishaps : List Mishap) (d made : Device) (was became : X)
    (old new : LoggedState) (ran : IsSessionOver acts idle kinds.Sync key at moments mishaps d made was became old new outcomes.Lost) → EndsInLosses ran.calls mishaps
session_met_three acts idle key at moments mishaps d made was became old new ran =
    let sync = ran.ended.ended.sync in
    -- the last that was tried, what was tried before it, and that it got no answer
    let why : EndsUnanswered (meta_tried sync.asked.meta ∷ sync.asked.tries) unanswered.Lost = sync.ends.why in
    let answers : List (Result Reply WireEnd) = sync.asked.meta ∷ answers_in sync.asked.tries in
    let is : answers ≡ answers_in why.1.0 ++ Err ends.Failed ∷ [] =
    last_answer (meta_tried sync.asked.meta ∷ sync.asked.tries) why.1.0 why.0 why.1.1
    ∙ ap (λ (answer : Result Reply WireEnd). answers_in why.1.0 ++ answer ∷ []) why.2 in
    let found = last_lost (sent_by ran.ids sync.asked.moment sync.asked.tries) answers ran.calls (answers_in why.1.0) is ran.asked in
    record {
      earlier = found.earlier;
      request = found.request;
      tries = found.parts;
      lost = three_lost acts idle mishaps at found.earlier found.request 0 was became old new none_called
          (subst (λ (calls : List MadeCall). ComeInCalls acts idle mishaps at 0 calls was became old new) found.parts ran.come);
    }
  where
    none_called : 0 ≤ 2 ^ 64 - 1
    none_called = grind arith

pub lost_met_three : (name : List ℕ) (s t : LabState) (crossed : List (List ℕ)) (ended : EndsSync name s t crossed outcomes.Lost)
    → EndsInLosses ended.runs.session.calls ended.runs.d.mishaps
lost_met_three name s t crossed ended =
    session_met_three CrossesAt crosses_nothing _ s.clock _ ended.runs.d.mishaps _ ended.runs.made ended.runs.was ended.runs.became (server_met kinds.Sync s)
    (with_fails ended.runs.fails_left t.server) ended.runs.session

pub crossed_met_three : (line key : ℕ) (at : ℤ) (moments : List ℤ) (d made : Device) (old new : LoggedState)
    → (sync : SyncsCrossed line key at moments d made old new outcomes.Lost) → EndsInLosses sync.session.calls d.mishaps
crossed_met_three line key at moments d made old new sync =
    session_met_three ReplaysAt replays_nothing key at moments d.mishaps _ made sync.replays sync.replays_left (with_line line old) sync.reached sync.session
