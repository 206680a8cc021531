-- Requests that come one after the other, each once or several times in a row.
use Rattle.std.specs.List.{AllByRecursion}
use Rattle.std.specs.Prelude.{◌≡◌, ℤ, if◌then◌else◌, Bool, true, false, List, [], ◌∷◌, ◌++◌, Some, ◌⊎◌}
use Rattle.std.proofs.Common.{inl, inr, refl, sym, ap, subst, ◌∙◌, append_assoc}
use Rattle.std.proofs.lemmas.List.{append-nil}
use Rattle.ak_messages.specs.declared.requests.Request.{Request}
use Rattle.ak_session.specs.Contents.{ends}
use Rattle.ak_session.specs.Requests.{is_meta}
use Rattle.ak_protocol.specs.Accounts.{SessionState, AccountState, repeated}
use Rattle.ak_protocol.specs.Kept.{HasPastReply}
use Rattle.ak_protocol.specs.Lawful.{IsNext, IsAccepted, AreAccepted}
use Rattle.ak_protocol.specs.Logs.{Event, View, Asked, World, IsAgain, world_served, world_next, world_after}
use Rattle.ak_protocol.specs.Serving.{Setback, Undisturbed, Served, begun, by_repeat, finished, ended, went_on, served}
use Rattle.ak_protocol.specs.Sessions.{AreUndisturbed, HasAcceptedMore}
use Rattle.ak_protocol.proofs.Kept.{reaches}
use Rattle.ak_protocol.proofs.PastReplies.{past_served, next_is_no_repeat}
use Rattle.ak_protocol.proofs.Repeats.{asked_again}

-- ---- undisturbed requests
-- a request that a session accepts and goes on after, where it is next
one_more : (s : AccountState) (session : SessionState) (request : Request) (now : ℤ) → HasPastReply s → s.live ≡ Some session → IsAccepted session.key s.committed session.accepted request
    → served s request now Undisturbed ≡ went_on s session request
one_more s session request now past live one =
    let next : IsNext s session request = record {
      live = live;
      key = sym one.own;
      step = one.step;
      base = one.base;
      later = one.later;
      in_range = one.in_range;
      allowed = one.allowed;
    } in
    reaches s session request now next (next_is_no_repeat s session request past next)
    ∙ ap (λ (b : Bool). if b then finished s session request now else if ends s.committed session.accepted request then ended s session request else went_on s session request) one.stays
    ∙ ap (λ (b : Bool). if b then ended s session request else went_on s session request) one.goes_on

abbrev more_of : SessionState → List Request → SessionState
more_of session requests = record session { accepted = session.accepted ++ requests }

-- these requests came one after the other, each once
abbrev pub AreSingle : List Request → List Event → Type 0
AreSingle [] events = events ≡ []
AreSingle (request ∷ requests) [] = ⊥
AreSingle (request ∷ requests) (View host ∷ events) = ⊥
AreSingle (request ∷ requests) (Asked other now setback ∷ events) = (other ≡ request) × (setback ≡ Undisturbed) × AreSingle requests events

pub single_requests_go_on : (w : World) (session : SessionState) (requests : List Request) (events : List Event) → HasPastReply w.state → w.state.live ≡ Some session
    → AreAccepted session.key w.state.committed (session.accepted ++ requests) → AreSingle requests events → HasAcceptedMore session requests w (world_after w events)
single_requests_go_on w session [] events past live all quiet =
    subst (λ (l : List Event). HasAcceptedMore session [] w (world_after w l)) (sym quiet)
    (record { live = live ∙ ap (λ (l : List Request). Some (record session { accepted = l })) (sym (append-nil session.accepted)); committed = refl; commits = refl })
single_requests_go_on w session (request ∷ requests) [] past live all quiet = absurd quiet
single_requests_go_on w session (request ∷ requests) (View host ∷ events) past live all quiet = absurd quiet
single_requests_go_on w session (request ∷ requests) (Asked other now setback ∷ events) past live all quiet =
    let assoc = append_assoc session.accepted (request ∷ []) requests in
    let one = all session.accepted request requests refl in
    let it : served w.state other now setback ≡ went_on w.state session request =
    ap (λ (r : Request). served w.state r now setback) quiet.0
    ∙ ap (λ (b : Setback). served w.state request now b) quiet.1
    ∙ one_more w.state session request now past live one in
    let middle : World = record { state = (went_on w.state session request).next; commits = w.commits } in
    let longer = more_of session (request ∷ []) in
    let is : world_after (world_next w (Asked other now setback)) events ≡ world_after middle events =
    ap (λ (i : Served). world_after (world_served w other i) events) it in
    let past_then : HasPastReply (went_on w.state session request).next =
    subst (λ (i : Served). HasPastReply i.next) (one_more w.state session request now past live one) (past_served w.state request now past Undisturbed) in
    let rest = single_requests_go_on middle longer requests events past_then refl
    (subst (AreAccepted session.key w.state.committed) (sym assoc) all) quiet.2 in
    record {
      live = ap (λ (v : World). v.state.live) is ∙ rest.live ∙ ap (λ (l : List Request). Some (record session { accepted = l })) assoc;
      committed = ap (λ (v : World). v.state.committed) is ∙ rest.committed;
      commits = ap (λ (v : World). v.commits) is ∙ rest.commits;
    }

-- the last of requests that came once each came last
pub last_single : (front : List Request) (last : Request) (events : List Event) → AreSingle (front ++ last ∷ []) events
    → (early : List Event) × (now : ℤ) × (early ++ Asked last now Undisturbed ∷ [] ≡ events) × AreSingle front early
last_single [] last [] quiet = absurd quiet
last_single [] last (View host ∷ events) quiet = absurd quiet
last_single [] last (Asked other now setback ∷ events) quiet = (
  [],
  now,
  ap (λ (l : List Event). Asked last now Undisturbed ∷ l) (sym quiet.2)
      ∙ ap (λ (r : Request). Asked r now Undisturbed ∷ events) (sym quiet.0)
      ∙ ap (λ (b : Setback). Asked other now b ∷ events) (sym quiet.1),
  refl,
)
last_single (request ∷ front) last [] quiet = absurd quiet
last_single (request ∷ front) last (View host ∷ events) quiet = absurd quiet
last_single (request ∷ front) last (Asked other now setback ∷ events) quiet =
    let rest = last_single front last events quiet.2 in
    (Asked other now setback ∷ rest.0, rest.1, ap (λ (l : List Event). Asked other now setback ∷ l) rest.2, (quiet.0, quiet.1, rest.3))

-- ---- repeats in a row
same_again : (w : World) (request : Request) (now again : ℤ) → let once = world_next w (Asked request now Undisturbed) in world_next once (Asked request again Undisturbed) ≡ once
same_again w request now again = by_meta (is_meta request.ask) refl
  where
    by_meta : (b : Bool) → is_meta request.ask ≡ b → (let once = world_next w (Asked request now Undisturbed) in world_next once (Asked request again Undisturbed) ≡ once)
    by_meta true e =
        let met : World = record { state = (begun w.state request now).next; commits = w.commits } in
        let first : world_next w (Asked request now Undisturbed) ≡ met =
        ap (λ (b : Bool). world_served w request (if b then begun w.state request now else by_repeat (repeated w.state.kept request) w.state request now)) e in
        let second : world_next met (Asked request again Undisturbed) ≡ met =
        ap (λ (b : Bool). world_served met request (if b then begun met.state request again else by_repeat (repeated met.state.kept request) met.state request again)) e in
        ap (λ (v : World). world_next v (Asked request again Undisturbed)) first ∙ second ∙ sym first
    by_meta false e =
        let once = world_next w (Asked request now Undisturbed) in
        ap (λ (it : Served). world_served once request it) (asked_again w.state request now again e)

pub world_again : (w : World) (request : Request) (now : ℤ) (more : List Event) → AllByRecursion (IsAgain request) more
    → let once = world_next w (Asked request now Undisturbed) in world_after once more ≡ once
world_again w request now [] all = refl
world_again w request now (View host ∷ more) all = absurd all.0
world_again w request now (Asked other again setback ∷ more) all =
    let once = world_next w (Asked request now Undisturbed) in
    ap (λ (v : World). world_after v more) (one_again once request other again setback all.0 (same_again w request now again)) ∙ world_again w request now more all.1
  where
    one_again : (once : World) (request other : Request) (again : ℤ) (setback : Setback) → IsAgain request (Asked other again setback)
        → world_next once (Asked request again Undisturbed) ≡ once → world_next once (Asked other again setback) ≡ once
    one_again once request other again setback is same = ap (λ (r : Request). world_next once (Asked r again setback)) is.0 ∙ ap (λ (b : Setback). world_next once (Asked request again b)) is.1 ∙ same

pub reply_again : (w : World) (request : Request) (now again : ℤ) (more : List Event) → is_meta request.ask ≡ false → AllByRecursion (IsAgain request) more
    → let once = world_next w (Asked request now Undisturbed) in
    (served (world_after once more).state request again Undisturbed).reply ≡ (served w.state request now Undisturbed).reply
reply_again w request now again more later all =
    ap (λ (v : World). (served v.state request again Undisturbed).reply) (world_again w request now more all) ∙ ap (λ (it : Served). it.reply) (asked_again w.state request now again later)

-- undisturbed requests leave what they leave if each comes once
abbrev pub LeavesOnce : World → List Request → List Event → Type 0
LeavesOnce w requests events = (single : List Event) × AreSingle requests single × (world_after w events ≡ world_after w single)

once_more : (w : World) (request : Request) (now : ℤ) (requests : List Request) (events : List Event) → AreUndisturbed requests events ⊎ AreUndisturbed (request ∷ requests) events
    → LeavesOnce (world_next w (Asked request now Undisturbed)) requests events
once_more w request now [] [] (inl quiet) = ([], refl, refl)
once_more w request now [] (event ∷ events) (inl quiet) = absurd quiet
once_more w request now (next ∷ requests) [] (inl quiet) = absurd quiet
once_more w request now (next ∷ requests) (View host ∷ events) (inl quiet) = absurd quiet
once_more w request now (next ∷ requests) (Asked other again setback ∷ events) (inl quiet) =
    let once = world_next w (Asked request now Undisturbed) in
    let rest = once_more once next again requests events quiet.1 in (
      Asked next again Undisturbed ∷ rest.0,
      (refl, refl, rest.1),
      ap (λ (r : Request). world_after (world_next once (Asked r again setback)) events) quiet.0.0
          ∙ ap (λ (b : Setback). world_after (world_next once (Asked next again b)) events) quiet.0.1 ∙ rest.2,
    )
once_more w request now requests [] (inr quiet) = absurd quiet
once_more w request now requests (View host ∷ events) (inr quiet) = absurd quiet
once_more w request now requests (Asked other again setback ∷ events) (inr quiet) =
    let once = world_next w (Asked request now Undisturbed) in
    let rest = once_more w request now requests events quiet.1 in (
      rest.0,
      rest.1,
      ap (λ (r : Request). world_after (world_next once (Asked r again setback)) events) quiet.0.0
          ∙ ap (λ (b : Setback). world_after (world_next once (Asked request again b)) events) quiet.0.1
          ∙ ap (λ (v : World). world_after v events) (same_again w request now again) ∙ rest.2,
    )

pub each_once : (w : World) (requests : List Request) (events : List Event) → AreUndisturbed requests events → LeavesOnce w requests events
each_once w [] [] quiet = ([], refl, refl)
each_once w [] (event ∷ events) quiet = absurd quiet
each_once w (request ∷ requests) [] quiet = absurd quiet
each_once w (request ∷ requests) (View host ∷ events) quiet = absurd quiet
each_once w (request ∷ requests) (Asked other now setback ∷ events) quiet =
    let rest = once_more w request now requests events quiet.1 in (
      Asked request now Undisturbed ∷ rest.0,
      (refl, refl, rest.1),
      ap (λ (r : Request). world_after (world_next w (Asked r now setback)) events) quiet.0.0
          ∙ ap (λ (b : Setback). world_after (world_next w (Asked request now b)) events) quiet.0.1 ∙ rest.2,
    )

pub undisturbed_sessions_go_on : (w : World) (session : SessionState) (requests : List Request) (events : List Event) → HasPastReply w.state → w.state.live ≡ Some session
    → AreAccepted session.key w.state.committed (session.accepted ++ requests) → AreUndisturbed requests events → HasAcceptedMore session requests w (world_after w events)
undisturbed_sessions_go_on w session requests events past live all quiet =
    let once = each_once w requests events quiet in
    subst (HasAcceptedMore session requests w) (sym once.2) (single_requests_go_on w session requests once.0 past live all once.1)
