-- Lines that plan something for the next sync of a device, and requests that are sent again.
use Rattle.std.specs.Prelude.{nat_lt}
use Rattle.std.proofs.Common.{◌≡◌, ◌<◌, ◌≤◌, ◌+◌, ◌-◌, ◌^◌, ◌++◌, ℕ, zero, suc, ℤ, min, true, false, List, [], ◌∷◌, length, drop, take, map, Some, Result, Ok, Err, OnErr, OnOk, get_or, refl, sym, ap, subst, ◌∙◌, inl, inr, arith, append_assoc, append-nil}
use Rattle.ak_base.specs.declared.errors.Memory.{Memory}
use Rattle.ak_lab.proofs.Desks.{put_at, put_there}
use Rattle.ak_io.specs.Arrivals.{IsClockMoment}
use Rattle.ak_lab.specs.LabPlans.{AnswersEach, AnswersOne, Plans, with_act}
use Rattle.ak_lab.specs.LabStates.{IsReady, LabState}
use Rattle.ak_lab.specs.LabStops.{LacksStop}
use Rattle.ak_lab.specs.LineStops.{CameOut}
use Rattle.ak_lab_devices.proofs.Placing.{read_there}
use Rattle.ak_lab_devices.specs.Devices.{IsPlaceOf, device_of}
use Rattle.ak_lab_devices.specs.declared.devices.Device.{Device}
use Rattle.ak_lab_devices.specs.declared.plans.Act.{Act}
use Rattle.ak_lab_lines.specs.LabTexts.{no_request_text, reply_text}
use Rattle.ak_lab_lines.specs.Written.{IsLabNumber}
use Rattle.ak_lab_lines.specs.declared.lab_lines.LabLine.TheVariants as lines
use Rattle.ak_lab_wires.proofs.Kept.{all_served_calm}
use Rattle.ak_lab_wires.proofs.Named.{from_place}
use Rattle.ak_lab_wires.proofs.Serving.{served_short}
use Rattle.ak_lab_wires.specs.Servings.{AreServed, HasRequests, ServesFront, named_from, requests_in}
use Rattle.ak_line_runs.specs.LineStops.{IsStopBy}
use Rattle.ak_line_runs.specs.declared.line_stops.LineStop.{LineStop}
use Rattle.ak_line_runs.specs.declared.line_stops.LineStop.TheVariants as stops
use Rattle.ak_sync_in_memory.specs.Betweens.{ActEnd}
use Rattle.ak_sync_in_memory.specs.Entries.{LoggedState}
use Rattle.ak_sync_in_memory.specs.LoggedServers.{IsServed}
use Rattle.ak_messages.specs.declared.replies.Reply.{Reply}
use Rattle.ak_messages.specs.declared.requests.Request.{Request}

-- what is planned for the device at a place is planned for that of its name
pub plans_there : (name : List ℕ) (change : Device → Device) (s : LabState) (place : ℕ) (d made : Device) → IsPlaceOf name s.devices place → d ≡ get_or s.devices place d
    → (change d).name ≡ d.name → made ≡ change d → Plans name change s (put_at place made s)
plans_there name change s place d made is read same change_is =
    let there = read_there name s.devices place d is read in
    record {
      d = d;
      found = there.1;
      left = ap (λ (x : Device). put_at place x s) change_is ∙ put_there name s place d (change d) is read same;
    }

-- ---- requests that are sent again
-- a line that names one that the log lacks
pub lacking_stopped : (from count : ℕ) (s : LabState) (stop : LineStop) → LacksStop from count s.server stop → CameOut (lines.Resend from count) s s (Err stop)
lacking_stopped from count s (stops.Refused why) lacks = (refl, lacks.0, lacks.1)
lacking_stopped from count s stops.Failed lacks = absurd lacks
lacking_stopped from count s stops.Memory lacks = inl refl

pub replay_lacking : (name : List ℕ) (call from count : ℕ) (s : LabState) (d : Device) (stop : LineStop) → device_of name s.devices ≡ Some d
    → LacksStop from count s.server stop → CameOut (lines.Replay name call from count) s s (Err stop)
replay_lacking name call from count s d (stops.Refused why) found lacks = inr (d, found, (refl, lacks.0, lacks.1))
replay_lacking name call from count s d stops.Failed found lacks = absurd lacks
replay_lacking name call from count s d stops.Memory found lacks = refl

-- the named requests were served and each answer is told
pub resent : (from count : ℕ) (s t : LabState) (requests : List Request) (printed : List (List ℕ)) → IsClockMoment s.clock → HasRequests from count s.server
    → requests ≡ named_from from count (requests_in s.server.entries) → t ≡ (let x : LabState = record s { server = t.server } in x)
    → (replies : List Reply) × AreServed requests s.clock s.server t.server replies × (printed ≡ map reply_text replies)
    → CameOut (lines.Resend from count) s t (Ok printed)
resent from count s t requests printed clock has named left (replies, serves, told) = record {
  clock = clock;
  has = has;
  replies = replies;
  serves = subst (λ (l : List Request). AreServed l s.clock s.server t.server replies) named serves;
  left = left;
  told = told;
}

-- memory ran out before the last one, or for an answer
pub resent_short : (from count : ℕ) (s t : LabState) (requests : List Request) → IsClockMoment s.clock → HasRequests from count s.server
    → requests ≡ named_from from count (requests_in s.server.entries) → t ≡ (let x : LabState = record s { server = t.server } in x)
    → (came : ActEnd) × ServesFront requests s.clock s.server t.server came → CameOut (lines.Resend from count) s t (Err stops.Memory)
resent_short from count s t requests clock has named left (came, front) = inr (record {
  clock = clock;
  has = has;
  came = came;
  serves = subst (λ (l : List Request). ServesFront l s.clock s.server t.server came) named front;
  left = left;
})

-- ---- one after the other
-- these were answered so far, and what the others come to comes to all
pub record AnswersSoFar (requests left : List Request) (at : ℤ) (old now : LoggedState) (printed : List (List ℕ)) : Type 0 where
  pub ok : (new : LoggedState) (replies : List Reply) → AreServed left at now new replies
      → (all : List Reply) × AreServed requests at old new all × (map reply_text all ≡ printed ++ map reply_text replies)
  pub short : (new : LoggedState) (came : ActEnd) → ServesFront left at now new came → ServesFront requests at old new came

pub none_answered : (requests : List Request) (at : ℤ) (s : LoggedState) (printed : List (List ℕ)) → printed ≡ [] → AnswersSoFar requests requests at s s printed
none_answered requests at s printed none = record {
  ok = λ new replies serves. (replies, serves, ap (λ l. l ++ map reply_text replies) (sym none));
  short = λ new came front. front;
}

-- one more was answered
pub one_answered : (requests : List Request) (place : ℕ) (request : Request) (at : ℤ) (old now mid : LoggedState) (printed more : List (List ℕ)) → place < length requests
    → request ≡ get_or requests place request → AnswersSoFar requests (drop place requests) at old now printed → AnswersOne request at now mid printed more
    → AnswersSoFar requests (drop (place + 1) requests) at old mid more
one_answered requests place request at old now mid printed more within is so_far one =
    let here : drop place requests ≡ request ∷ drop (place + 1) requests = from_place requests place request within is in
    record {
      ok = λ new replies serves.
          let all = so_far.ok new (one.reply ∷ replies) (subst (λ (l : List Request). AreServed l at now new (one.reply ∷ replies)) (sym here) (mid, one.served, serves)) in
          (all.0, all.1, all.2 ∙ sym (append_assoc printed (reply_text one.reply ∷ []) (map reply_text replies)) ∙ ap (λ l. l ++ map reply_text replies) (sym one.told));
      short = λ new came front. so_far.short new came (subst (λ (l : List Request). ServesFront l at now new came) (sym here) (record {
        served = request ∷ front.served;
        left = front.left;
        parts = ap (λ (l : List Request). request ∷ l) front.parts;
        replies = one.reply ∷ front.replies;
        serves = (mid, one.served, front.serves);
        whole = front.whole;
      }));
    }

-- all were
pub all_answered : (requests left : List Request) (at : ℤ) (old now : LoggedState) (printed : List (List ℕ)) → left ≡ [] → AnswersSoFar requests left at old now printed
    → AnswersEach requests at old now (Ok printed)
all_answered requests left at old now printed none so_far =
    let all = so_far.ok now [] (subst (λ (l : List Request). AreServed l at now now []) (sym none) (refl, refl)) in
    (all.0, all.1, sym (append-nil printed) ∙ sym all.2)

-- memory ran out in the next
pub answered_short : (requests : List Request) (place : ℕ) (request : Request) (at : ℤ) (old now new : LoggedState) (printed : List (List ℕ)) (end : Memory) → place < length requests
    → request ≡ get_or requests place request → AnswersSoFar requests (drop place requests) at old now printed → (came : ActEnd) × ServesFront (request ∷ []) at now new came
    → AnswersEach requests at old new (Err end)
answered_short requests place request at old now new printed end within is so_far (came, front) = (
  Err end,
  so_far.short new (Err end) (subst (λ (l : List Request). ServesFront l at now new (Err end)) (sym (from_place requests place request within is)) (record {
    served = front.served;
    left = front.left ++ drop (place + 1) requests;
    parts = ap (λ (l : List Request). l ++ drop (place + 1) requests) front.parts ∙ append_assoc front.served front.left (drop (place + 1) requests);
    replies = front.replies;
    serves = front.serves;
    whole = λ is. absurd (grind (arith, is));
  })),
)

-- ---- one alone
pub one_told : (request : Request) (at : ℤ) (old new : LoggedState) (before after : List (List ℕ)) (reply : Reply) (result : Result (Unit {0}) Memory) → IsServed old new request at reply
    → OnOk result (after ≡ before ++ reply_text reply ∷ []) → OnOk result (AnswersOne request at old new before after)
one_told request at old new before after reply (Ok done) served told = record { reply = reply; served = served; told = told }
one_told request at old new before after reply (Err end) served told = tt

front_of_one : (request : Request) (at : ℤ) (old new : LoggedState) (reply : Reply) → IsServed old new request at reply → ServesFront (request ∷ []) at old new (Ok tt)
front_of_one request at old new reply served = record {
  served = request ∷ [];
  left = [];
  parts = refl;
  replies = reply ∷ [];
  serves = (new, served, (refl, refl));
  whole = λ is. refl;
}

pub one_served : (request : Request) (at : ℤ) (old new : LoggedState) (reply : Reply) (result : Result (Unit {0}) Memory) → IsServed old new request at reply
    → OnErr result ((came : ActEnd) × ServesFront (request ∷ []) at old new came)
one_served request at old new reply (Ok done) served = tt
one_served request at old new reply (Err end) served = (Ok tt, front_of_one request at old new reply served)

pub one_unserved : (request : Request) (at : ℤ) (old new : LoggedState) (end : Memory) → new ≡ old → (came : ActEnd) × ServesFront (request ∷ []) at old new came
one_unserved request at old new end same = (Err end, served_short (request ∷ []) 0 at old new end same)

-- ---- a log that has the requests, or lacks one
module _ (from count : ℕ) (server : LoggedState) (requests : List Request) (found : ℕ)
    (named : requests ≡ named_from from count (requests_in server.entries)) (counted : found ≡ length requests) where
  pub has_requests : (found < count → ⊥) → length requests ≤ count → HasRequests from count server
  has_requests enough most = sym (ap length named) ∙ sym counted ∙ no_fewer found count (subst (λ (n : ℕ). n ≤ count) (sym counted) most) enough
    where
      no_fewer : (a b : ℕ) → a ≤ b → (a < b → ⊥) → a ≡ b
      no_fewer a b most enough =
          elim (nat_lt a b) as (λ t. nat_lt a b ≡ t → a ≡ b) [
            | true ↦ λ e. absurd (enough (grind (arith, e)))
            | false ↦ λ e. grind (arith, e, most)
          ] refl

  pub lacks_request : (number : ℕ) (stop : LineStop) → found < count → number ≡ from + found → IsStopBy (no_request_text number) stop → LacksStop from count server stop
  lacks_request number (stops.Refused why) few is told = (
    (λ has. absurd (fewer (length requests) count (subst (λ (n : ℕ). n < count) counted few) (ap length named ∙ has))),
    told ∙ ap no_request_text (is ∙ ap (λ (n : ℕ). from + n) (counted ∙ ap length named)),
  )
    where
      fewer : (a b : ℕ) → a < b → a ≡ b → ⊥
      fewer a b few same = omega (arith, few, same)
  lacks_request number stops.Failed few is told = absurd told
  lacks_request number stops.Memory few is told = tt

-- no more are taken than are named
pub most_taken : (from count : ℕ) (all requests : List Request) → requests ≡ named_from from count all → length requests ≤ count
most_taken from count all requests is = subst (λ (l : List Request). length l ≤ count) (sym is) (taken count (drop from all))
  where
    taken : (count : ℕ) (l : List Request) → length (take count l) ≤ count
    taken zero [] = omega arith
    taken zero (request ∷ l) = omega arith
    taken (suc count) [] = omega arith
    taken (suc count) (request ∷ l) = let below : length (take count l) ≤ count = taken count l in omega (arith, below)

-- the number of the first request that is lacking is far below the last `u64`
pub saturated : (from found count sum : ℕ) → sum ≡ min (from + found) (2 ^ 64 - 1) → IsLabNumber from → IsLabNumber count → found < count → sum ≡ from + found
saturated from found count sum is low few less = omega (arith, is, low, few, less)

-- ---- the lab after requests were sent again
pub resent_ready : (s : LabState) (requests : List Request) (server : LoggedState) (replies : List Reply) → IsReady s
    → AreServed requests s.clock s.server server replies → IsReady (record s { server = server })
resent_ready s requests server replies ready serves = record {
  clocks = ready.clocks;
  calm = all_served_calm requests replies s.clock s.server server serves ready.calm;
}

pub short_ready : (s : LabState) (requests : List Request) (server : LoggedState) → IsReady s
    → (came : ActEnd) × ServesFront requests s.clock s.server server came → IsReady (record s { server = server })
short_ready s requests server ready (came, front) = resent_ready s front.served server front.replies ready front.serves

-- an act that is planned with the line that is set
pub line_of_act : (call given line : ℕ) (act : Act) (d made : Device) → given ≡ line → made ≡ with_act call given act d → made ≡ with_act call line act d
line_of_act call given line act d made same is = is ∙ ap (λ (n : ℕ). with_act call n act d) same
