-- What came to a server, if requests were tried over its wire and nothing else comes to it.
use Rattle.std.specs.List.{AllByRecursion}
use Rattle.std.specs.Prelude.{◌≡◌, if◌then◌else◌, Bool, ℕ, true, ⊤, List, [], ◌∷◌, ◌++◌, Option, Some, Result, Ok, IfOk}
use Rattle.std.proofs.Common.{refl, sym, ap, subst, ◌∙◌, inl, inr, append_assoc, append-nil}
use Rattle.std.proofs.lemmas.List.{append_cancel_left}
use Rattle.ak_client_wire.specs.Tries.{Tried}
use Rattle.ak_client_wire.specs.Wires.{WireKind, Carries, GrowsByServings, IsServing, WireState}
use Rattle.ak_client_wire.specs.declared.wires.WireEnd.{WireEnd}
use Rattle.ak_exchange.specs.Asked.{AreTried}
use Rattle.ak_faults.specs.Causes.{Health}
use Rattle.ak_messages.specs.declared.replies.Reply.{Reply}
use Rattle.ak_messages.specs.declared.requests.Request.{Request}
use Rattle.ak_protocol.proofs.Isolation.{account_after, same_as_itself}
use Rattle.ak_protocol.proofs.Syncs.{all_append, all_back, all_front}
use Rattle.ak_protocol.specs.Accounts.{AccountState}
use Rattle.ak_protocol.specs.Logs.{Event, View, Asked, Grows, IsAgain, IsGrowth, IsReplyIn, Log, events_of, host_of, opened, server_after, with_growth}
use Rattle.ak_protocol.specs.Servers.{by_account, same_host}
use Rattle.ak_protocol.specs.Serving.{Undisturbed, served}
use Rattle.ak_protocol.specs.Sessions.{AreUndisturbed}
use Rattle.ak_protocol.specs.Syncs.{world_of}

abbrev pub Answer : Type 0
Answer = Result Reply WireEnd

-- ---- events
-- an event came to the account of this host key
abbrev pub IsOf : List ℕ → Event → Type 0
IsOf host event = host_of event ≡ host

pub all_own : (host : List ℕ) (events : List Event) → AllByRecursion (IsOf host) events → events_of host events ≡ events
all_own host [] all = refl
all_own host (event ∷ events) all =
    ap (λ (b : Bool). if b then event ∷ events_of host events else events_of host events) (ap (same_host host) all.0 ∙ same_as_itself host)
    ∙ ap (λ (l : List Event). event ∷ l) (all_own host events all.1)

-- no setback came in between
abbrev pub IsQuiet : Event → Type 0
IsQuiet (View host) = ⊤
IsQuiet (Asked request now setback) = setback ≡ Undisturbed

pub servings_are_of : (host : List ℕ) (request : Request) (events : List Event) → request.host.digits ≡ host → AllByRecursion (IsServing request) events → AllByRecursion (IsOf host) events
servings_are_of host request [] own all = tt
servings_are_of host request (View other ∷ events) own all = absurd all.0
servings_are_of host request (Asked other now setback ∷ events) own all =
    (ap (λ (r : Request). r.host.digits) all.0 ∙ own, servings_are_of host request events own all.1)

pub quiet_servings : (request : Request) (events : List Event) → AllByRecursion (IsServing request) events → AllByRecursion IsQuiet events → AllByRecursion (IsAgain request) events
quiet_servings request [] all quiet = tt
quiet_servings request (View host ∷ events) all quiet = absurd all.0
quiet_servings request (Asked other now setback ∷ events) all quiet = ((all.0, quiet.0), quiet_servings request events all.1 quiet.1)

-- a request that came, once or several times in a row, before others
in_a_row : (request : Request) (more : List Request) (event : Event) (events rest : List Event) → AllByRecursion (IsAgain request) (event ∷ events)
    → AreUndisturbed more rest → AreUndisturbed (request ∷ more) (event ∷ events ++ rest)
in_a_row request more (View host) events rest all quiet = absurd all.0
in_a_row request more (Asked other now setback) [] rest all quiet = (all.0, inl quiet)
in_a_row request more (Asked other now setback) (next ∷ events) rest all quiet = (all.0, inr (in_a_row request more next events rest all.1 quiet))

-- ---- one request
-- a request was tried: the log grew by servings of it alone, and a reply is that of one of them
pub record IsServedAlone (old now : Log) (request : Request) (answer : Answer) : Type 0 where
  pub growth : List Event
  pub grown : now ≡ with_growth old growth
  pub servings : AllByRecursion (IsServing request) growth
  pub may : IsGrowth old request growth
  pub reply : IfOk answer (IsReplyIn old growth request)

-- that is what a call makes of a log
pub grows_by : (old now : Log) (request : Request) (answer : Answer) → IsServedAlone old now request answer → Grows old now request answer
grows_by old now request answer it = record { growth = it.growth; grown = it.grown; may = it.may; reply = it.reply }

-- what a log grew by is told by what it became
pub same_growth : (old now : Log) (one other : List Event) → now ≡ with_growth old one → now ≡ with_growth old other → one ≡ other
same_growth old now one other is so = append_cancel_left old.events one other (ap (λ (log : Log). log.events) (sym is ∙ so))

pub served_alone : {kind : WireKind} (h0 h1 : Health) (w0 w1 : WireState kind) (request : Request) (answer : Answer) (old : Log) → Tried h0 h1 w0 w1 request answer → w0.alone ≡ true
    → w0.log ≡ Some old → (now : Log) × (w1.log ≡ Some now) × IsServedAlone old now request answer
served_alone h0 h1 w0 w1 request answer old tried alone is =
    let carried : (now : Log) × (w1.log ≡ Some now) × Grows old now request answer =
    subst (λ (o : Option Log). Carries o w1.log request answer) is tried.carries in
    let brings : GrowsByServings old carried.0 request = tried.alone.brings alone old carried.0 is carried.1 in (
      carried.0,
      carried.1,
      record {
        growth = carried.2.growth;
        grown = carried.2.grown;
        servings = subst (AllByRecursion (IsServing request))
            (same_growth old carried.0 brings.growth carried.2.growth brings.grown carried.2.grown) brings.servings;
        may = carried.2.may;
        reply = carried.2.reply;
      },
    )

-- the reply at a place is what the account gives there
pub reply_at_place : (request : Request) (account : AccountState) (old : Log) (growth : List Event) (reply : Reply) → (r : IsReplyIn old growth request reply)
    → old.opening request.host.digits ≡ Some account
    → (served (world_of request.host.digits account (with_growth old r.before)).state request r.now r.setback).reply ≡ reply
reply_at_place request account old growth reply r opening =
    sym (ap (λ (o : Option AccountState). (by_account o (server_after old.opening (old.events ++ r.before)) request r.now r.setback).reply)
    (account_after request.host.digits old.opening (opened account) (old.events ++ r.before) opening))
    ∙ r.is

-- ---- requests one after the other
-- an answer is a reply
abbrev pub IsReply : Answer → Type 0
IsReply answer = (reply : Reply) × (answer ≡ Ok reply)

-- a reply is one to what came
some_came : (old now : Log) (request : Request) (answer : Answer) → (it : IsServedAlone old now request answer) → IsReply answer
    → (event : Event) × (events : List Event) × (it.growth ≡ event ∷ events)
some_came old now request answer it (reply, is) =
    first (subst (λ (a : Answer). IfOk a (IsReplyIn old it.growth request)) is it.reply)
  where
    first : IsReplyIn old it.growth request reply → (event : Event) × (events : List Event) × (it.growth ≡ event ∷ events)
    first r = by r.before (sym r.place)
      where
        by : (before : List Event) → it.growth ≡ before ++ Asked request r.now r.setback ∷ r.after → (event : Event) × (events : List Event) × (it.growth ≡ event ∷ events)
        by [] place = (Asked request r.now r.setback, r.after, place)
        by (event ∷ before) place = (event, before ++ Asked request r.now r.setback ∷ r.after, place)

-- these requests came one after the other, each once or several times in a row
pub record CameInOrder (host : List ℕ) (list : List Request) (old now : Log) : Type 0 where
  pub growth : List Event
  pub grown : now ≡ with_growth old growth
  pub own : AllByRecursion (IsOf host) growth
  pub order : AllByRecursion IsQuiet growth → AreUndisturbed list growth

-- requests that were each answered came one after the other
pub came_in_order : {kind : WireKind} (host : List ℕ) (list : List Request) (answers : List Answer) (h0 h1 : Health) (w0 w1 : WireState kind) (old : Log) → AreTried list answers h0 h1 w0 w1
    → AllByRecursion (λ (request : Request). request.host.digits ≡ host) list → AllByRecursion IsReply answers → w0.alone ≡ true → w0.log ≡ Some old
    → (now : Log) × (w1.log ≡ Some now) × (w1.alone ≡ true) × CameInOrder host list old now
came_in_order {kind} host [] [] h0 h1 w0 w1 old tried own replies alone is = (
  old,
  ap (λ (w : WireState kind). w.log) tried.1 ∙ is,
  ap (λ (w : WireState kind). w.alone) tried.1 ∙ alone,
  record {
    growth = [];
    grown = ap (λ (events : List Event). record old { events = events }) (sym (append-nil old.events));
    own = tt;
    order = λ quiet. tt;
  },
)
came_in_order host [] (answer ∷ answers) h0 h1 w0 w1 old tried own replies alone is = absurd tried
came_in_order host (request ∷ more) [] h0 h1 w0 w1 old tried own replies alone is = absurd tried
came_in_order host (request ∷ more) (answer ∷ answers) h0 h1 w0 w1 old tried own replies alone is =
    let first = served_alone h0 tried.0 w0 tried.1 request answer old tried.2 alone is in
    let rest = came_in_order host more answers tried.0 h1 tried.1 w1 first.0 tried.3 own.1 replies.1 (tried.2.alone.stays ∙ alone) first.1 in (
      rest.0,
      rest.1,
      rest.2,
      record {
        growth = first.2.growth ++ rest.3.growth;
        grown = rest.3.grown
            ∙ ap (λ (log : Log). with_growth log rest.3.growth) first.2.grown
            ∙ ap (λ (events : List Event). record old { events = events }) (append_assoc old.events first.2.growth rest.3.growth);
        own = all_append (IsOf host) first.2.growth rest.3.growth (servings_are_of host request first.2.growth own.0 first.2.servings) rest.3.own;
        order = λ quiet. ordered first.2.growth rest.3.growth (some_came old first.0 request answer first.2 replies.0) first.2.servings rest.3.order quiet;
      },
    )
  where
    ordered : (mine others : List Event) → ((event : Event) × (events : List Event) × (mine ≡ event ∷ events)) → AllByRecursion (IsServing request) mine
        → (AllByRecursion IsQuiet others → AreUndisturbed more others) → AllByRecursion IsQuiet (mine ++ others) → AreUndisturbed (request ∷ more) (mine ++ others)
    ordered mine others (event, events, some) servings order quiet =
        let again : AllByRecursion (IsAgain request) mine = quiet_servings request mine servings (all_front IsQuiet mine others quiet) in
        subst (λ (l : List Event). AreUndisturbed (request ∷ more) (l ++ others)) (sym some)
        (in_a_row request more event events others (subst (AllByRecursion (IsAgain request)) some again) (order (all_back IsQuiet mine others quiet)))

-- ---- the last request
-- a list of requests that was tried, by what was tried last
pub record TriedLast {kind : WireKind} (list : List Request) (answers : List Answer) (last : Answer) (h0 h1 : Health) (w0 w1 : WireState kind) : Type 0 where
  pub front : List Request
  pub request : Request
  pub parts : front ++ request ∷ [] ≡ list
  pub health : Health
  pub wire : WireState kind
  pub earlier : AreTried front answers h0 health w0 wire
  pub tried : Tried health h1 wire w1 request last

pub tried_last : {kind : WireKind} (list : List Request) (answers : List Answer) (last : Answer) (h0 h1 : Health) (w0 w1 : WireState kind) → AreTried list (answers ++ last ∷ []) h0 h1 w0 w1
    → TriedLast list answers last h0 h1 w0 w1
tried_last [] [] last h0 h1 w0 w1 tried = absurd tried
tried_last [] (answer ∷ answers) last h0 h1 w0 w1 tried = absurd tried
tried_last {kind} (request ∷ []) [] last h0 h1 w0 w1 tried = record {
  front = [];
  request = request;
  parts = refl;
  health = h0;
  wire = w0;
  earlier = (refl, refl);
  tried = subst (λ (h : Health). Tried h0 h w0 w1 request last) (sym tried.3.0)
      (subst (λ (w : WireState kind). Tried h0 tried.0 w0 w request last) (sym tried.3.1) tried.2);
}
tried_last (request ∷ next ∷ more) [] last h0 h1 w0 w1 tried = absurd tried.3
tried_last (request ∷ more) (answer ∷ answers) last h0 h1 w0 w1 tried =
    let rest = tried_last more answers last tried.0 h1 tried.1 w1 tried.3 in
    record {
      front = request ∷ rest.front;
      request = rest.request;
      parts = ap (λ (l : List Request). request ∷ l) rest.parts;
      health = rest.health;
      wire = rest.wire;
      earlier = (tried.0, tried.1, tried.2, rest.earlier);
      tried = rest.tried;
    }
