-- A wire that nothing else uses: all that came to the server is of the sync, and all that was committed meanwhile is of its session.
use Rattle.std.specs.List.{AllByRecursion}
use Rattle.std.specs.Prelude.{◌≡◌, ℕ, ℤ, ◌+◌, ◌==◌, Bool, true, false, if◌then◌else◌, List, [], ◌∷◌, ◌++◌, filter, Option, Some, Result}
use Rattle.std.proofs.Common.{refl, sym, ap, subst, ◌∙◌, append_assoc, append-nil, arith}
use Rattle.std.proofs.lemmas.List.Elements.{filter-append}
use Rattle.std.proofs.lemmas.List.{append_cancel_right}
use Rattle.std.proofs.lemmas.Option.{same_Some}
use Rattle.ak_client.proofs.Growing.{commits_grown, world_grown}
use Rattle.ak_client.specs.Syncs.{CommitsAlone, CommitsAloneTold, world_at}
use Rattle.ak_client_wire.specs.Wires.{WireKind, Carries, GrowsByServings, IsServing, WireState}
use Rattle.ak_client_wire.specs.declared.wires.WireEnd.{WireEnd}
use Rattle.ak_exchange.specs.Asked.{AreTried}
use Rattle.ak_faults.specs.Causes.{Health}
use Rattle.ak_keep.specs.Collections.{Collection}
use Rattle.ak_messages.specs.declared.replies.Reply.{Reply}
use Rattle.ak_messages.specs.declared.requests.Ask.{Ask}
use Rattle.ak_messages.specs.declared.requests.Request.{Request}
use Rattle.ak_protocol.proofs.Syncs.{all_append, unused_keys_commit_nothing}
use Rattle.ak_protocol.specs.Accounts.{AccountState}
use Rattle.ak_protocol.specs.Commits.{CommitsGrow, Leads}
use Rattle.ak_protocol.specs.Logs.{Commit, Event, View, Asked, World, Log, Grows, commit_by, commits_of, events_of, host_of, with_growth, world_after, world_next}
use Rattle.ak_protocol.specs.Servers.{same_host}
use Rattle.ak_protocol.specs.Serving.{served}
use Rattle.ak_session.specs.Plans.{Asker, requests_from}

-- ---- what stays
pub alone_stays : {kind : WireKind} (list : List Request) (answers : List (Result Reply WireEnd)) (h0 h1 : Health) (w0 w1 : WireState kind) → AreTried list answers h0 h1 w0 w1
    → w1.alone ≡ w0.alone
alone_stays {kind} [] [] h0 h1 w0 w1 tried = ap (λ (w : WireState kind). w.alone) tried.1
alone_stays [] (answer ∷ answers) h0 h1 w0 w1 tried = absurd tried
alone_stays (request ∷ more) [] h0 h1 w0 w1 tried = absurd tried
alone_stays (request ∷ more) (answer ∷ answers) h0 h1 w0 w1 tried =
    alone_stays more answers tried.0 h1 tried.1 w1 tried.3 ∙ tried.2.alone.stays

-- ---- what comes
-- an event is a request of this session
abbrev IsOfSession : ℕ → Event → Type 0
IsOfSession key (View host) = ⊥
IsOfSession key (Asked request now setback) = request.session.0 ≡ key

abbrev AllOfSession : ℕ → List Event → Type 0
AllOfSession key events = AllByRecursion (IsOfSession key) events

abbrev pub IsRequestOf : ℕ → Request → Type 0
IsRequestOf key request = request.session.0 ≡ key

servings_are_of : (key : ℕ) (request : Request) (events : List Event) → request.session.0 ≡ key → AllByRecursion (IsServing request) events → AllOfSession key events
servings_are_of key request [] own all = tt
servings_are_of key request (View host ∷ events) own all = absurd all.0
servings_are_of key request (Asked other now setback ∷ events) own all =
    (ap (λ (r : Request). r.session.0) all.0 ∙ own, servings_are_of key request events own all.1)

pub requests_are_of : (who : Asker) (base : ℤ) (step : ℕ) (asks : List Ask) → AllByRecursion (IsRequestOf who.session.0) (requests_from who base step asks)
requests_are_of who base step [] = tt
requests_are_of who base step (ask ∷ more) = (refl, requests_are_of who base (step + 1) more)

record GrowsOwn (key : ℕ) (old now : Log) : Type 0 where
  pub growth : List Event
  pub grown : now ≡ with_growth old growth
  pub own : AllOfSession key growth

grows_own : {kind : WireKind} (key : ℕ) (list : List Request) (answers : List (Result Reply WireEnd)) (h0 h1 : Health) (w0 w1 : WireState kind) (old now : Log)
    → AreTried list answers h0 h1 w0 w1 → AllByRecursion (IsRequestOf key) list → w0.alone ≡ true → w0.log ≡ Some old → w1.log ≡ Some now → GrowsOwn key old now
grows_own {kind} key [] [] h0 h1 w0 w1 old now tried all alone is told = record {
  growth = [];
  grown = same_Some now old (sym told ∙ ap (λ (w : WireState kind). w.log) tried.1 ∙ is)
      ∙ ap (λ (events : List Event). record old { events = events }) (sym (append-nil old.events));
  own = tt;
}
grows_own key [] (answer ∷ answers) h0 h1 w0 w1 old now tried all alone is told = absurd tried
grows_own key (request ∷ more) [] h0 h1 w0 w1 old now tried all alone is told = absurd tried
grows_own key (request ∷ more) (answer ∷ answers) h0 h1 w0 w1 old now tried all alone is told =
    let carried : (new : Log) × (tried.1.log ≡ Some new) × Grows old new request answer =
    subst (λ (o : Option Log). Carries o tried.1.log request answer) is tried.2.carries in
    let first : GrowsByServings old carried.0 request = tried.2.alone.brings alone old carried.0 is carried.1 in
    let rest = grows_own key more answers tried.0 h1 tried.1 w1 carried.0 now tried.3 all.1 (tried.2.alone.stays ∙ alone) carried.1 told in
    record {
      growth = first.growth ++ rest.growth;
      grown = rest.grown
          ∙ ap (λ (log : Log). with_growth log rest.growth) first.grown
          ∙ ap (λ (events : List Event). record old { events = events }) (append_assoc old.events first.growth rest.growth);
      own = all_append (IsOfSession key) first.growth rest.growth (servings_are_of key request first.growth all.0 first.servings) rest.own;
    }

-- ---- what is committed
own_events : (key : ℕ) (host : List ℕ) (events : List Event) → AllOfSession key events → AllOfSession key (events_of host events)
own_events key host [] all = tt
own_events key host (event ∷ events) all =
    elim (same_host host (host_of event)) as (λ b. AllOfSession key (if b then event ∷ events_of host events else events_of host events)) [
      | true ↦ (all.0, own_events key host events all.1)
      | false ↦ own_events key host events all.1
    ]

-- the commits that these events add
record AddsOwn (key : ℕ) (old now : List Commit) : Type 0 where
  pub added : List Commit
  pub grown : now ≡ added ++ old
  pub own : commits_of key added ≡ added

one_more : (key : ℕ) (commit : Commit) (commits : List Commit) → commit.key ≡ key → commits_of key commits ≡ commits → commits_of key (commit ∷ commits) ≡ commit ∷ commits
one_more key commit commits is own =
    let here : (commit.key == key) ≡ true = grind (arith, is) in
    ap (λ (b : Bool). if b then commit ∷ commits_of key commits else commits_of key commits) here ∙ ap (λ (l : List Commit). commit ∷ l) own

adds_next : (key : ℕ) (w : World) (event : Event) → IsOfSession key event → AddsOwn key w.commits (world_next w event).commits
adds_next key w (View host) own = absurd own
adds_next key w (Asked request now setback) own =
    elim (served w.state request now setback).is_commit as (λ b. AddsOwn key w.commits
    (if b then commit_by request w.state (served w.state request now setback) ∷ w.commits else w.commits)) [
      | true ↦ record {
        added = commit_by request w.state (served w.state request now setback) ∷ [];
        grown = refl;
        own = one_more key (commit_by request w.state (served w.state request now setback)) [] own refl;
      }
      | false ↦ record { added = []; grown = refl; own = refl }
    ]

adds_after : (key : ℕ) (w : World) (events : List Event) → AllOfSession key events → AddsOwn key w.commits (world_after w events).commits
adds_after key w [] all = record { added = []; grown = refl; own = refl }
adds_after key w (event ∷ events) all =
    let first = adds_next key w event all.0 in
    let rest = adds_after key (world_next w event) events all.1 in
    record {
      added = rest.added ++ first.added;
      grown = rest.grown ∙ ap (λ (l : List Commit). rest.added ++ l) first.grown ∙ sym (append_assoc rest.added first.added w.commits);
      own = filter-append (λ (commit : Commit). commit.key == key) rest.added first.added
          ∙ ap (λ (l : List Commit). l ++ commits_of key first.added) rest.own
          ∙ ap (λ (l : List Commit). rest.added ++ l) first.own;
    }

led_nowhere : (first last : Collection) (newer : List Commit) → newer ≡ [] → Leads first newer last → last ≡ first
led_nowhere first last newer none leads = subst (λ (l : List Commit). Leads first l last) none leads

led_once : (first last : Collection) (newer : List Commit) (it : Commit) → newer ≡ it ∷ [] → Leads first newer last → (it.before ≡ first) × (it.after ≡ last)
led_once first last newer it one leads =
    let so : Leads first (it ∷ []) last = subst (λ (l : List Commit). Leads first l last) one leads in
    (so.2, sym so.0)

module _ (who : Asker) (account : AccountState) (old now : Log) (none : commits_of who.session.0 (world_at who account old).commits ≡ []) where
  grows_alone : GrowsOwn who.session.0 old now → CommitsAlone who account old now
  grows_alone grows =
      let key : ℕ = who.session.0 in
      let before : World = world_at who account old in
      let after : World = world_at who account now in
      let same : after ≡ world_after before (events_of who.host.digits grows.growth) = ap (world_at who account) grows.grown ∙ world_grown who account old grows.growth in
      let adds : AddsOwn key before.commits after.commits =
      subst (λ (w : World). AddsOwn key before.commits w.commits) (sym same)
      (adds_after key before (events_of who.host.digits grows.growth) (own_events key who.host.digits grows.growth grows.own)) in
      let mine : commits_of key after.commits ≡ adds.added =
      ap (commits_of key) adds.grown
      ∙ filter-append (λ (commit : Commit). commit.key == key) adds.added before.commits
      ∙ ap (λ (l : List Commit). commits_of key adds.added ++ l) none
      ∙ append-nil (commits_of key adds.added)
      ∙ adds.own in
      let led : CommitsGrow before after =
      subst (λ (log : Log). CommitsGrow before (world_at who account log)) (sym grows.grown) (commits_grown who account old grows.growth) in
      let newer : led.newer ≡ adds.added = append_cancel_right led.newer adds.added before.commits (sym led.grown ∙ adds.grown) in
      record {
        commits = adds.grown ∙ ap (λ (l : List Commit). l ++ before.commits) (sym mine);
        stays = λ nothing. led_nowhere before.state.committed after.state.committed led.newer (newer ∙ sym mine ∙ nothing) led.lead;
        one = λ it only. led_once before.state.committed after.state.committed led.newer it (newer ∙ sym mine ∙ only) led.lead;
      }

-- a sync alone with its server
pub commits_alone : {kind : WireKind} (who : Asker) (list : List Request) (answers : List (Result Reply WireEnd)) (h0 h1 : Health) (w0 w1 : WireState kind) → AreTried list answers h0 h1 w0 w1
    → AllByRecursion (IsRequestOf who.session.0) list → w0.alone ≡ true → CommitsAloneTold who w0.log w1.log
commits_alone who list answers h0 h1 w0 w1 tried own alone old now account is told unused =
    grows_alone who account old now (unused_keys_commit_nothing who.host.digits who.session.0 account old unused)
    (grows_own who.session.0 list answers h0 h1 w0 w1 old now tried own alone is told)
