-- What grows in the log of a lab's server, and what it leaves of the account.
use Rattle.std.specs.List.{AllByRecursion}
use Rattle.std.specs.Prelude.{◌≡◌, ◌+◌, ℕ, ℤ, true, Bool, if◌then◌else◌, List, [], ◌∷◌, ◌++◌, Option, Some, Result, ⊤}
use Rattle.std.proofs.Common.{refl, sym, ap, subst, ◌∙◌, append_assoc, append-nil}
use Rattle.std.proofs.lemmas.Option.{same_Some}
use Rattle.ak_exchange.specs.Asked.{AreTried}
use Rattle.ak_faults.specs.Causes.{Health}
use Rattle.ak_keep.specs.Collections.{Collection}
use Rattle.ak_messages.specs.declared.replies.Reply.{Reply}
use Rattle.ak_messages.specs.declared.requests.Ask.{Ask}
use Rattle.ak_messages.specs.declared.requests.Request.{Request}
use Rattle.ak_protocol.proofs.Syncs.{all_append, own_append, world_append}
use Rattle.ak_protocol.specs.Accounts.{AccountState}
use Rattle.ak_protocol.specs.Logs.{Commit, Event, View, Asked, Grows, Log, World, events_of, opened, with_growth, world_after, world_next, world_served}
use Rattle.ak_protocol.specs.Serving.{Setback, Undisturbed, KeeperFault, OutOfMemory, begun, by_repeat}
use Rattle.ak_protocol.specs.Accounts.{repeated}
use Rattle.ak_protocol.specs.Sessions.{IsMetaOrOther}
use Rattle.ak_protocol.specs.Syncs.{world_of}
use Rattle.ak_session.specs.Plans.{Asker, requests_from}
use Rattle.ak_session.specs.Requests.{is_meta}
use Rattle.ak_client_wire.specs.Wires.{WireKind, Carries, GrowsByServings, IsServing, WireState}
use Rattle.ak_client_wire.specs.declared.wires.WireEnd.{WireEnd}

-- ---- events that commit nothing
-- a view or a meta
abbrev pub IsQuiet : Event → Type 0
IsQuiet (View host) = ⊤
IsQuiet (Asked request now setback) = is_meta request.ask ≡ true

-- a view
abbrev pub IsView : Event → Type 0
IsView (View host) = ⊤
IsView (Asked request now setback) = ⊥

pub views_are_quiet : (events : List Event) → AllByRecursion IsView events → AllByRecursion IsQuiet events
views_are_quiet [] all = tt
views_are_quiet (View host ∷ events) all = (tt, views_are_quiet events all.1)
views_are_quiet (Asked request now setback ∷ events) all = absurd all.0

-- what is committed is as it was, and so are the commits
pub record StaysQuiet (before after : World) : Type 0 where
  pub committed : after.state.committed ≡ before.state.committed
  pub commits : after.commits ≡ before.commits

quiet_asked : (w : World) (request : Request) (now : ℤ) (setback : Setback) → is_meta request.ask ≡ true → StaysQuiet w (world_next w (Asked request now setback))
quiet_asked w request now KeeperFault is = record { committed = refl; commits = refl }
quiet_asked w request now OutOfMemory is = record { committed = refl; commits = refl }
quiet_asked w request now Undisturbed is =
    subst (λ (b : Bool). StaysQuiet w (world_served w request (if b then begun w.state request now else by_repeat (repeated w.state.kept request) w.state request now)))
    (sym is) (record { committed = refl; commits = refl })

pub quiet_after : (w : World) (events : List Event) → AllByRecursion IsQuiet events → StaysQuiet w (world_after w events)
quiet_after w [] all = record { committed = refl; commits = refl }
quiet_after w (View host ∷ events) all =
    let rest = quiet_after (world_next w (View host)) events all.1 in
    record { committed = rest.committed; commits = rest.commits }
quiet_after w (Asked request now setback ∷ events) all =
    let first = quiet_asked w request now setback all.0 in
    let rest = quiet_after (world_next w (Asked request now setback)) events all.1 in
    record { committed = rest.committed ∙ first.committed; commits = rest.commits ∙ first.commits }

-- a commit by its parts
abbrev pub commit_as : ℕ → Collection → Collection → Commit
commit_as key before after = record { key = key; before = before; after = after }

-- ---- the account after a growth
pub world_grown : (host : List ℕ) (account : AccountState) (log : Log) (growth : List Event)
    → world_of host account (with_growth log growth) ≡ world_after (world_of host account log) (events_of host growth)
world_grown host account log growth =
    ap (world_after (opened account)) (own_append host log.events growth)
    ∙ world_append (opened account) (events_of host log.events) (events_of host growth)

-- ---- what comes while requests are tried over a wire that nothing else uses
pub record GrowsSo (P : Event → Type 0) (old now : Log) : Type 0 where
  pub growth : List Event
  pub grown : now ≡ with_growth old growth
  pub all : AllByRecursion P growth

-- whenever a request comes, this holds of the event
abbrev pub ComesSo : (Event → Type 0) → Request → Type 0
ComesSo P request = (now : ℤ) (setback : Setback) → P (Asked request now setback)

pub servings_so : (P : Event → Type 0) (request : Request) (events : List Event) → ComesSo P request → AllByRecursion (IsServing request) events
    → AllByRecursion P events
servings_so P request [] so all = tt
servings_so P request (View host ∷ events) so all = absurd all.0
servings_so P request (Asked other now setback ∷ events) so all =
    (subst (λ (r : Request). P (Asked r now setback)) (sym all.0) (so now setback), servings_so P request events so all.1)

pub grows_so : {kind : WireKind} (P : Event → Type 0) (list : List Request) (answers : List (Result Reply WireEnd)) (h0 h1 : Health) (w0 w1 : WireState kind) (old now : Log)
    → AreTried list answers h0 h1 w0 w1 → AllByRecursion (ComesSo P) list → w0.alone ≡ true → w0.log ≡ Some old → w1.log ≡ Some now → GrowsSo P old now
grows_so {kind} P [] [] h0 h1 w0 w1 old now tried all alone is told = record {
  growth = [];
  grown = same_Some now old (sym told ∙ ap (λ (w : WireState kind). w.log) tried.1 ∙ is)
      ∙ ap (λ (events : List Event). record old { events = events }) (sym (append-nil old.events));
  all = tt;
}
grows_so P [] (answer ∷ answers) h0 h1 w0 w1 old now tried all alone is told = absurd tried
grows_so P (request ∷ more) [] h0 h1 w0 w1 old now tried all alone is told = absurd tried
grows_so P (request ∷ more) (answer ∷ answers) h0 h1 w0 w1 old now tried all alone is told =
    let carried : (new : Log) × (tried.1.log ≡ Some new) × Grows old new request answer =
    subst (λ (o : Option Log). Carries o tried.1.log request answer) is tried.2.carries in
    let first : GrowsByServings old carried.0 request = tried.2.alone.brings alone old carried.0 is carried.1 in
    let rest = grows_so P more answers tried.0 h1 tried.1 w1 carried.0 now tried.3 all.1 (tried.2.alone.stays ∙ alone) carried.1 told in
    record {
      growth = first.growth ++ rest.growth;
      grown = rest.grown
          ∙ ap (λ (log : Log). with_growth log rest.growth) first.grown
          ∙ ap (λ (events : List Event). record old { events = events }) (append_assoc old.events first.growth rest.growth);
      all = all_append P first.growth rest.growth (servings_so P request first.growth all.0 first.servings) rest.all;
    }

-- ---- the session of a request
-- an event is a request of this session
abbrev pub IsOfSession : ℕ → Event → Type 0
IsOfSession key (View host) = ⊥
IsOfSession key (Asked request now setback) = request.session.0 ≡ key

pub requests_of_session : (who : Asker) (base : ℤ) (step : ℕ) (asks : List Ask) → AllByRecursion (ComesSo (IsOfSession who.session.0)) (requests_from who base step asks)
requests_of_session who base step [] = tt
requests_of_session who base step (ask ∷ more) = ((λ now setback. refl), requests_of_session who base (step + 1) more)

-- what is of one session is of no other
pub others_of_session : (key other : ℕ) (events : List Event) → (key ≡ other → ⊥) → AllByRecursion (IsOfSession key) events
    → AllByRecursion (IsMetaOrOther other) events
others_of_session key other [] differ all = tt
others_of_session key other (View host ∷ events) differ all = absurd all.0
others_of_session key other (Asked request now setback ∷ events) differ all =
    ((λ is. absurd (differ (sym all.0 ∙ is))), others_of_session key other events differ all.1)

-- views bear no session key
pub views_of_none : (other : ℕ) (events : List Event) → AllByRecursion IsView events → AllByRecursion (IsMetaOrOther other) events
views_of_none other [] all = tt
views_of_none other (View host ∷ events) all = (tt, views_of_none other events all.1)
views_of_none other (Asked request now setback ∷ events) all = absurd all.0
