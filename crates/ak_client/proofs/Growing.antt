-- How the log of a wire grows while requests are tried, and what that leaves of an account.
use Rattle.std.specs.List.{AllByRecursion}
use Rattle.std.specs.Prelude.{◌≡◌, List, [], ◌∷◌, ◌++◌, Option, Some, Result}
use Rattle.std.proofs.Common.{sym, ap, subst, ◌∙◌, append_assoc, append-nil}
use Rattle.ak_client.specs.Syncs.{world_at}
use Rattle.ak_client_wire.specs.Wires.{WireKind, Carries, WireState}
use Rattle.ak_client_wire.specs.declared.wires.WireEnd.{WireEnd}
use Rattle.ak_exchange.specs.Asked.{AreTried}
use Rattle.ak_faults.specs.Causes.{Health}
use Rattle.ak_keep.specs.Collections.{Collection}
use Rattle.ak_merge.specs.Links.{AreLinked}
use Rattle.ak_messages.specs.declared.replies.Reply.{Reply}
use Rattle.ak_messages.specs.declared.requests.Request.{Request}
use Rattle.ak_protocol.proofs.Commits.{commits_lead_on}
use Rattle.ak_protocol.proofs.ContentLaws.{lawful_stays_lawful, links_stay, some_of_all}
use Rattle.ak_protocol.proofs.Syncs.{all_append, own_append, world_append}
use Rattle.ak_protocol.specs.Accounts.{AccountState}
use Rattle.ak_protocol.specs.Commits.{CommitsGrow, EachNewer, HasFreshSchema}
use Rattle.ak_protocol.specs.LawfulServers.{IsLawfulAccount}
use Rattle.ak_protocol.specs.Logs.{Event, View, Asked, World, Log, Grows, IsTimely, MayCome, opened, world_after, with_growth, events_of}
use Rattle.ak_session.specs.Plans.{Asker}

-- a log grew to what is told, by what came at moments that a clock may tell
pub record HasGrown (old : Log) (told : Option Log) : Type 0 where
  pub now : Log
  pub is : told ≡ Some now
  pub growth : List Event
  pub grown : now ≡ with_growth old growth
  pub timely : AllByRecursion IsTimely growth

pub timely_growth : (past : List Event) (request : Request) (events : List Event) → AllByRecursion (MayCome past request) events
    → AllByRecursion IsTimely events
timely_growth past request [] all = tt
timely_growth past request (View host ∷ events) all = (tt, timely_growth past request events all.1)
timely_growth past request (Asked other now setback ∷ events) all = (all.0.0, timely_growth past request events all.1)

-- the log of a wire of which requests are tried grows
pub tried_grows : {kind : WireKind} (list : List Request) (answers : List (Result Reply WireEnd)) (h0 h1 : Health) (w0 w1 : WireState kind) (old : Log) → AreTried list answers h0 h1 w0 w1
    → w0.log ≡ Some old → HasGrown old w1.log
tried_grows {kind} [] [] h0 h1 w0 w1 old tried is = record {
  now = old;
  is = ap (λ (w : WireState kind). w.log) tried.1 ∙ is;
  growth = [];
  grown = ap (λ (events : List Event). record old { events = events }) (sym (append-nil old.events));
  timely = tt;
}
tried_grows [] (answer ∷ answers) h0 h1 w0 w1 old tried is = absurd tried
tried_grows (request ∷ more) [] h0 h1 w0 w1 old tried is = absurd tried
tried_grows (request ∷ more) (answer ∷ answers) h0 h1 w0 w1 old tried is =
    let carried : (new : Log) × (tried.1.log ≡ Some new) × Grows old new request answer =
    subst (λ (o : Option Log). Carries o tried.1.log request answer) is tried.2.carries in
    let rest = tried_grows more answers tried.0 h1 tried.1 w1 carried.0 tried.3 carried.1 in
    record {
      now = rest.now;
      is = rest.is;
      growth = carried.2.growth ++ rest.growth;
      grown = rest.grown
          ∙ ap (λ (log : Log). with_growth log rest.growth) carried.2.grown
          ∙ ap (λ (events : List Event). record old { events = events }) (append_assoc old.events carried.2.growth rest.growth);
      timely = all_append IsTimely carried.2.growth rest.growth
          (timely_growth old.events request carried.2.growth carried.2.may) rest.timely;
    }

module _ (who : Asker) (account : AccountState) (old : Log) (growth : List Event) where
  -- the account after the growth
  pub world_grown : world_at who account (with_growth old growth) ≡ world_after (world_at who account old) (events_of who.host.digits growth)
  world_grown =
      ap (world_after (opened account)) (own_append who.host.digits old.events growth)
      ∙ world_append (opened account) (events_of who.host.digits old.events) (events_of who.host.digits growth)

  pub commits_grown : CommitsGrow (world_at who account old) (world_at who account (with_growth old growth))
  commits_grown =
      subst (λ (w : World). CommitsGrow (world_at who account old) w) (sym world_grown)
      (commits_lead_on (world_at who account old) (events_of who.host.digits growth))

  module _ (timely : AllByRecursion IsTimely growth) (lawful : IsLawfulAccount (world_at who account old).state) where
    pub own_timely : AllByRecursion IsTimely (events_of who.host.digits growth)
    own_timely = some_of_all IsTimely who.host.digits growth timely

    pub lawful_grown : IsLawfulAccount (world_at who account (with_growth old growth)).state
    lawful_grown =
        subst (λ (w : World). IsLawfulAccount w.state) (sym world_grown)
        (lawful_stays_lawful (world_at who account old) (events_of who.host.digits growth) own_timely lawful)

    pub linked_grown : (c : Collection) → EachNewer (HasFreshSchema c) (world_at who account old) (world_at who account (with_growth old growth))
        → AreLinked c (world_at who account old).state.committed → AreLinked c (world_at who account (with_growth old growth)).state.committed
    linked_grown c fresh linked =
        subst (λ (w : World). AreLinked c w.state.committed) (sym world_grown)
        (links_stay (world_at who account old) (events_of who.host.digits growth) c own_timely lawful
        (subst (EachNewer (HasFreshSchema c) (world_at who account old)) world_grown fresh) linked)
