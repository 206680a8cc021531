-- All links of a server as one run of the protocol: what they asked, in order, and what they were answered.
use Rattle.std.specs.Prelude.{◌≡◌, ◌⊎◌, ⊤, ℕ, ℤ, List, [], ◌∷◌, Option, Some, None, Ok, Err}
use Rattle.std.specs.List.{AllByRecursion}
use Rattle.ak_account_keepers.specs.OpenedAccounts.{OpensAll, Service}
use Rattle.ak_accounts.specs.declared.listings.ListedAccount.{ListedAccount}
use Rattle.ak_faults.specs.Causes.{Rose}
use Rattle.ak_http_links.specs.Isolation.{CarriesKey}
use Rattle.ak_http_links.specs.LinkReads.{HasRest, ReadsLink}
use Rattle.ak_http_links.specs.LinkWrites.{WritesReply}
use Rattle.ak_http_links.specs.ServedLinks.{EndCause}
use Rattle.ak_http_links.specs.declared.link_ends.LinkEnd.{LinkEnd}
use Rattle.ak_http_texts.specs.Refusals.{refusal_reply}
use Rattle.ak_http_texts.specs.declared.refusals.Refusal.{Refusal}
use Rattle.ak_io.specs.Arrivals.{GivesNext, IsClockMoment}
use Rattle.ak_keep.specs.Collections.{Collection}
use Rattle.ak_keep.specs.Keepers.{Keeping}
use Rattle.ak_messages.specs.declared.requests.Request.{Request}
use Rattle.ak_protocol.specs.Logs.{Event, Asked, View, server_after, server_next}
use Rattle.ak_protocol.specs.Servers.{ServerState, server_served}
use Rattle.ak_protocol.specs.Serving.{Setback}
use Rattle.ak_server.specs.Accounts.{StandsFor, committed_in}
use Rattle.ak_server_runs.specs.ServedDoors.{ServesTurns, Turn, Views}

-- ---- one link
-- the bytes of a link ask this request, and the reply of the protocol to it, at this moment and with this setback, is written to the link
-- as the end tells
pub record IsServedTo {L K : Type 0} (views : Views L K) (turn : Turn L) (server : ServerState) (request : Request) (now : ℤ) (setback : Setback) : Type 0 where
  pub end : LinkEnd
  pub reads : ReadsLink (views.left turn.came) (views.left turn.gave) (Ok request)
  pub moment : IsClockMoment now
  pub writes : WritesReply (views.written turn.came) (views.written turn.gave) (server_served server request now setback).reply end
  pub cause : EndCause (views.link_health turn.came) (views.link_health turn.gave) end

-- the bytes of a link are refused by name, and the reply that tells it is written to the link as the end tells
pub record IsRefusedTo {L K : Type 0} (views : Views L K) (turn : Turn L) : Type 0 where
  pub why : Refusal
  pub end : LinkEnd
  pub reads : ReadsLink (views.left turn.came) (views.left turn.gave) (Err why)
  pub writes : WritesReply (views.written turn.came) (views.written turn.gave) (refusal_reply why) end
  pub cause : EndCause (views.link_health turn.came) (views.link_health turn.gave) end

-- a link failed before its request was read: nothing is written to it
pub record IsCutOff {L K : Type 0} (views : Views L K) (turn : Turn L) : Type 0 where
  pub read : HasRest (views.left turn.came) (views.left turn.gave)
  pub written : views.written turn.gave ≡ views.written turn.came
  pub failed : Rose (views.link_health turn.came) (views.link_health turn.gave)

-- ---- all links
-- these events came to a server by the links: of each link the request that it asks, if it asks one; and each was answered so
abbrev pub AnswersLinks : {L K : Type 0} → Views L K → ServerState → List (Turn L) → List Event → Type 0
AnswersLinks views server [] events = events ≡ []
AnswersLinks views server (turn ∷ turns) events =
    ((request : Request) × (now : ℤ) × (setback : Setback) × (more : List Event) × (events ≡ Asked request now setback ∷ more)
    × IsServedTo views turn server request now setback × AnswersLinks views (server_next server (Asked request now setback)) turns more)
    ⊎ ((IsRefusedTo views turn ⊎ IsCutOff views turn) × AnswersLinks views server turns events)

-- the clock gives the moment of each event, in their order, and nothing else
abbrev pub GivesMoments : Option (List ℤ) → Option (List ℤ) → List Event → Type 0
GivesMoments old new [] = new ≡ old
GivesMoments old new (View host ∷ events) = ⊥
GivesMoments old new (Asked request now setback ∷ events) = (then : Option (List ℤ)) × GivesNext old then now × GivesMoments then new events

-- the links are one run of the protocol, from this server on: the accounts stand for what it makes of the events in the end
pub record IsOneRun {L K : Type 0} (views : Views L K) (turns : List (Turn L)) (server : ServerState) (before after : Service K) : Type 0 where
  pub events : List Event
  pub answers : AnswersLinks views server turns events
  pub moments : GivesMoments before.moments after.moments events
  pub stands : StandsFor views.keeping after.accounts (server_after server events)

-- ---- accounts that no link names
-- bytes that were told do not carry this host key
abbrev pub LacksKey : List ℕ → Option (List ℕ) → Type 0
LacksKey host None = ⊥
LacksKey host (Some bytes) = CarriesKey bytes host → ⊥

-- no link carries it
abbrev pub AllLackKey : {L K : Type 0} → Views L K → List ℕ → List (Turn L) → Type 0
AllLackKey views host turns = AllByRecursion (λ turn. LacksKey host (views.left turn.came)) turns

-- ---- accounts as they were opened
-- the keepers of accounts that were opened tell their collections
abbrev pub TellAll : {K : Type 0} (keeping : K → Keeping) (listed : List ListedAccount) (told left : Option (List K)) (before after : Service K)
    → OpensAll keeping listed told left before after → Type 0
TellAll keeping [] told left before after opens = ⊤
TellAll keeping (one ∷ more) told left before after opens =
    ((c : Collection) × (committed_in (keeping opens.2.keeper) ≡ Some c)) × TellAll keeping more opens.0 left opens.1 after opens.3

-- a run over accounts that all tell their collections is one run of the protocol, from the server on that the accounts stood for when they
-- had been opened
pub record RunsOnce {L K : Type 0} (views : Views L K) (turns : List (Turn L)) (opened after : Service K) : Type 0 where
  pub opening : ServerState
  pub opened_as : StandsFor views.keeping opened.accounts opening
  pub run : IsOneRun views turns opening opened after
