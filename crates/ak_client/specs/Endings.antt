-- What a sync that goes on after its meta asks and leaves.
use Rattle.std.specs.List.{AllByRecursion}
use Rattle.std.specs.Prelude.{◌≡◌, ℕ, ℤ, pos, ◌+◌, ◌≤◌, ◌+ℤ◌, Bool, true, false, List, [], ◌∷◌, ◌++◌, Option, Some, Result, IfOk, IfErr, ◌⊎◌}
use Rattle.ak_client.specs.Outcomes.{changes_device, is_told_by_meta, outcome_at}
use Rattle.ak_client.specs.Syncs.{ArePlain, EndsAt, IsFairEnd, LacksMemoryEarly, ends_before_finish, fewest_moments, most_moments, world_at}
use Rattle.ak_client.specs.declared.outcomes.Outcome.{Outcome}
use Rattle.ak_client.specs.declared.outcomes.Outcome.TheVariants as outcomes
use Rattle.ak_client_wire.specs.Wires.{WireKind, WireState}
use Rattle.ak_device.specs.Settlings.{taken_and_settled}
use Rattle.ak_exchange.specs.Asked.{AreFew, AreTried, TriedAsk, answers_in, asker, asks_in}
use Rattle.ak_exchange.specs.Grants.{AllGranted, AllGrantedButLast, AreGranted, SendsRows, StopsFor, StopsUnanswered}
use Rattle.ak_exchange.specs.Phases.{AreGraveRequests, HasPassedCheck, IsFairStop, IsMet, IsReached, holding, marked_at}
use Rattle.ak_exchange.specs.declared.envelopes.Ids.{Ids}
use Rattle.ak_exchange.specs.declared.envelopes.Met.{Met}
use Rattle.ak_exchange.specs.declared.stops.Stop.{Stop}
use Rattle.ak_faults.specs.Causes.{Health}
use Rattle.ak_keep.specs.Collections.{Collection}
use Rattle.ak_keep.specs.Keepers.{Keeping, changed}
use Rattle.ak_merge.specs.Exchanges.{HoldsJoin, AreExchanged}
use Rattle.ak_merge.specs.Holdings.{row_under}
use Rattle.ak_merge.specs.Joins.{joined_under}
use Rattle.ak_merge.specs.Soundness.{IsSound}
use Rattle.ak_messages.specs.declared.requests.Ask.{Ask}
use Rattle.ak_messages.specs.declared.requests.Ask.TheVariants.{Finish}
use Rattle.ak_protocol.specs.Accounts.{AccountState}
use Rattle.ak_protocol.specs.Logs.{Log, commits_of}
use Rattle.ak_session.specs.Plans.{Asker, planned, requests_from}
use Rattle.ak_session.specs.Replies.{all_replied}
use Rattle.ak_session.specs.Sessions.{MaySync}

-- how a sync may end between its meta and its start: it takes one moment of its clock then, and leaves the device as it was
pub record IsOfGreeting (outcome : Outcome) : Type 0 where
  pub least : fewest_moments outcome ≤ 1
  pub most : 1 ≤ most_moments outcome
  pub unchanged : changes_device outcome ≡ false

-- a sync stopped so before it asked its finish, or because what it asked last was not granted
abbrev pub StopsBeforeCommit : List TriedAsk → Stop → Type 0
StopsBeforeCommit tries stop = ArePlain (asks_in tries) ⊎ StopsUnanswered tries stop

-- what is asked after a meta of a wire, whatever keeper and wire are: each request is tried at most 3 times, there are few, each but the last
-- was granted, and this holds of them. Of the device's c and what was committed as s, which the meta told, that holds then
pub record AsksAfter {kind : WireKind} (ids : Ids) (met : Met) (before : Keeping) (health_before health_now : Health) (old now : WireState kind)
    (Ends : List TriedAsk → Type 0) (Leaves : Collection → Collection → AccountState → List Ask → Type 0) : Type 0 where
  pub tries : List TriedAsk
  pub tried : AreTried (requests_from (asker ids) met.meta.moment 1 (asks_in tries)) (answers_in tries)
      health_before health_now old now
  pub granted : AllGrantedButLast tries
  pub graves : ℕ
  pub graves_most : AreGraveRequests before graves
  pub few : AreFew 40_000 39_999 (5 + graves) (asks_in tries)
  pub rows : AllByRecursion SendsRows (asks_in tries)
  pub ends : Ends tries
  pub told : (c s : Collection) (account : AccountState) → IsMet c s met → IsReached (asker ids) account s [] old.log
      → Leaves c s account (asks_in tries)

-- the log shows that a sync of the device's c asked these after its meta, over s: a front of its plan if the two may sync
pub record IsShownAfter (c s : Collection) (account : AccountState) (who : Asker) (asks : List Ask)
    (told : Option Log) : Type 0 where
  pub reached : IsReached who account s asks told
  pub front : MaySync c s → (rest : List Ask) × (asks ++ rest ≡ planned c s)

-- the session committed once, as this
pub record HasOneCommit (s after : Collection) (account : AccountState) (who : Asker) (told : Option Log) : Type 0 where
  pub log : Log
  pub is : told ≡ Some log
  pub only : commits_of who.session.0 (world_at who account log).commits
      ≡ record { key = who.session.0; before = s; after = after } ∷ []

-- ---- up to the finish
-- these were asked, the finish as the last one, which was granted: the session committed at this moment; and the device, which is marked at c,
-- took what came and settled what it sent before
pub record IsGranted (c s : Collection) (account : AccountState) (who : Asker) (asks : List Ask) (told : Option Log)
    (left : Keeping) (moment : ℤ) : Type 0 where
  pub after : Collection
  pub committed : HasOneCommit s after account who told
  pub moment_is : moment ≡ after.head.moment
  pub asked : List Ask
  pub asks_are : asks ≡ asked ++ Finish ∷ []
  pub passed : MaySync c s → HasPassedCheck c s asked
  pub device : left ≡ changed (taken_and_settled s.head.usn (all_replied s asked) asked) (marked_at c)

-- a sync asked these, up to its finish: where it is left, and what a granted finish leaves
pub record Exchanged (c s : Collection) (account : AccountState) (who : Asker) (asks : List Ask) (told : Option Log)
    (left : Keeping) (result : Result ℤ Stop) : Type 0 where
  pub shown : IsShownAfter c s account who asks told
  pub early : IfErr result (λ (stop : Stop). ends_before_finish (outcome_at stop) ≡ true → ArePlain asks)
  pub granted : IfOk result (λ (moment : ℤ). IsGranted c s account who asks told left moment)
  pub fair : IfErr result (λ (stop : Stop). MaySync c s → IsFairStop c s stop)

-- the same from a marked keeper on
abbrev pub ExchangesAll : {kind : WireKind} → Ids → Met → Keeping → Keeping → Health → Health → WireState kind → WireState kind → Result ℤ Stop → Type 0
ExchangesAll ids met before left health_before health_now old now result =
    AsksAfter ids met before health_before health_now old now
    (λ (tries : List TriedAsk). AreGranted tries result × IfErr result (StopsFor tries now) × IfErr result (StopsBeforeCommit tries))
    (λ (c s : Collection) (account : AccountState) (asks : List Ask). before ≡ marked_at c
    → Exchanged c s account (asker ids) asks now.log left result)

-- ---- up to the end
-- a sync is finished: the session committed once, and the device holds the other half of the exchange
pub record IsEnded (c s : Collection) (account : AccountState) (who : Asker) (told : Option Log)
    (left : Keeping) : Type 0 where
  pub after : Collection
  pub committed : HasOneCommit s after account who told
  pub device : Collection
  pub holds : left ≡ holding device
  pub moment : device.head.moment ≡ after.head.moment
  pub last_sync : device.head.last_sync ≡ after.head.moment
  pub usn : device.head.usn ≡ s.head.usn +ℤ pos 1
  pub schema : device.head.schema ≡ c.head.schema
  pub sound : MaySync c s → IsSound (joined_under (row_under c) (row_under s))
  pub half : MaySync c s → HoldsJoin c s after → AreExchanged c s device after

-- a sync asked these and ended so
pub record Ended (c s : Collection) (account : AccountState) (who : Asker) (asks : List Ask) (told : Option Log)
    (left : Keeping) (outcome : Outcome) : Type 0 where
  pub shown : IsShownAfter c s account who asks told
  pub early : ends_before_finish outcome ≡ true → ArePlain asks
  pub finished : outcome ≡ outcomes.Finished → IsEnded c s account who told left
  pub fair : MaySync c s → IsFairEnd c s outcome

-- the same from a keeper on that is not marked, and spares memory or not
abbrev pub Ends : {kind : WireKind} → Bool → Ids → Met → Keeping → Keeping → Health → Health → WireState kind → WireState kind → Outcome → Type 0
Ends spares ids met before left health_before health_now old now outcome =
    AsksAfter ids met before health_before health_now old now
    (λ (tries : List TriedAsk). (outcome ≡ outcomes.Finished → AllGranted tries) × EndsAt tries now outcome
    × (is_told_by_meta outcome ≡ false) × (spares ≡ true → outcome ≡ outcomes.Memory → LacksMemoryEarly tries))
    (λ (c s : Collection) (account : AccountState) (asks : List Ask). before ≡ holding c
    → Ended c s account (asker ids) asks now.log left outcome)
