-- What a sync of a lab leaves that others may have crossed: whole syncs of other devices, and requests of the log again.
use Rattle.std.specs.List.{AllByRecursion}
use Rattle.std.specs.Prelude.{◌≡◌, ◌≢◌, ℕ, ◌+◌, ℤ, ◌+ℤ◌, is_some, true, List, [], ◌∷◌, Some}
use Rattle.ak_base.specs.declared.names.Name.{Name}
use Rattle.ak_base.specs.declared.names.Table.TheVariants as tables
use Rattle.ak_base.specs.declared.rows.Row.{Row}
use Rattle.ak_client.specs.Syncs.{CommitsAtMostOnce}
use Rattle.ak_client.specs.declared.outcomes.Outcome.{Outcome}
use Rattle.ak_client.specs.declared.outcomes.Outcome.TheVariants as outcomes
use Rattle.ak_exchange.specs.Asked.{TriedAsk, asker, asks_in}
use Rattle.ak_exchange.specs.declared.envelopes.Ids.{Ids}
use Rattle.ak_faults.specs.Causes.{one_more}
use Rattle.ak_keep.specs.Collections.{Collection}
use Rattle.ak_lab.specs.LabStates.{LabState}
use Rattle.ak_lab.specs.LabSyncs.{EndsSync}
use Rattle.ak_lab_devices.specs.RestingKeepers.{Holds}
use Rattle.ak_lab_devices.specs.declared.devices.Device.{Device}
use Rattle.ak_lab_joins.specs.EachCrossed.{SaidOfCrossed}
use Rattle.ak_lab_joins.specs.LabJoins.{StillHolds, lab_world}
use Rattle.ak_lab_wires.specs.LabSessions.{lab_host}
use Rattle.ak_merge.specs.Exchanges.{AreExchanged}
use Rattle.ak_merge.specs.Holdings.{row_under}
use Rattle.ak_messages.specs.declared.requests.Request.{Request}
use Rattle.ak_protocol.specs.Accounts.{AccountState}
use Rattle.ak_protocol.specs.Commits.{CommitsGrow, EachNewer, HasFreshSchema}
use Rattle.ak_protocol.specs.Logs.{Event, IsTimely, Log, World, commits_of, events_of, with_growth}
use Rattle.ak_protocol.specs.Sessions.{IsOwnOrOther}
use Rattle.ak_protocol.specs.Syncs.{world_of}
use Rattle.ak_session.specs.Plans.{requests_from}
use Rattle.ak_sync_in_memory.specs.Entries.{log_in}

-- each commit that came while a device synced left the server's schema moment, or took one that the device did not have when its sync began
abbrev pub IsCrossedFresh : Device → World → World → Type 0
IsCrossedFresh d before now = (c : Collection) → Holds d.collection c → EachNewer (HasFreshSchema c) before now

-- what was committed meanwhile leads from what was committed before to what is committed now
abbrev pub LeadsOn : AccountState → LabState → LabState → Type 0
LeadsOn account s t = CommitsGrow (lab_world account s) (lab_world account t)

-- ---- a sync of a device, in the session of a key
-- it finished: its session committed once, over what was committed just before, and that commit and the device hold the join of this and of what
-- the device held when the sync began
pub record FinishesOver (key : ℕ) (d made : Device) (before now : World) : Type 0 where
  pub c : Collection
  pub held : Holds d.collection c
  -- what was committed just before, what its commit left, and what the device holds now
  pub base : Collection
  pub after : Collection
  pub device : Collection
  pub holds : Holds made.collection device
  pub once : commits_of key now.commits ≡ record { key = key; before = base; after = after } ∷ []
  pub joined : AreExchanged c base device after
  pub leads : CommitsGrow before now

-- it ended otherwise: the device holds what it held, but that its moments rise after a bad sanity check, to this one, of its clock
pub record KeepsCrossed (at : ℤ) (d made : Device) (before now : World) (outcome : Outcome) : Type 0 where
  pub c : Collection
  pub held : Holds d.collection c
  pub still : StillHolds at c outcome made
  pub leads : CommitsGrow before now

-- whatever comes to the server after this log, the session commits at most once: the join of what the device held when the sync began and of what
-- was committed just before. So it is if of its key nothing comes but metas and these requests, over this moment
pub record JoinsLate (account : AccountState) (key : ℕ) (d : Device) (moment : ℤ) (asked : List Request) (now : Log) : Type 0 where
  pub c : Collection
  pub held : Holds d.collection c
  pub base : Collection
  pub once : (later : List Event) → AllByRecursion IsTimely later → AllByRecursion (IsOwnOrOther key asked moment) (events_of lab_host later)
      → CommitsAtMostOnce key c base (world_of lab_host account (with_growth now later)).commits

-- what a sync asked after its meta, over the moment that this told
abbrev pub asked_by : Ids → ℤ → List TriedAsk → List Request
asked_by ids moment tries = requests_from (asker ids) moment 1 (asks_in tries)

-- the same of what a sync of the lab asked, once it ended
abbrev pub SyncJoinsLate : AccountState → (name : List ℕ) (s t : LabState) (crossed : List (List ℕ)) (outcome : Outcome) → EndsSync name s t crossed outcome
    → Type 0
SyncJoinsLate account name s t crossed outcome ended =
    let session = ended.runs.session in
    let sync = session.ended.ended.sync in
    JoinsLate account (one_more s.sessions) ended.runs.d sync.asked.moment (asked_by session.ids sync.asked.moment sync.asked.tries) (log_in t.server)

-- what a sync leaves that began when its device's clock stood at this moment, and asked these over that one
pub record LeavesJoin (account : AccountState) (key : ℕ) (at : ℤ) (d made : Device) (moment : ℤ) (asked : List Request) (before now : Log) (outcome : Outcome)
    : Type 0 where
  pub finished : outcome ≡ outcomes.Finished → FinishesOver key d made (world_of lab_host account before) (world_of lab_host account now)
  pub others : outcome ≢ outcomes.Finished → KeepsCrossed at d made (world_of lab_host account before) (world_of lab_host account now) outcome
  pub late : JoinsLate account key d moment asked now

-- a sync that crossed a session leaves so what one of its own line leaves
abbrev pub CrossedLeavesJoin : AccountState → SaidOfCrossed
CrossedLeavesJoin account name line session was now old new came it =
    let ran = it.sync.sync.session in
    let sync = ran.ended.ended.sync in
    LeavesJoin account (was.sessions + 1) (was.clock +ℤ it.d.shift) it.d it.sync.made sync.asked.moment (asked_by ran.ids sync.asked.moment sync.asked.tries)
    (log_in old) (log_in new) it.outcome

-- ---- reviews
-- the name of the review of an id
abbrev pub review_name : ℤ → Name
review_name id = record { table = tables.Review; id = id }

-- a collection has a review under each id under which another has one
abbrev pub HasReviewsOf : Collection → Collection → Type 0
HasReviewsOf c other = (id : ℤ) → is_some (row_under c (review_name id)) ≡ true → is_some (row_under other (review_name id)) ≡ true

-- each review of a collection stands in another as it is
abbrev pub HasSameReviews : Collection → Collection → Type 0
HasSameReviews c other =
    (id : ℤ) (row : Row) → row_under c (review_name id) ≡ Some row → row_under other (review_name id) ≡ Some row
