-- What a sync asks and what it leaves, over a keeper that tells the device's collection c and a wire that tells the log of a server.
use Rattle.std.specs.List.{AllByRecursion}
use Rattle.std.specs.Prelude.{◌≡◌, ℕ, zero, suc, ℤ, pos, ◌+◌, ◌/◌, ◌≤◌, ◌+ℤ◌, ◌==◌, Bool, true, false, if◌then◌else◌, List, [], ◌∷◌, ◌++◌, length, Option, Some, None, IfSome, Result, Ok, Err, ⊤, ◌⊎◌}
use Rattle.ak_base.specs.declared.heads.Head.{Head}
use Rattle.ak_client.specs.Greetings.{clock_stop, device_stop, meta_of}
use Rattle.ak_client.specs.Outcomes.{is_told_by_meta, outcome_at}
use Rattle.ak_client.specs.declared.outcomes.Outcome.{Outcome}
use Rattle.ak_client.specs.declared.outcomes.Outcome.TheVariants as outcomes
use Rattle.ak_device.specs.Devices.{RaisesMoments}
use Rattle.ak_exchange.specs.Asked.{AreFew, AreTried, TriedAsk, answers_in, asker, asks_in}
use Rattle.ak_exchange.specs.Grants.{AllGranted, AllGrantedButLast, AreTooMany, EndsForMemory, EndsUnanswered, IsCheckedLast, SendsRows}
use Rattle.ak_exchange.specs.Phases.{AreGraveRequests, IsFairStop, holding}
use Rattle.ak_exchange.specs.declared.envelopes.Ids.{Ids}
use Rattle.ak_exchange.specs.Stops.{keep_stop}
use Rattle.ak_exchange.specs.declared.stops.Stop.{Stop}
use Rattle.ak_exchange.specs.declared.stops.Stop.TheVariants as stops
use Rattle.ak_faults.specs.Causes.{Health}
use Rattle.ak_io.specs.Arrivals.{GivesNext, IsClockMoment}
use Rattle.ak_keep.specs.Collections.{Collection, Holding}
use Rattle.ak_keep.specs.Keepers.{Keeping, WhereTold}
use Rattle.ak_keep.specs.declared.keepers.KeepFault.{KeepFault}
use Rattle.ak_keep.specs.declared.keepers.Wanted.TheVariants.{From, Unsent}
use Rattle.ak_merge.specs.Edits.{second_of}
use Rattle.ak_merge.specs.Exchanges.{HoldsJoin, AreExchanged}
use Rattle.ak_merge.specs.Holdings.{SameContent, content_of, row_under}
use Rattle.ak_merge.specs.Joins.{joined_under}
use Rattle.ak_merge.specs.Links.{AreLinked}
use Rattle.ak_merge.specs.Soundness.{IsSound}
use Rattle.ak_messages.specs.declared.replies.Reply.{Reply}
use Rattle.ak_messages.specs.declared.requests.Ask.{Ask}
use Rattle.ak_messages.specs.declared.requests.Ask.TheVariants as asks
use Rattle.ak_protocol.specs.Accounts.{AccountState}
use Rattle.ak_protocol.specs.Commits.{CommitsGrow, EachNewer, HasFreshSchema}
use Rattle.ak_protocol.specs.LawfulServers.{IsLawfulAccount}
use Rattle.ak_protocol.specs.Logs.{Event, Commit, World, Log, IsTimely, with_growth, events_of, commits_of}
use Rattle.ak_protocol.specs.Sessions.{IsOwnOrOther}
use Rattle.ak_protocol.specs.Syncs.{IsUnderWay, IsUnused, world_of}
use Rattle.ak_session.specs.Plans.{Asker, planned, requests_from}
use Rattle.ak_session.specs.Requests.{asks_commit}
use Rattle.ak_session.specs.Slices.{wanted_graves, wanted_in_chunks}
use Rattle.ak_client_wire.specs.Forms.{meta_in}
use Rattle.ak_client_wire.specs.Wires.{WireKind, WireState}
use Rattle.ak_client_wire.specs.declared.asks.Unanswered.TheVariants as unanswered
use Rattle.ak_client_wire.specs.declared.wires.MetaSaid.{MetaSaid}
use Rattle.ak_client_wire.specs.declared.wires.WireEnd.{WireEnd}

-- ---- before a sync
-- the account of a sync, as the log of its wire leaves it
abbrev pub world_at : Asker → AccountState → Log → World
world_at who account log = world_of who.host.digits account log

-- when a sync with a device's collection c may begin: nothing but metas has its session key so far, the account is lawful, and the
-- device is linked with what is committed
pub record MayBegin (who : Asker) (c : Collection) (account : AccountState) (log : Log) : Type 0 where
  pub unused : IsUnused who.host.digits who.session.0 account log
  pub lawful : IsLawfulAccount (world_at who account log).state
  pub linked : AreLinked c (world_at who account log).state.committed

-- ---- what it leaves on the server
-- the one commit of a session whose meta was answered over this collection: it holds the join of the device and that
pub record JoinedAt (key : ℕ) (c base : Collection) (past : List Commit) : Type 0 where
  pub after : Collection
  pub only : commits_of key past ≡ record { key = key; before = base; after = after } ∷ []
  pub joins : HoldsJoin c base after

-- a session committed nothing, or once, the join
abbrev pub CommitsAtMostOnce : ℕ → Collection → Collection → List Commit → Type 0
CommitsAtMostOnce key c base past = (commits_of key past ≡ []) ⊎ JoinedAt key c base past

-- what the log shows of a sync that asked these over this moment: it is under way, its meta was answered over this collection, which was
-- changed last at that moment, and after it came no others of its requests; or its meta was not answered, and it asked nothing more
abbrev pub IsShown : Asker → AccountState → Collection → ℤ → List Ask → Log → Type 0
IsShown who account base moment asks log =
    ((asks ≡ []) × IsUnused who.host.digits who.session.0 account log)
    ⊎ ((base.head.moment ≡ moment)
    × IsUnderWay who.host.digits who.session.0 (requests_from who moment 1 asks) base account log)

-- in this log, and in any later one in which nothing but metas and what this sync asked has the session key, the session commits at most
-- once, also if what it asked comes later than it waited for it
abbrev pub StaysOnce : Asker → Collection → Collection → ℤ → List Ask → AccountState → Log → Type 0
StaysOnce who c base moment asks account now = (later : List Event)
    → AllByRecursion IsTimely later
    → AllByRecursion (IsOwnOrOther who.session.0 (requests_from who moment 1 asks) moment)
    (events_of who.host.digits later)
    → CommitsAtMostOnce who.session.0 c base (world_at who account (with_growth now later)).commits

-- ---- what it leaves if it reports that it is finished
-- the session committed once. The device holds d, whose moment and last sync are at that commit, and whose usn is the one after the
-- server's. The join of device and server is sound, both hold it and are linked, and the device is linked with what is committed now
pub record IsSyncFinished (who : Asker) (c base : Collection) (account : AccountState) (now : Log)
    (left : Keeping) : Type 0 where
  pub after : Collection
  pub device : Collection
  pub only : commits_of who.session.0 (world_at who account now).commits
      ≡ record { key = who.session.0; before = base; after = after } ∷ []
  pub holds : left ≡ holding device
  pub moment : device.head.moment ≡ after.head.moment
  pub last_sync : device.head.last_sync ≡ after.head.moment
  pub usn : device.head.usn ≡ base.head.usn +ℤ pos 1
  pub schema : device.head.schema ≡ c.head.schema
  pub sound : IsSound (joined_under (row_under c) (row_under base))
  pub exchanged : AreExchanged c base device after
  pub linked : AreLinked device (world_at who account now).state.committed

-- ---- a sync
-- whether an outcome is told only of a sync that did not ask its finish. A keeper that refused may have refused the commit after it
abbrev pub ends_before_finish : Outcome → Bool
ends_before_finish outcomes.Finished = false
ends_before_finish outcomes.NoChanges = true
ends_before_finish (outcomes.FullSchema device server) = true
ends_before_finish (outcomes.FullSequence usn) = true
ends_before_finish (outcomes.BadRow fault) = true
ends_before_finish (outcomes.BadCounts client server) = true
ends_before_finish (outcomes.ClockOff device server) = true
ends_before_finish (outcomes.OwnCheck fault) = true
ends_before_finish outcomes.Stopped = true
ends_before_finish (outcomes.Refused status word seen) = false
ends_before_finish outcomes.Lost = false
ends_before_finish outcomes.BadReply = false
ends_before_finish outcomes.TooManyChunks = true
ends_before_finish outcomes.Keep = false
ends_before_finish outcomes.Memory = false

-- an end that is fair to two sides that may sync: if it comes of a stop, this is fair. So a sync ends at a bad row only if the join of the two
-- is not sound, never at counts that differ, and at too many chunks only if one side has ten million rows to send
abbrev pub IsFairEnd : Collection → Collection → Outcome → Type 0
IsFairEnd c base outcome = (stop : Stop) → outcome ≡ outcome_at stop → IsFairStop c base stop

-- a collection was committed at a place of what came to the account
pub record IsCommittedIn (who : Asker) (account : AccountState) (old : Log) (growth : List Event)
    (base : Collection) : Type 0 where
  pub front : List Event
  pub rest : List Event
  pub parts : growth ≡ front ++ rest
  pub place : (world_at who account (with_growth old front)).state.committed ≡ base

-- what a sync that asked these after its meta, over the moment that this told, makes of the log and of what the keeper tells, if no
-- upload in between gave just the device's schema moment
pub record Synced (who : Asker) (moment : ℤ) (asks : List Ask) (c : Collection) (account : AccountState)
    (old now : Log) (left : Keeping) (outcome : Outcome) : Type 0 where
  -- the log grew, by what came at moments that a clock may tell
  pub growth : List Event
  pub grown : now ≡ with_growth old growth
  pub timely : AllByRecursion IsTimely growth
  -- what is committed changed at commits alone, each over what the one before it left
  pub server : CommitsGrow (world_at who account old) (world_at who account now)
  -- the collection that was committed at the place at which its meta was answered, if it asked more
  pub base : Collection
  pub at_meta : (asks ≡ []) ⊎ IsCommittedIn who account old growth base
  pub shown : IsShown who account base moment asks now
  -- it asked its plan up to some place
  pub front : (rest : List Ask) × (asks ++ rest ≡ planned c base)
  -- that is at most 8 requests, its meta counted, and one more for each 250 of the graves that the device did not send yet, of the reviews,
  -- cards and notes of the server with at least the device's usn, and of those that the device did not send yet
  pub short : length asks + 1 ≤ 8 + length (wanted_graves Unsent c.rows) / 250
      + length (wanted_in_chunks (From c.head.usn) base.rows) / 250 + length (wanted_in_chunks Unsent c.rows) / 250
  pub once : StaysOnce who c base moment asks account now
  -- it committed nothing, if it ended before its finish
  pub early : ends_before_finish outcome ≡ true → commits_of who.session.0 (world_at who account now).commits ≡ []
  pub finished : outcome ≡ outcomes.Finished → IsSyncFinished who c base account now left
  pub fair : IsFairEnd c base outcome
  -- if it found nothing to sync, the device has the content of that collection, which was committed at some moment of the sync
  pub unchanged : outcome ≡ outcomes.NoChanges
      → IsCommittedIn who account old growth base × SameContent (content_of c) (content_of base)

-- the same wherever the keeper tells a collection with which the sync may begin, and the wire a log
abbrev pub Syncs : Ids → ℤ → List Ask → Keeping → Keeping → Log → Log → Outcome → Type 0
Syncs ids moment asks before left old now outcome = let who = asker ids in (c : Collection) (account : AccountState)
    → before ≡ holding c → MayBegin who c account old
    → EachNewer (HasFreshSchema c) (world_at who account old) (world_at who account now)
    → Synced who moment asks c account old now left outcome

-- the same of what is known of keeper and wire: whatever collection and log they tell
abbrev pub SyncsTold : Ids → ℤ → List Ask → Keeping → Keeping → Option Log → Option Log → Outcome → Type 0
SyncsTold ids moment asks before left told_before told_now outcome = (old : Log) → told_before ≡ Some old
    → (now : Log) × (told_now ≡ Some now) × Syncs ids moment asks before left old now outcome

-- ---- a wire that nothing else uses
-- a server to which nothing came but what the sync of this asker asked: all that was committed meanwhile is of this session. If it committed
-- nothing, what is committed stays; and if it committed, that was over what was committed before, and is what is committed now
pub record CommitsAlone (who : Asker) (account : AccountState) (old now : Log) : Type 0 where
  pub commits : (world_at who account now).commits
      ≡ commits_of who.session.0 (world_at who account now).commits ++ (world_at who account old).commits
  pub stays : commits_of who.session.0 (world_at who account now).commits ≡ []
      → (world_at who account now).state.committed ≡ (world_at who account old).state.committed
  pub one : (it : Commit) → commits_of who.session.0 (world_at who account now).commits ≡ it ∷ []
      → (it.before ≡ (world_at who account old).state.committed) × (it.after ≡ (world_at who account now).state.committed)

-- the same of whatever log the wire tells, if nothing but metas has the session key in it
abbrev pub CommitsAloneTold : Asker → Option Log → Option Log → Type 0
CommitsAloneTold who told_before told_now = (old now : Log) (account : AccountState) → told_before ≡ Some old → told_now ≡ Some now
    → IsUnused who.host.digits who.session.0 account old → CommitsAlone who account old now

-- ---- over any keeper and wire
-- the meta of a sync, and what it was answered
abbrev pub meta_tried : Result Reply WireEnd → TriedAsk
meta_tried answer = record { ask = asks.Meta; answer = answer }

-- why a sync ended after what it tried: at a bad sanity check, at what was not granted, or at too many chunks. The keeper fails only in what the
-- device does itself, so all that was tried was granted. The other reasons are told by the meta, the clock and the device
abbrev pub EndsAt : {kind : WireKind} → List TriedAsk → WireState kind → Outcome → Type 0
EndsAt tries now outcomes.Finished = ⊤
EndsAt tries now outcomes.NoChanges = ⊤
EndsAt tries now (outcomes.FullSchema device server) = ⊤
EndsAt tries now (outcomes.FullSequence usn) = ⊤
EndsAt tries now (outcomes.BadRow fault) = IsCheckedLast tries (stops.BadRow fault) now
EndsAt tries now (outcomes.BadCounts client server) = IsCheckedLast tries (stops.BadCounts client server) now
EndsAt tries now (outcomes.ClockOff device server) = ⊤
EndsAt tries now (outcomes.OwnCheck fault) = ⊤
EndsAt tries now outcomes.Stopped = ⊤
EndsAt tries now (outcomes.Refused status word seen) = EndsUnanswered tries (unanswered.Refused status word seen)
EndsAt tries now outcomes.Lost = EndsUnanswered tries unanswered.Lost
EndsAt tries now outcomes.BadReply = EndsUnanswered tries unanswered.BadReply
EndsAt tries now outcomes.TooManyChunks = AreTooMany tries
EndsAt tries now outcomes.Keep = AllGranted tries
EndsAt tries now outcomes.Memory = EndsForMemory tries

-- what a sync asked over a wire whose health and state go from the one to the other
pub record SyncAsked {kind : WireKind} (ids : Ids) (health_before health_now : Health) (old now : WireState kind) : Type 0 where
  -- what its meta was answered, the moment that this told, and what it asked after it
  pub meta : Result Reply WireEnd
  pub moment : ℤ
  pub tries : List TriedAsk
  -- it asked its meta and these, step by step, one after the other. Each was tried at most 3 times
  pub tried : AreTried (meta_of ids ∷ requests_from (asker ids) moment 1 (asks_in tries)) (meta ∷ answers_in tries)
      health_before health_now old now

-- these are no more than a sync may ask after its meta: at most 40,000 chunks, at most 39,999 sent that are not the last one, each with
-- 250 rows, at most 5 others, and those for graves: 250 go in each. No whole collection is sent. A keeper that tells nothing bounds no graves
pub record AsksAtMost (before : Keeping) (asks : List Ask) : Type 0 where
  pub graves : ℕ
  pub graves_most : AreGraveRequests before graves
  pub few : AreFew 40_000 39_999 (5 + graves) asks
  pub rows : AllByRecursion SendsRows asks

-- how what a sync tried, its meta first, ended it: each was granted before the next was asked, and all were if it is finished. A chunk that is
-- granted and is not the last one has a row
pub record TriesEnded {kind : WireKind} (tries : List TriedAsk) (now : WireState kind) (outcome : Outcome) : Type 0 where
  pub granted : AllGrantedButLast tries
  pub all_granted : outcome ≡ outcomes.Finished → AllGranted tries
  pub why : EndsAt tries now outcome

-- whether a wire is known to be alone stays. If it is, and the key is unused in the log that it tells, all that was committed meanwhile is of
-- this asker's session
pub record LeavesAlone {kind : WireKind} (who : Asker) (old now : WireState kind) : Type 0 where
  pub alone : now.alone ≡ old.alone
  pub commits : old.alone ≡ true → CommitsAloneTold who old.log now.log

-- what a sync does over any keeper and wire, whose health and state go from the one to the other: what it asked, no more than it may, how
-- that ended, and what it makes of what keeper and wire tell
pub record IsSync {kind : WireKind} (ids : Ids) (before left : Keeping) (health_before health_now : Health) (old now : WireState kind)
    (outcome : Outcome) : Type 0 where
  pub asked : SyncAsked ids health_before health_now old now
  pub bounded : AsksAtMost before (asks_in asked.tries)
  pub ends : TriesEnded (meta_tried asked.meta ∷ asked.tries) now outcome
  pub told : SyncsTold ids asked.moment (asks_in asked.tries) before left old.log now.log outcome
  pub wire : LeavesAlone (asker ids) old now

-- ---- why it ended at its meta
-- what a meta said, if it was granted and has its form
abbrev pub told_by : Result Reply WireEnd → Option MetaSaid
told_by (Ok reply) = if reply.status == 200 then meta_in reply.give else None
told_by (Err end) = None

-- how a sync ends by what its meta said and the moment that the clock gave then. The server and the clocks come first, then the two heads,
-- then the device's own rows
pub record EndsByMeta (meta : MetaSaid) (at : ℤ) (before : Keeping) (outcome : Outcome) : Type 0 where
  -- if the server or the clocks do not let it go on, it ends for that reason
  pub by_clocks : (why : Outcome) → clock_stop meta (second_of at) ≡ Some why → outcome ≡ why
  -- if they do, and the device does not, it ends for that reason, or because the keeper refused to be read
  pub by_device : clock_stop meta (second_of at) ≡ None → WhereTold before (λ h. (why : Outcome) → device_stop meta h ≡ Some why
      → (outcome ≡ why) ⊎ ((fault : KeepFault) × (outcome ≡ outcome_at (keep_stop fault))))
  -- and it ends so for no other reason
  pub only : is_told_by_meta outcome ≡ true → (clock_stop meta (second_of at) ≡ Some outcome)
      ⊎ ((clock_stop meta (second_of at) ≡ None) × WhereTold before (λ h. device_stop meta h ≡ Some outcome))

-- why a sync ended that tried these after its meta, over the moment that this told
pub record EndsBecause (meta : Result Reply WireEnd) (moment : ℤ) (tries : List TriedAsk) (before : Keeping)
    (to_come_before : Option (List ℤ)) (outcome : Outcome) : Type 0 where
  -- a meta that was not granted gives none of these reasons
  pub unmet : told_by meta ≡ None → is_told_by_meta outcome ≡ false
  -- one that was granted does, by the next moment of the clock
  pub met : (said : MetaSaid) → told_by meta ≡ Some said
      → (at : ℤ) × (to_come : Option (List ℤ)) × GivesNext to_come_before to_come at × EndsByMeta said at before outcome
  -- if it asked more, its meta was granted, and it ended for none of them
  pub more : (tries ≡ []) ⊎ ((said : MetaSaid) × (told_by meta ≡ Some said) × (moment ≡ said.moment)
      × (is_told_by_meta outcome ≡ false))

-- a sync, and why it ended
pub record IsSyncEnded {kind : WireKind} (ids : Ids) (before left : Keeping) (health_before health_now : Health) (old now : WireState kind)
    (to_come_before : Option (List ℤ)) (outcome : Outcome) : Type 0 where
  pub sync : IsSync ids before left health_before health_now old now outcome
  pub because : EndsBecause sync.asked.meta sync.asked.moment sync.asked.tries before to_come_before outcome

-- ---- where it may run out of memory
-- none of these commits, so no finish is among them
abbrev pub ArePlain : List Ask → Type 0
ArePlain asks = AllByRecursion (λ (ask : Ask). asks_commit ask ≡ false) asks

-- no finish was tried; or the last call of the wire answered that it ran out of memory
abbrev pub LacksMemoryEarly : List TriedAsk → Type 0
LacksMemoryEarly tries = ArePlain (asks_in tries) ⊎ EndsUnanswered tries unanswered.Memory

-- a sync, and why it ended, over a keeper that spares memory or not. If it does, the sync runs out of memory only before it asks its finish,
-- or in a call of the wire
pub record IsSyncSparing {kind : WireKind} (spares : Bool) (ids : Ids) (before left : Keeping) (health_before health_now : Health) (old now : WireState kind)
    (to_come_before : Option (List ℤ)) (outcome : Outcome) : Type 0 where
  pub ended : IsSyncEnded ids before left health_before health_now old now to_come_before outcome
  pub memory : spares ≡ true → outcome ≡ outcomes.Memory → LacksMemoryEarly (meta_tried ended.sync.asked.meta ∷ ended.sync.asked.tries)

-- ---- what it takes of its clock
-- the moment that a clock gives once it gave so many others, and what it has still to give then
abbrev pub GivesAfter : ℕ → Option (List ℤ) → Option (List ℤ) → ℤ → Type 0
GivesAfter zero old new at = GivesNext old new at
GivesAfter (suc n) old new at =
    (mid : Option (List ℤ)) × (earlier : ℤ) × GivesNext old mid earlier × GivesAfter n mid new at

-- what a clock has still to give, once it gave this many moments
abbrev pub HasGiven : ℕ → Option (List ℤ) → Option (List ℤ) → Type 0
HasGiven zero old new = new ≡ old
HasGiven (suc n) old new = (at : ℤ) × GivesAfter n old new at

-- the fewest moments that a sync takes of its clock, by its outcome: one once its meta was granted, and another after a bad sanity check
abbrev pub fewest_moments : Outcome → ℕ
fewest_moments (outcomes.BadRow fault) = 2
fewest_moments (outcomes.BadCounts client server) = 2
fewest_moments (outcomes.Refused status word seen) = 0
fewest_moments outcomes.Lost = 0
fewest_moments outcomes.BadReply = 0
fewest_moments outcomes.Memory = 0
fewest_moments outcome = 1

-- the most: a keeper's fault, and memory that runs out, may come after a bad sanity check too
abbrev pub most_moments : Outcome → ℕ
most_moments (outcomes.BadRow fault) = 2
most_moments (outcomes.BadCounts client server) = 2
most_moments outcomes.Keep = 2
most_moments outcomes.Memory = 2
most_moments outcome = 1

-- how many moments a sync takes of its clock, once it took so many
pub record TakesMoments (earlier : ℕ) (old now : Option (List ℤ)) (outcome : Outcome) : Type 0 where
  pub count : ℕ
  pub least : fewest_moments outcome ≤ earlier + count
  pub most : earlier + count ≤ most_moments outcome
  pub given : HasGiven count old now

-- ---- what it leaves on the device
-- both moments have risen to the one that the clock gave once it gave so many others
pub record HasRaised (earlier : ℕ) (before left : Keeping) (to_come_before to_come : Option (List ℤ)) : Type 0 where
  pub at : ℤ
  pub given : GivesAfter earlier to_come_before to_come at
  pub moment : IsClockMoment at
  pub raises : RaisesMoments at before left

-- where the keeper tells both heads, the schema moment stays, and the device's last change is at its last sync
abbrev pub CommitsHead : Keeping → Keeping → Type 0
CommitsHead before left = WhereTold before (λ own. IfSome own.head (λ head.
    WhereTold left (λ h. IfSome h.head (λ now. (now.last_sync ≡ now.moment) × (now.schema ≡ head.schema)))))

-- a sync that reports finished commits such a head, with what it took; one that ended at a bad sanity check, both moments raised, to the one that the clock gave
-- once it gave so many others; any other, the device as it was
abbrev pub KeepsDevice : ℕ → Keeping → Keeping → Option (List ℤ) → Option (List ℤ) → Outcome → Type 0
KeepsDevice earlier before left to_come_before to_come outcomes.Finished = CommitsHead before left
KeepsDevice earlier before left to_come_before to_come (outcomes.BadRow fault) =
    HasRaised earlier before left to_come_before to_come
KeepsDevice earlier before left to_come_before to_come (outcomes.BadCounts client server) =
    HasRaised earlier before left to_come_before to_come
KeepsDevice earlier before left to_come_before to_come outcome = left ≡ before
