-- What a user may rely on in a lab: each device stays linked with the server, so that a finished sync leaves both with the join.
use Rattle.std.specs.List.{AllByRecursion}
use Rattle.std.specs.Prelude.{◌≡◌, ◌≢◌, ◌⊎◌, ℕ, ℤ, pos, ◌+◌, ◌+ℤ◌, ◌<◌, ◌≤ℤ◌, ◌<ℤ◌, Bool, true, false, List, [], ◌∷◌, ◌++◌, length, map, Some, ⊤}
use Rattle.ak_base.specs.Limits.{last_moment}
use Rattle.ak_client.specs.declared.outcomes.Outcome.{Outcome}
use Rattle.ak_client.specs.declared.outcomes.Outcome.TheVariants as outcomes
use Rattle.ak_desk_lines.specs.LineSteps.{LinksWith}
use Rattle.ak_device.specs.Devices.{advanced_moment}
use Rattle.ak_edit.specs.Undos.{SuitsNow}
use Rattle.ak_faults.specs.Causes.{one_more}
use Rattle.ak_io.specs.declared.lines.Line.{Line}
use Rattle.ak_keep.specs.Collections.{Collection}
use Rattle.ak_lab.specs.LabRuns.{IsLabOpening}
use Rattle.ak_lab.specs.LabStates.{LabState, at_line, opened_lab}
use Rattle.ak_lab.specs.LabSyncs.{EndsSync, without_plan_for}
use Rattle.ak_lab_wires.specs.declared.lab_sessions.SessionKind.{SessionKind}
use Rattle.ak_lab_wires.specs.declared.lab_sessions.SessionKind.TheVariants as kinds
use Rattle.ak_lab.specs.LineOutcomes.{EndsAs, Says}
use Rattle.ak_lab_devices.specs.Devices.{device_of}
use Rattle.ak_lab_devices.specs.declared.devices.Device.{Device}
use Rattle.ak_lab_devices.specs.RestingKeepers.{Holds, kept_of}
use Rattle.ak_lab_wires.specs.LabSessions.{fails_after, lab_host}
use Rattle.ak_lab_wires.specs.Servings.{requests_in}
use Rattle.ak_lab_lines.specs.declared.lab_lines.Direction.{Direction}
use Rattle.ak_lab_lines.specs.declared.lab_lines.Direction.TheVariants as directions
use Rattle.ak_lab_lines.specs.declared.lab_lines.LabLine.{LabLine}
use Rattle.ak_lab_lines.specs.declared.lab_lines.LabLine.TheVariants as lines
use Rattle.ak_line_runs.specs.LineRuns.{Accepted, AllGo}
use Rattle.ak_sync_in_memory.specs.Copies.{committed_in}
use Rattle.ak_sync_in_memory.specs.Entries.{LoggedState, account_opened, log_in}
use Rattle.ak_merge.specs.Commits.{IsCopyOf, Received}
use Rattle.ak_merge.specs.Exchanges.{HoldsJoin}
use Rattle.ak_merge.specs.Holdings.{AreNamed, SameContent, content_of, row_under}
use Rattle.ak_merge.specs.Joins.{join}
use Rattle.ak_merge.specs.Links.{AreLinkedParts}
use Rattle.ak_messages.specs.declared.methods.Method.TheVariants as methods
use Rattle.ak_messages.specs.declared.requests.Request.{Request}
use Rattle.ak_openings.specs.declared.whole_collections.Opening.{Opening}
use Rattle.ak_protocol.specs.Accounts.{AccountState}
use Rattle.ak_protocol.specs.Commits.{EachNewer, HasFreshSchema, IsFinishOf}
use Rattle.ak_protocol.specs.LawfulServers.{IsLawfulAccount}
use Rattle.ak_protocol.specs.Logs.{Commit, World}
use Rattle.ak_protocol.specs.Syncs.{IsUnused, world_of}
use Rattle.ak_session.specs.Requests.{asked_method}
use Rattle.ak_transfers.specs.Transfers.{HoldsUpload}

-- ---- between two lines
-- a device holds a collection that is linked with what the server committed, and its undo list suits the one and fits the other
pub record IsLinkedDevice (committed : Collection) (d : Device) : Type 0 where
  pub c : Collection
  pub holds : d.collection ≡ kept_of c
  pub named : AreNamed (row_under c)
  pub links : LinksWith c d.undo committed
  pub suits : SuitsNow d.undo c

-- the account that a lab's server was opened with, as all that came to it left it
abbrev pub world_in : List ℕ → AccountState → LoggedState → World
world_in host account server = world_of host account (log_in server)

-- the same of a lab
abbrev pub lab_world : AccountState → LabState → World
lab_world account s = world_in lab_host account s.server

-- the server has one account, of this host key, which was opened so. Of the requests that came to it none but metas has the key of a session past
-- the last one. What it committed is what a server may hold, and gives a number over 0 in the next sync
pub record IsLinkedServer (host : List ℕ) (account : AccountState) (sessions : ℕ) (server : LoggedState) : Type 0 where
  pub host_is : server.host ≡ host
  pub unused : (key : ℕ) → sessions < key → IsUnused host key account (log_in server)
  pub lawful : IsLawfulAccount (world_in host account server).state
  pub number : pos 0 <ℤ (world_in host account server).state.committed.head.usn

-- no two of these names are one
abbrev pub AreUnlike : List (List ℕ) → Type 0
AreUnlike [] = ⊤
AreUnlike (name ∷ names) = AllByRecursion (λ (other : List ℕ). other ≢ name) names × AreUnlike names

-- the names of devices
abbrev pub device_names : List Device → List (List ℕ)
device_names devices = map (λ (d : Device). d.name) devices

-- a lab whose devices are each linked with what its server committed, and no two of which have one name
pub record IsLinkedLab (account : AccountState) (s : LabState) : Type 0 where
  pub server : IsLinkedServer lab_host account s.sessions s.server
  pub names : AreUnlike (device_names s.devices)
  pub devices : (name : List ℕ) (d : Device) → device_of name s.devices ≡ Some d
      → IsLinkedDevice (lab_world account s).state.committed d

-- another session may begin: it has a key that none had before. At the last `u64` keys would come again
abbrev pub HasSession : LabState → Type 0
HasSession s = s.sessions < 18_446_744_073_709_551_615

-- nothing is planned between the calls of the next sync of the device of this name. Its messages may be lost and repeated all the same
abbrev pub PlansNothing : List ℕ → LabState → Type 0
PlansNothing name s = (d : Device) → device_of name s.devices ≡ Some d → d.planned ≡ []

-- so it is of each device
abbrev pub HasNoPlans : LabState → Type 0
HasNoPlans s = (name : List ℕ) → PlansNothing name s

-- ---- schema moments
-- what a lab's server has committed
abbrev pub committed_of : AccountState → LabState → Collection
committed_of account s = (lab_world account s).state.committed

-- the device of this name holds this collection
abbrev pub DeviceHolds : List ℕ → LabState → Collection → Type 0
DeviceHolds name s c = (d : Device) × (device_of name s.devices ≡ Some d) × Holds d.collection c

-- a device's schema moment was c's and is this one's now: it is as it was, or is not the server's
abbrev pub IsFreshSchema : (s c now : Collection) → Type 0
IsFreshSchema s c now = (now.head.schema ≡ c.head.schema) ⊎ (now.head.schema ≢ s.head.schema)

-- so it is with the device of this name
abbrev pub HasFreshDevice : AccountState → List ℕ → LabState → LabState → Type 0
HasFreshDevice account name s t =
    (c now : Collection) → DeviceHolds name s c → DeviceHolds name t now → IsFreshSchema (committed_of account s) c now

-- the schema moment that the device of this name has now is not the server's
abbrev pub HasOtherSchema : AccountState → List ℕ → LabState → LabState → Type 0
HasOtherSchema account name s t =
    (now : Collection) → DeviceHolds name t now → now.head.schema ≢ (committed_of account s).head.schema

-- whether a sync ended at a bad sanity check
abbrev pub ends_at_check : Outcome → Bool
ends_at_check (outcomes.BadRow fault) = true
ends_at_check (outcomes.BadCounts client server) = true
ends_at_check outcome = false

-- so it is if a sync of the device ended at one
abbrev pub HasFreshCheck : AccountState → List ℕ → LabState → LabState → Outcome → Type 0
HasFreshCheck account name s t outcome = ends_at_check outcome ≡ true → HasOtherSchema account name s t

-- the schema moment of the server is as it was, or is that of no device
abbrev pub HasFreshServer : AccountState → LabState → LabState → Type 0
HasFreshServer account s t = ((committed_of account t).head.schema ≡ (committed_of account s).head.schema)
    ⊎ ((name : List ℕ) (c : Collection) → DeviceHolds name s c → c.head.schema ≢ (committed_of account t).head.schema)

-- each commit that comes leaves the server's schema moment, or takes one that no device has
abbrev pub HasFreshCommits : AccountState → LabState → LabState → Type 0
HasFreshCommits account s t =
    (name : List ℕ) (c : Collection) → DeviceHolds name s c → EachNewer (HasFreshSchema c) (lab_world account s) (lab_world account t)

-- a commit is the finish of a sync, no upload
abbrev pub IsFinish : Commit → Type 0
IsFinish commit = (came : Received) × IsFinishOf came commit.before commit.after

-- the schema moment of the server is not the last one, past which no device's can rise
abbrev pub HasEarlySchema : AccountState → LabState → Type 0
HasEarlySchema account s = (committed_of account s).head.schema <ℤ last_moment

-- a sync of the device of this name between whose calls nothing comes takes a fresh schema moment, if any
abbrev pub IsAloneFresh : AccountState → List ℕ → LabState → LabState → Type 0
IsAloneFresh account name s t = PlansNothing name s
    × ((crossed : List (List ℕ)) (outcome : Outcome) → EndsSync name s t crossed outcome → HasFreshCheck account name s t outcome)

-- nothing is uploaded meanwhile: each commit that comes is a finish. So the server's schema moment stays, and whatever a device takes is past it
abbrev pub IsLevelFresh : AccountState → LabState → LabState → Type 0
IsLevelFresh account s t = HasEarlySchema account s × EachNewer IsFinish (lab_world account s) (lab_world account t)

-- none of the requests that came to a server is an upload
abbrev pub HasNoUpload : LoggedState → Type 0
HasNoUpload server = AllByRecursion (λ (request : Request). asked_method request.ask ≢ methods.Upload) (requests_in server.entries)

-- each schema moment that a line takes is fresh. A line of the desk takes one for its device, if it changes the schema, and so does a sync whose sanity
-- check is bad. An upload takes one for the server, and so may requests that are sent again, by a line of their own or between the calls of a sync. No
-- other line takes any. Two uploads that come again in one sync could take one moment for two contents: so if anything comes between the calls of a
-- sync, no upload may be committed
abbrev pub TakesFreshSchema : AccountState → LabLine → LabState → LabState → Type 0
TakesFreshSchema account (lines.Do name text) s t = HasFreshDevice account name s t
TakesFreshSchema account (lines.Sync name) s t = IsAloneFresh account name s t ⊎ IsLevelFresh account s t
TakesFreshSchema account (lines.Resend from count) s t = HasFreshCommits account s t
TakesFreshSchema account (lines.Transfer directions.Upload name) s t = HasFreshServer account s t
TakesFreshSchema account said s t = ⊤

-- the same of the line of this number of a script, if it says anything
abbrev pub TakesFreshSchemas : AccountState → ℕ → Line → LabState → LabState → Type 0
TakesFreshSchemas account number line s t =
    (said : LabLine) → Says line said → TakesFreshSchema account said (at_line number s) t

-- lines go one after another, and each takes such schema moments
abbrev pub AllGoFresh : AccountState → ℕ → List Line → LabState → LabState → List (List ℕ) → Type 0
AllGoFresh account number [] s t printed = (t ≡ s) × (printed ≡ [])
AllGoFresh account number (line ∷ more) s t printed =
    (mid : LabState) × (first : List (List ℕ)) × (others : List (List ℕ)) × EndsAs number line s mid (Accepted first)
    × TakesFreshSchemas account number line s mid × AllGoFresh account (number + 1) more mid t others × (printed ≡ first ++ others)

-- ---- session keys
-- nothing is planned between the calls of a sync, if the line is one
abbrev pub IsUncrossed : LabLine → LabState → Type 0
IsUncrossed (lines.Sync name) s = PlansNothing name s
IsUncrossed said s = ⊤

-- lines go one after another, and nothing is planned between the calls of their syncs
abbrev pub AllGoUncrossed : ℕ → List Line → LabState → LabState → List (List ℕ) → Type 0
AllGoUncrossed number [] s t printed = (t ≡ s) × (printed ≡ [])
AllGoUncrossed number (line ∷ more) s t printed =
    (mid : LabState) × (first : List (List ℕ)) × (others : List (List ℕ)) × EndsAs number line s mid (Accepted first)
    × ((said : LabLine) → Says line said → IsUncrossed said (at_line number s)) × AllGoUncrossed (number + 1) more mid t others
    × (printed ≡ first ++ others)

-- ---- lines that upload nothing
-- a line does not upload
abbrev pub UploadsNothing : LabLine → Type 0
UploadsNothing (lines.Transfer directions.Upload name) = ⊥
UploadsNothing said = ⊤

-- the same of a line of a script
abbrev pub SaysNoUpload : Line → Type 0
SaysNoUpload line = (said : LabLine) → Says line said → UploadsNothing said

-- a line does not upload, plans nothing between the calls of a sync, and sends no request again
abbrev pub IsPlain : LabLine → Type 0
IsPlain (lines.Transfer directions.Upload name) = ⊥
IsPlain (lines.Cross name call other) = ⊥
IsPlain (lines.Replay name call from count) = ⊥
IsPlain (lines.Resend from count) = ⊥
IsPlain said = ⊤

-- a line plans nothing between the calls of a sync
abbrev pub PlansNoAct : LabLine → Type 0
PlansNoAct (lines.Cross name call other) = ⊥
PlansNoAct (lines.Replay name call from count) = ⊥
PlansNoAct said = ⊤

-- the same of a line of a script
abbrev pub SaysNoAct : Line → Type 0
SaysNoAct line = (said : LabLine) → Says line said → PlansNoAct said

-- a line of a script is plain
abbrev pub SaysPlain : Line → Type 0
SaysPlain line = (said : LabLine) → Says line said → IsPlain said

-- the schema moment of each device is at least the server's, which is not the last one. So it stays if nothing is uploaded
pub record HasOrderedSchemas (account : AccountState) (s : LabState) : Type 0 where
  pub server : (committed_of account s).head.schema <ℤ last_moment
  pub devices : (name : List ℕ) (c : Collection) → DeviceHolds name s c → (committed_of account s).head.schema ≤ℤ c.head.schema

-- lines went one after another in a lab that was opened so, and printed this: first some that upload nothing, whatever schema moments they took;
-- and then some, each of which took schema moments that no other collection has
pub record GoFresh (opening : Opening) (all : List Line) (t : LabState) (printed : List (List ℕ)) : Type 0 where
  pub front : List Line
  pub rest : List Line
  pub parts : all ≡ front ++ rest
  pub plain : AllByRecursion SaysNoUpload front
  pub mid : LabState
  pub first : List (List ℕ)
  pub later : List (List ℕ)
  pub goes : AllGo EndsAs 1 front (opened_lab opening) mid first
  pub fresh : AllGoFresh (account_opened opening) (length front + 1) rest mid t later
  pub said : printed ≡ first ++ later

-- ---- what a sync leaves
-- what a session of the device of this name leaves as it was: the clock, the other devices, and of the device its name, its clock and its
-- count of answers. There is nothing to undo then, and a sync used up what was planned for it and for the server's keeper
pub record KeepsOthers (kind : SessionKind) (name : List ℕ) (s t : LabState) : Type 0 where
  pub clock : t.clock ≡ s.clock
  pub sessions : t.sessions ≡ one_more s.sessions
  pub breaks : t.fails ≡ fails_after kind s.fails
  pub others : (other : List ℕ) → other ≢ name → device_of other t.devices ≡ device_of other s.devices
  pub d : Device
  pub made : Device
  pub was : device_of name s.devices ≡ Some d
  pub now : device_of name t.devices ≡ Some made
  pub rest : made ≡ record (without_plan_for kind d) {
    collection = made.collection;
    undo = [];
    calls = made.calls;
    fails = fails_after kind d.fails;
  }

-- the server committed once in a session: over what it had committed before, what it has committed now
abbrev pub CommitsOnceIn : ℕ → World → World → Type 0
CommitsOnceIn key before after =
    after.commits ≡ record { key = key; before = before.state.committed; after = after.state.committed } ∷ before.commits

-- the device of this name and the server hold one content then: the join of what they held before. Both have a new moment and a new number, and the
-- device is linked with the server
pub record JoinsSides (name : List ℕ) (s t : LabState) : Type 0 where
  -- what device and server held before, and what they hold now
  pub device : Collection
  pub server : Collection
  pub device_now : Collection
  pub server_now : Collection
  pub held : (d : Device) → device_of name s.devices ≡ Some d → Holds d.collection device
  pub committed : committed_in s.server ≡ Some server
  pub held_now : (d : Device) → device_of name t.devices ≡ Some d → Holds d.collection device_now
  pub committed_now : committed_in t.server ≡ Some server_now
  pub same : SameContent (content_of device_now) (content_of server_now)
  pub joined : SameContent (content_of server_now) (join device server)
  -- the moment is the server's, past both that were; and the device's last sync is at it
  pub past_device : device.head.moment <ℤ server_now.head.moment
  pub past_server : server.head.moment <ℤ server_now.head.moment
  pub moment : device_now.head.moment ≡ server_now.head.moment
  pub last_sync : device_now.head.last_sync ≡ server_now.head.moment
  -- the number of each is one more than the server's was
  pub device_number : device_now.head.usn ≡ server.head.usn +ℤ pos 1
  pub server_number : server_now.head.usn ≡ server.head.usn +ℤ pos 1
  -- and the device is linked with the server, by all six parts
  pub linked : AreLinkedParts device_now server_now

-- a sync of the device of this name finished: the two sides hold the join, the server committed once, every device is linked with it, and all else
-- is as it was, but that nothing is to undo on the device. So it is also where memory ran out for the line of the sync
pub record Finishes (account : AccountState) (name : List ℕ) (s t : LabState) : Type 0 where
  pub joins : JoinsSides name s t
  pub once : CommitsOnceIn (one_more s.sessions) (lab_world account s) (lab_world account t)
  pub linked : IsLinkedLab account t
  pub keeps : KeepsOthers kinds.Sync name s t

-- what was committed is as it was
abbrev pub KeepsCommitted : World → World → Type 0
KeepsCommitted before after =
    (after.state.committed ≡ before.state.committed) × (after.commits ≡ before.commits)

-- a device holds c, but that the moment of its last change and its schema moment have both risen to this moment: each is the greater of this one and
-- the moment after the old one, and the last moment stays
abbrev pub HasRisen : ℤ → Collection → Device → Type 0
HasRisen at c d = Holds d.collection (record c {
  head = record c.head { moment = advanced_moment at c.head.moment; schema = advanced_moment at c.head.schema };
})

-- a device that held c holds it still; after a bad sanity check its moments have risen to this one, of its clock
abbrev pub StillHolds : ℤ → Collection → Outcome → Device → Type 0
StillHolds at c (outcomes.BadRow fault) d = HasRisen at c d
StillHolds at c (outcomes.BadCounts client server) d = HasRisen at c d
StillHolds at c outcome d = Holds d.collection c

-- the server has committed what it had, or committed once in this session, over that: the join of it and a device's c
abbrev pub MayHoldJoin : ℕ → Collection → World → World → Type 0
MayHoldJoin key c before after = KeepsCommitted before after
    ⊎ CommitsOnceIn key before after × HoldsJoin c before.state.committed after.state.committed

-- a server on which a sync did not finish has committed what it had. If the last request was refused or lost, or its reply was not one that was asked for,
-- or the device's keeper failed, that may have been the finish: then it may hold the join already
abbrev pub StillCommits : ℕ → Collection → World → World → Outcome → Type 0
StillCommits key c before after (outcomes.Refused status word seen) = MayHoldJoin key c before after
StillCommits key c before after outcomes.Lost = MayHoldJoin key c before after
StillCommits key c before after outcomes.BadReply = MayHoldJoin key c before after
StillCommits key c before after outcomes.Keep = MayHoldJoin key c before after
StillCommits key c before after outcome = KeepsCommitted before after

-- a sync of the device of this name ended and did not finish. The device holds what it held and the server has committed what it had, but for
-- moments that rise and a join that is committed already. Every device is linked with the server, and all else is as it was, but that nothing is
-- to undo on the device
pub record KeepsSides (account : AccountState) (name : List ℕ) (s t : LabState) (outcome : Outcome) : Type 0 where
  pub c : Collection
  pub held : (d : Device) → device_of name s.devices ≡ Some d → Holds d.collection c
  pub device : (d : Device) → device_of name t.devices ≡ Some d → StillHolds (s.clock +ℤ d.shift) c outcome d
  pub server : StillCommits (one_more s.sessions) c (lab_world account s) (lab_world account t) outcome
  pub linked : IsLinkedLab account t
  pub keeps : KeepsOthers kinds.Sync name s t

-- the device of this name holds the content of what the server has committed
pub record Agrees (account : AccountState) (name : List ℕ) (s : LabState) : Type 0 where
  pub c : Collection
  pub held : (d : Device) → device_of name s.devices ≡ Some d → Holds d.collection c
  pub same : SameContent (content_of c) (content_of (lab_world account s).state.committed)

-- ---- what an upload and a download leave
-- the device of this name holds what the server has committed, graves and numbers too, with the last sync at its moment. It is linked with that
pub record HoldsCopy (account : AccountState) (name : List ℕ) (t : LabState) : Type 0 where
  pub device : Collection
  pub holds : DeviceHolds name t device
  pub committed : committed_in t.server ≡ Some (committed_of account t)
  pub copy : IsCopyOf (committed_of account t) device
  pub linked : AreLinkedParts device (committed_of account t)

-- an upload of the device of this name finished: the server committed once, the device's content without its graves, and the device holds that
-- collection. All devices are linked with it whose schema moment is not its own, by chance
pub record LeavesUpload (account : AccountState) (name : List ℕ) (s t : LabState) : Type 0 where
  pub c : Collection
  pub held : DeviceHolds name s c
  pub once : CommitsOnceIn (one_more s.sessions) (lab_world account s) (lab_world account t)
  pub upload : HoldsUpload c (committed_of account s) (committed_of account t)
  pub copy : HoldsCopy account name t
  pub linked : HasFreshServer account s t → IsLinkedLab account t
  pub keeps : KeepsOthers (kinds.Transfer directions.Upload) name s t
  pub calls : keeps.made.calls ≡ keeps.d.calls

-- a download of the device of this name finished: the server has committed what it had, and the device holds that
pub record LeavesDownload (account : AccountState) (name : List ℕ) (s t : LabState) : Type 0 where
  pub kept : KeepsCommitted (lab_world account s) (lab_world account t)
  pub copy : HoldsCopy account name t
  pub linked : IsLinkedLab account t
  pub keeps : KeepsOthers (kinds.Transfer directions.Download) name s t
  pub calls : keeps.made.calls ≡ keeps.d.calls

-- whether an upload that did not finish may have ended so after its request: that was refused, or its reply was no good, or memory ran out
abbrev pub may_have_uploaded : Outcome → Bool
may_have_uploaded (outcomes.Refused status word seen) = true
may_have_uploaded outcomes.BadReply = true
may_have_uploaded outcomes.Memory = true
may_have_uploaded outcome = false

-- a server has committed what it had. After an upload that ended so it may have committed once, in the session of this key: the upload of c
abbrev pub MayHoldUpload : Direction → ℕ → Collection → World → World → Outcome → Type 0
MayHoldUpload directions.Upload key c before after outcome = KeepsCommitted before after
    ⊎ (may_have_uploaded outcome ≡ true) × CommitsOnceIn key before after × HoldsUpload c before.state.committed after.state.committed
MayHoldUpload directions.Download key c before after outcome = KeepsCommitted before after

-- an upload or a download of the device of this name ended so and did not finish: the device holds what it held, and knows of no other calls
pub record KeepsTransferSides (direction : Direction) (account : AccountState) (name : List ℕ) (s t : LabState) (outcome : Outcome) : Type 0 where
  pub c : Collection
  pub held : DeviceHolds name s c
  pub holds : DeviceHolds name t c
  pub server : MayHoldUpload direction (one_more s.sessions) c (lab_world account s) (lab_world account t) outcome
  pub linked : HasFreshServer account s t → IsLinkedLab account t
  pub keeps : KeepsOthers (kinds.Transfer direction) name s t
  pub calls : keeps.made.calls ≡ keeps.d.calls

-- ---- over a script
-- the line of this number syncs the device of this name, and comes to this outcome
abbrev pub ComesTo : ℕ → List ℕ → LabState → LabState → List (List ℕ) → Outcome → Type 0
ComesTo number name s t crossed outcome = EndsSync name (at_line number s) t crossed outcome

-- the same, and a sync of the device of this name comes next. None of the lines uploads, or the sync takes a fresh schema moment too if its sanity
-- check is bad
abbrev pub SyncsFresh : Opening → List Line → List ℕ → LabState → LabState → List (List ℕ) → Outcome → Type 0
SyncsFresh opening all name s t printed outcome =
    GoFresh opening all s printed × (AllByRecursion SaysNoUpload all ⊎ HasFreshCheck (account_opened opening) name s t outcome)

-- a lab was opened and ran these lines one after another, and a sync of the device of this name came next, between whose calls nothing was
-- planned, with this outcome. There was a session key left for it
pub record RunsToSync (opening : Opening) (all : List Line) (name : List ℕ) (s t : LabState)
    (outcome : Outcome) : Type 0 where
  pub opens : IsLabOpening opening
  pub printed : List (List ℕ)
  pub goes : SyncsFresh opening all name s t printed outcome
  pub room : HasSession s
  pub plans : PlansNothing name s
  pub crossed : List (List ℕ)
  pub comes : ComesTo (length all + 1) name s t crossed outcome
