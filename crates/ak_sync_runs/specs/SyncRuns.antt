-- How the command `sync` ends: what it leaves, what it prints, and the status that it answers.
use Rattle.std.specs.Prelude.{◌≡◌, ◌≢◌, ◌⊎◌, ℕ, ℤ, ◌==◌, ◌||◌, Bool, true, false, List, [], ◌∷◌, ◌++◌, Option, Some, codes}
use Rattle.std.specs.Io.KnownBytes.{Appends, Keeps}
use Rattle.ak_base.specs.declared.keys.HostKey.{HostKey}
use Rattle.ak_client.specs.Outcomes.{HasLostThrice, ShowsRefusal}
use Rattle.ak_client.specs.Syncs.{IsCommittedIn, IsSyncFinished, IsSyncSparing, KeepsDevice, LacksMemoryEarly, MayBegin, StaysOnce, TakesMoments, meta_tried, world_at}
use Rattle.ak_client.specs.declared.outcomes.Outcome.{Outcome}
use Rattle.ak_client.specs.declared.outcomes.Outcome.TheVariants as outcomes
use Rattle.ak_client_wire.specs.Wires.{WireKind, WireState}
use Rattle.ak_exchange.specs.Asked.{asker}
use Rattle.ak_exchange.specs.Phases.{holding}
use Rattle.ak_exchange.specs.declared.envelopes.Ids.{Ids}
use Rattle.ak_faults.specs.Causes.{GoesOn, Health, Rose}
use Rattle.ak_io.specs.Arrivals.{GivesNext}
use Rattle.ak_io.specs.Scripts.{AppendsPart}
use Rattle.ak_keep.specs.Collections.{Collection}
use Rattle.ak_keep.specs.Keepers.{Keeping}
use Rattle.ak_merge.specs.Holdings.{SameContent, content_of}
use Rattle.ak_messages.specs.declared.requests.Ask.{Ask}
use Rattle.ak_outcomes.specs.OutcomeTexts.{has_fixed_text, outcome_text, outcome_status}
use Rattle.ak_protocol.specs.Accounts.{AccountState}
use Rattle.ak_protocol.specs.Commits.{EachNewer, HasFreshSchema}
use Rattle.ak_protocol.specs.Logs.{Event, Log, commits_of, with_growth}

-- ---- what is printed
-- the text is written as a line, and the status is this one; or a front of the line is, and it is 5
abbrev pub EndsPrinting : List ℕ → ℕ → ℕ → Option (List ℕ) → Option (List ℕ) → Type 0
EndsPrinting text wanted status old new =
    (status ≡ wanted) × Appends old new (text ++ 10 ∷ [])
    ⊎ (status ≡ 5) × AppendsPart old new (text ++ 10 ∷ [])

-- nothing is written, and the status is 8: memory ran out
abbrev pub EndsUntold : ℕ → Option (List ℕ) → Option (List ℕ) → Type 0
EndsUntold status old new = (status ≡ 8) × Keeps old new

-- an outcome is told by its text and its status. Memory may run out in the sync, or for its text, but never for a fixed one
abbrev pub TellsOutcome : Outcome → ℕ → Option (List ℕ) → Option (List ℕ) → Type 0
TellsOutcome outcome status old new =
    ((text : List ℕ) × (outcome_text outcome ≡ Some text)
    × EndsPrinting text (outcome_status outcome) status old new)
    ⊎ (has_fixed_text outcome ≡ false) × EndsUntold status old new

-- the statuses with which `sync` ends
abbrev pub is_sync_status : ℕ → Bool
is_sync_status status =
    (status == 0) || (status == 3) || (status == 5) || (status == 6) || (status == 7) || (status == 8)
    || (status == 10) || (status == 11) || (status == 12) || (status == 13) || (status == 14) || (status == 15)

-- the statuses of ends that come before a finish alone: another collection is needed, the sanity check was bad, the clocks are apart, or the
-- device's own check found a fault
abbrev pub is_early_status : ℕ → Bool
is_early_status status = (status == 10) || (status == 11) || (status == 12) || (status == 14)

-- a command ends with this status, that of a failed end, only if that end counted a fault, and never over a calm one
pub record HasStatusCause (code : ℕ) (before now : Health) (status : ℕ) : Type 0 where
  pub goes : GoesOn before now
  pub failed : status ≡ code → Rose before now
  pub unfailed : before.calm ≡ true → status ≢ code

-- ---- the run
-- what is known of what a sync is given: its keeper, its wire, and the moments and words of chance to come
pub record SyncOutside (kind : WireKind) : Type 0 where
  pub keeping : Keeping
  pub health : Health
  pub wire : WireState kind
  pub moments : Option (List ℤ)
  pub words : Option (List ℕ)

-- the same, by its parts
abbrev pub sync_outside : {kind : WireKind} → Keeping → Health → WireState kind → Option (List ℤ) → Option (List ℕ) → SyncOutside kind
sync_outside keeping health wire moments words =
    record { keeping = keeping; health = health; wire = wire; moments = moments; words = words }

-- who syncs: the account of the host key, in a session whose key is a word of chance
abbrev pub ids_of : HostKey → ℕ → Ids
ids_of host word = record { host = host; session = record { 0 = word } }

-- one sync ran, over a keeper that spares memory or not, in a session whose key is the next word of chance, and its outcome was told.
-- Whatever the status, device and server are as that outcome leaves them
pub record IsSyncRun {kind : WireKind} (spares : Bool) (host : HostKey) (status : ℕ) (before after : SyncOutside kind) (old new : Option (List ℕ)) : Type 0 where
  pub word : ℕ
  pub outcome : Outcome
  pub drawn : GivesNext before.words after.words word
  -- what it asked, what that made of the log and left on the device, why it ended, and where it may have run out of memory
  pub sparing : IsSyncSparing spares (ids_of host word) before.keeping after.keeping before.health after.health before.wire after.wire
      before.moments outcome
  pub thrice : HasLostThrice before.health after.health before.wire.silence after.wire.silence outcome
  pub shown : ShowsRefusal before.wire.reading after.wire.reading after.wire.said outcome
  pub device : KeepsDevice 1 before.keeping after.keeping before.moments after.moments outcome
  pub clock : TakesMoments 0 before.moments after.moments outcome
  pub told : TellsOutcome outcome status old new

-- the same, by whether a collection is held. If none is, `no collection` is printed, and the status is 3. Memory may run out before
-- anything is asked
abbrev pub EndsSyncOn : {kind : WireKind} → Bool → Bool → HostKey → ℕ → SyncOutside kind → SyncOutside kind → Option (List ℕ) → Option (List ℕ) → Type 0
EndsSyncOn spares true host status before after old new =
    IsSyncRun spares host status before after old new ⊎ (after ≡ before) × EndsUntold status old new
EndsSyncOn spares false host status before after old new =
    (after ≡ before) × EndsPrinting (codes "no collection") 3 status old new

-- how `sync` ends for the account of this host key, over a keeper that spares memory or not
abbrev pub EndsSync : {kind : WireKind} → Bool → HostKey → ℕ → SyncOutside kind → SyncOutside kind → Option (List ℕ) → Option (List ℕ) → Type 0
EndsSync spares host status before after old new =
    EndsSyncOn spares before.keeping.headed.current host status before after old new

-- ---- what `finished` means
-- where the keeper told a collection with which this sync could begin, and the wire a log, and no upload in between gave just the device's
-- schema moment: the session committed once. Device and commit hold the join of what both held. If nothing else used
-- the wire, that was over what was committed before the sync, and is what is committed after it
abbrev pub HasFinished : {kind : WireKind} → Ids → SyncOutside kind → SyncOutside kind → Type 0
HasFinished ids before after = let who = asker ids in (c : Collection) (account : AccountState) (log : Log)
    → before.keeping ≡ holding c → before.wire.log ≡ Some log → MayBegin who c account log
    → (now : Log) × (after.wire.log ≡ Some now)
    × (EachNewer (HasFreshSchema c) (world_at who account log) (world_at who account now)
    → (base : Collection) × (it : IsSyncFinished who c base account now after.keeping)
    × (before.wire.alone ≡ true → (base ≡ (world_at who account log).state.committed)
    × (it.after ≡ (world_at who account now).state.committed)))

-- a sync of the session whose key was the next word of chance has finished
abbrev pub FinishesNext : {kind : WireKind} → HostKey → SyncOutside kind → SyncOutside kind → Type 0
FinishesNext host before after =
    (word : ℕ) × GivesNext before.words after.words word × HasFinished (ids_of host word) before after

-- ---- what `no changes` means
-- under the same premises: the device holds the content of what was committed at some moment of the sync
abbrev pub HasAgreed : {kind : WireKind} → Ids → SyncOutside kind → SyncOutside kind → Type 0
HasAgreed ids before after = let who = asker ids in (c : Collection) (account : AccountState) (log : Log)
    → before.keeping ≡ holding c → before.wire.log ≡ Some log → MayBegin who c account log
    → (now : Log) × (after.wire.log ≡ Some now)
    × (EachNewer (HasFreshSchema c) (world_at who account log) (world_at who account now)
    → (growth : List Event) × (now ≡ with_growth log growth)
    × (base : Collection) × IsCommittedIn who account log growth base × SameContent (content_of c) (content_of base))

-- a sync of the session whose key was the next word of chance has agreed
abbrev pub AgreesNext : {kind : WireKind} → HostKey → SyncOutside kind → SyncOutside kind → Type 0
AgreesNext host before after =
    (word : ℕ) × GivesNext before.words after.words word × HasAgreed (ids_of host word) before after

-- ---- what any end leaves on the server
-- under the same premises, however the sync ended: the session committed at most once, the join of the device and what was committed at some
-- moment of the sync; so it is in any later log in which nothing but metas and what this sync asked has its key. It committed nothing where
-- its status tells an end before its finish
abbrev pub CommitsOnce : {kind : WireKind} → Ids → ℕ → SyncOutside kind → SyncOutside kind → Type 0
CommitsOnce ids status before after = let who = asker ids in (c : Collection) (account : AccountState) (log : Log)
    → before.keeping ≡ holding c → before.wire.log ≡ Some log → MayBegin who c account log
    → (now : Log) × (after.wire.log ≡ Some now)
    × (EachNewer (HasFreshSchema c) (world_at who account log) (world_at who account now)
    → (growth : List Event) × (base : Collection) × (moment : ℤ) × (asks : List Ask) × (now ≡ with_growth log growth)
    × ((asks ≡ []) ⊎ IsCommittedIn who account log growth base) × StaysOnce who c base moment asks account now
    × (is_early_status status ≡ true → commits_of who.session.0 (world_at who account now).commits ≡ []))

-- the same of the session whose key was the next word of chance; or nothing was asked
abbrev pub CommitsNextOnce : {kind : WireKind} → HostKey → ℕ → SyncOutside kind → SyncOutside kind → Type 0
CommitsNextOnce host status before after = (after ≡ before)
    ⊎ ((word : ℕ) × GivesNext before.words after.words word × CommitsOnce (ids_of host word) status before after)

-- ---- what status 8 means
-- over a keeper that spares memory: the sync ran out of memory before it asked its finish, or in the last call of its wire, which answered so;
-- or it ended for another reason, whose text has to be made, and memory ran out for the text
abbrev pub HasRunOutEarly : {kind : WireKind} → Ids → SyncOutside kind → SyncOutside kind → Type 0
HasRunOutEarly ids before after = (outcome : Outcome)
    × (sparing : IsSyncSparing true ids before.keeping after.keeping before.health after.health before.wire after.wire
    before.moments outcome)
    × (((outcome ≡ outcomes.Memory) × LacksMemoryEarly (meta_tried sparing.ended.sync.asked.meta ∷ sparing.ended.sync.asked.tries))
    ⊎ ((text : List ℕ) × (outcome_text outcome ≡ Some text) × (has_fixed_text outcome ≡ false)))

-- a sync of the session whose key was the next word of chance ended so; or nothing was asked
abbrev pub RunsOutNextEarly : {kind : WireKind} → HostKey → SyncOutside kind → SyncOutside kind → Type 0
RunsOutNextEarly host before after = (after ≡ before)
    ⊎ ((word : ℕ) × GivesNext before.words after.words word × HasRunOutEarly (ids_of host word) before after)
