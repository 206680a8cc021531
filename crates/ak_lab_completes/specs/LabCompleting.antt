-- When nothing hinders a sync of a lab, and how it ends then.
use Rattle.std.specs.Prelude.{◌≡◌, ◌≢◌, ◌⊎◌, ◌<◌, ◌++◌, ◌∷◌, [], ◌+ℤ◌, ℕ, true, false, List, length, Some}
use Rattle.ak_client.specs.Greetings.{are_far_apart}
use Rattle.ak_client.specs.declared.outcomes.Outcome.{Outcome}
use Rattle.ak_client.specs.declared.outcomes.Outcome.TheVariants as outcomes
use Rattle.ak_exchange.specs.Phases.{held_by}
use Rattle.ak_io.specs.declared.lines.Line.{Line}
use Rattle.ak_keep.specs.Collections.{Collection, IsWellFormed}
use Rattle.ak_keep.specs.declared.keepers.Wanted.TheVariants.{From}
use Rattle.ak_lab.specs.LabStates.{LabState}
use Rattle.ak_lab.specs.LabSyncs.{EndsSync}
use Rattle.ak_lab.specs.LineOutcomes.{EndsAs, Says}
use Rattle.ak_lab_devices.specs.Devices.{device_of}
use Rattle.ak_lab_devices.specs.declared.devices.Device.{Device}
use Rattle.ak_lab_joins.specs.LabBreaks.{HasNoBreak, StandsSo}
use Rattle.ak_lab_joins.specs.LabJoins.{DeviceHolds, Finishes, HasSession, IsLinkedLab, PlansNothing, committed_of, ends_at_check}
use Rattle.ak_lab_joins.specs.LabMishaps.{LosesNothing}
use Rattle.ak_lab_lines.specs.LabTexts.{sync_text}
use Rattle.ak_lab_lines.specs.declared.lab_lines.LabLine.TheVariants as lines
use Rattle.ak_line_runs.specs.LineRuns.{Accepted}
use Rattle.ak_merge.specs.Edits.{second_of}
use Rattle.ak_merge.specs.Holdings.{SameContent, content_of}
use Rattle.ak_merge.specs.Joins.{join}
use Rattle.ak_outcomes.specs.OutcomeTexts.{outcome_text}
use Rattle.ak_protocol.specs.Accounts.{AccountState}
use Rattle.ak_session.specs.Sessions.{HaveRoom}
use Rattle.ak_session.specs.Slices.{wanted_in_chunks}
use Rattle.ak_sync_in_memory.specs.Entries.{events_in}
use Rattle.ak_sync_in_memory.specs.declared.logs.Entry.{Entry}
use Rattle.ak_transfer_laws.specs.Completing.{EndsWith}

-- ---- before it
-- the clock of the device of this name is within 300 seconds of the server's
abbrev pub HasNearClock : List ℕ → LabState → Type 0
HasNearClock name s =
    (d : Device) → device_of name s.devices ≡ Some d → are_far_apart (second_of (s.clock +ℤ d.shift)) (second_of s.clock) ≡ false

-- no line planned anything that hinders the next sync of the device of this name, unless messages of it are to be lost: nothing is to come between
-- its calls, and no call of the device's keeper or of the server's is to fail. The clocks are within 300 seconds, and there is a session key for it
pub record GoesLeftAlone (name : List ℕ) (s : LabState) : Type 0 where
  pub room : HasSession s
  pub plans : PlansNothing name s
  pub device : HasNoBreak name s
  pub server : StandsSo false s
  pub clocks : HasNearClock name s

-- so a sync of this device begins in a lab whose devices are linked with the server. The device holds c, which is one that a keeper may hold
pub record BeginsLeftAlone (account : AccountState) (name : List ℕ) (s : LabState) (c : Collection) : Type 0 where
  pub linked : IsLinkedLab account s
  pub holds : DeviceHolds name s c
  pub formed : IsWellFormed (held_by c)
  pub goes : GoesLeftAlone name s

-- the same, and none of its messages is to be lost
pub record BeginsUnhindered (account : AccountState) (name : List ℕ) (s : LabState) (c : Collection) : Type 0 where
  pub alone : BeginsLeftAlone account name s c
  pub losses : LosesNothing name s

-- ---- after it
-- a session of a lab ended so; or memory ran out: the device's; or it was refused, and the server's memory ran out at one of the requests that came
-- meanwhile. Whether the refusal was of that request is left open
pub record LabEndsWith (wanted : Outcome) (s t : LabState) (outcome : Outcome) : Type 0 where
  pub added : List Entry
  pub entries : t.server.entries ≡ s.server.entries ++ added
  pub ends : EndsWith wanted (events_in s.server.host added) outcome

-- the same, or it was lost
abbrev pub LabEndsOrIsLost : Outcome → LabState → LabState → Outcome → Type 0
LabEndsOrIsLost wanted s t outcome = LabEndsWith wanted s t outcome ⊎ (outcome ≡ outcomes.Lost)

-- ---- its line
-- a line `sync <device>` of this number was accepted, and printed these
abbrev pub AcceptsSync : ℕ → List ℕ → LabState → LabState → List (List ℕ) → Type 0
AcceptsSync number name s t printed = (line : Line) × Says line (lines.Sync name) × EndsAs number line s t (Accepted printed)

-- what was printed is one line, which tells this outcome of a sync of the device of this name
abbrev pub PrintsSync : List ℕ → Outcome → List (List ℕ) → Type 0
PrintsSync name outcome printed = (text : List ℕ) × (outcome_text outcome ≡ Some text) × (printed ≡ sync_text name text ∷ [])

-- what was printed is one line. It tells that a sync of this device ended so; or that it was refused, and the server's memory ran out meanwhile
pub record PrintsEnd (wanted : Outcome) (name : List ℕ) (s t : LabState) (printed : List (List ℕ)) : Type 0 where
  pub outcome : Outcome
  pub prints : PrintsSync name outcome printed
  pub ends : LabEndsWith wanted s t outcome
  pub enough : outcome ≢ outcomes.Memory

-- ---- one after another
-- a sync of the device of this name, which held c, ended so in a linked lab. It did not finish, did not run out of memory, and its sanity check was not
-- bad. Nothing was planned between its calls; its messages may be lost and any keeper may fail
pub record EndedUnfinished (account : AccountState) (name : List ℕ) (c : Collection) (s t : LabState) (outcome : Outcome) : Type 0 where
  pub linked : IsLinkedLab account s
  pub held : DeviceHolds name s c
  pub room : HasSession s
  pub uncrossed : PlansNothing name s
  pub crossed : List (List ℕ)
  pub ended : EndsSync name s t crossed outcome
  pub unfinished : outcome ≢ outcomes.Finished
  pub enough : outcome ≢ outcomes.Memory
  pub checked : ends_at_check outcome ≡ false

-- what a server has committed now has c's schema moment, and room for one join more with c, if the two can be joined: neither moment is the last
-- one, nor is its usn, and fewer than 10,000,000 of its rows go to the device in chunks
pub record HasRoomOnceMore (c now : Collection) : Type 0 where
  pub schema : c.head.schema ≡ now.head.schema
  pub room : HaveRoom c now
  pub pulled : length (wanted_in_chunks (From c.head.usn) now.rows) < 10_000_000

-- a sync of the device of this name finished, and both sides hold the join of these two collections
pub record HoldsTheirJoin (account : AccountState) (name : List ℕ) (c s : Collection) (before after : LabState) : Type 0 where
  pub finishes : Finishes account name before after
  pub device : Collection
  pub holds : DeviceHolds name after device
  pub own : SameContent (content_of device) (join c s)
  pub server : SameContent (content_of (committed_of account after)) (join c s)

-- a sync of the device of this name finished, and then both sides hold the join of these two collections; or memory ran out
pub record EndsWithTheirJoin (account : AccountState) (name : List ℕ) (c s : Collection) (before after : LabState) (outcome : Outcome) : Type 0 where
  pub ends : LabEndsWith outcomes.Finished before after outcome
  pub joins : outcome ≡ outcomes.Finished → HoldsTheirJoin account name c s before after

-- the device of this name holds c, and the server has committed s
pub record SidesHold (account : AccountState) (name : List ℕ) (c s : Collection) (t : LabState) : Type 0 where
  pub device : DeviceHolds name t c
  pub server : committed_of account t ≡ s

-- a sync of the device of this name ended so, and then the two sides hold these two collections; or memory ran out
pub record EndsAndLeaves (wanted : Outcome) (account : AccountState) (name : List ℕ) (c s : Collection) (before after : LabState) (outcome : Outcome) : Type 0 where
  pub ends : LabEndsWith wanted before after outcome
  pub leaves : outcome ≡ wanted → SidesHold account name c s after
