-- What a session of a lab is to meet and met: losses, and no fault of the server's keeper.
use Rattle.std.specs.List.{AllByRecursion}
use Rattle.std.specs.Prelude.{◌≡◌, ◌≢◌, ℕ, true, List, [], ◌∷◌, ◌++◌, length, Some, Err, ⊤}
use Rattle.ak_client_wire.specs.Tries.{MadeCall}
use Rattle.ak_client_wire.specs.Wires.{more}
use Rattle.ak_client_wire.specs.declared.wires.WireEnd.TheVariants as ends
use Rattle.ak_faults.specs.Causes.{one_more}
use Rattle.ak_lab.specs.LabStates.{LabState}
use Rattle.ak_lab_devices.specs.Devices.{device_of}
use Rattle.ak_lab_devices.specs.declared.devices.Device.{Device}
use Rattle.ak_messages.specs.declared.requests.Request.{Request}
use Rattle.ak_sync_in_memory.specs.Entries.{LoggedState}
use Rattle.ak_sync_in_memory.specs.Mishaps.{is_lost, loses_nothing}
use Rattle.ak_sync_in_memory.specs.declared.logs.Entry.{Entry}
use Rattle.ak_sync_in_memory.specs.declared.logs.Logged.{Logged}
use Rattle.ak_sync_in_memory.specs.declared.logs.Logged.TheVariants as logged
use Rattle.ak_sync_in_memory.specs.declared.logs.Trouble.TheVariants as troubles
use Rattle.ak_sync_in_memory.specs.declared.mishaps.Mishap.{Mishap}

-- none of the messages of the next sync of the device of this name is to be lost. They may be repeated
abbrev pub LosesNothing : List ℕ → LabState → Type 0
LosesNothing name s = (d : Device) → device_of name s.devices ≡ Some d → loses_nothing d.mishaps ≡ true

-- none of them is to be lost or repeated
abbrev pub DisturbsNothing : List ℕ → LabState → Type 0
DisturbsNothing name s = (d : Device) → device_of name s.devices ≡ Some d → d.mishaps ≡ []

-- what came met no fault of the server's keeper
abbrev pub MetNoFault : Logged → Type 0
MetNoFault (logged.Served request now trouble) = trouble ≢ troubles.Keeper
MetNoFault logged.Viewed = ⊤

-- none of these met one
abbrev pub AreFaultless : List Entry → Type 0
AreFaultless entries = AllByRecursion (λ (entry : Entry). MetNoFault entry.what) entries

-- nothing of what was written down since met one
pub record MeetsNoFault (old new : LoggedState) : Type 0 where
  pub added : List Entry
  pub entries : new.entries ≡ old.entries ++ added
  pub each : AreFaultless added

-- the messages of three calls in a row are lost, of this number and of the next two
pub record LosesThree (number : ℕ) (mishaps : List Mishap) : Type 0 where
  pub first : is_lost number mishaps ≡ true
  pub second : is_lost (one_more number) mishaps ≡ true
  pub third : is_lost (one_more (one_more number)) mishaps ≡ true

-- a call with this request that got no answer
abbrev pub lost_call : Request → MadeCall
lost_call request = record { request = request; answer = Err ends.Failed }

-- the last three of these calls, counted from 0, were the tries of one request, none of which got an answer; and these mishaps lose their messages
pub record EndsInLosses (calls : List MadeCall) (mishaps : List Mishap) : Type 0 where
  pub earlier : List MadeCall
  pub request : Request
  pub tries : calls ≡ earlier ++ lost_call request ∷ lost_call request ∷ lost_call request ∷ []
  pub lost : LosesThree (more (length earlier) 0) mishaps
