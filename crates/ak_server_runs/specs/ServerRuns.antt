-- What a whole run of a server does.
use Rattle.std.specs.Prelude.{◌≡◌, ◌≢◌, ◌⊎◌, ℕ, Bool, true, false, List, [], Option}
use Rattle.clap.specs.Faults.{fault_of}
use Rattle.clap.specs.Walk.{Text}
use Rattle.ak_account_keepers.specs.OpenedAccounts.{ListsNothing, OpensPart, OpensText, Service}
use Rattle.ak_account_keepers.specs.declared.accounts.OpenFault.{OpenFault}
use Rattle.ak_account_keepers.specs.declared.accounts.OpenFault.TheVariants as opens
use Rattle.ak_links.specs.Doors.{DoorState}
use Rattle.ak_server_words.specs.Words.{Says, ankid}
use Rattle.ak_server_words.specs.declared.words.ServerWords.{ServerWords}
use Rattle.ak_server_runs.specs.ServedDoors.{ServesDoor, Views}
use Rattle.ak_server_runs.specs.declared.run_ends.RunEnd.{RunEnd}
use Rattle.ak_server_runs.specs.declared.run_ends.RunEnd.TheVariants as ends

-- what a run finds, and what it leaves: the door, the keepers to come, and the server with its clock
pub record Surroundings (L K : Type 0) : Type 0 where
  pub door : DoorState L
  pub keepers : Option (List K)
  pub service : Service K

-- the status of each end
abbrev pub status_of : RunEnd → ℕ
status_of ends.Done = 0
status_of ends.Usage = 2
status_of ends.Refused = 3
status_of ends.FileFailed = 4
status_of ends.KeeperFailed = 6
status_of ends.Memory = 8
status_of ends.DoorFailed = 9

-- how a run ends if not all accounts were opened
abbrev pub of_opening : OpenFault → RunEnd
of_opening opens.Refused = ends.Refused
of_opening opens.FileFailed = ends.FileFailed
of_opening opens.KeeperFailed = ends.KeeperFailed
of_opening opens.Memory = ends.Memory

-- all accounts of the text were opened before the door was asked for anything, and then its links were served, as many as the words say
-- at most
pub record ServesAll {L K : Type 0} (views : Views L K) (words : List Text) (text : Option (List ℕ)) (before after : Surroundings L K) (done : Bool) : Type 0 where
  pub said : ServerWords
  pub says : Says words said
  pub opened : Service K
  pub opens : OpensText views.keeping text before.keepers after.keepers before.service opened
  pub serves : ServesDoor views said.turns before.door after.door opened after.service done

-- not all accounts of the text were opened: the door was not asked for anything
pub record OpensSome {L K : Type 0} (views : Views L K) (words : List Text) (text : Option (List ℕ)) (before after : Surroundings L K) : Type 0 where
  pub taken : fault_of ankid words ≡ []
  pub door : after.door ≡ before.door
  pub opens : OpensPart views.keeping text before.keepers before.service after.service.accounts

-- what was done of a run, by its end. Words that are not taken, a text that lists no accounts, and a file that failed leave all as it was
abbrev pub RunsTo : {L K : Type 0} → Views L K → List Text → Option (List ℕ) → Surroundings L K → Surroundings L K → RunEnd → Type 0
RunsTo views words text before after ends.Done = ServesAll views words text before after true
RunsTo views words text before after ends.Usage = (fault_of ankid words ≢ []) × (after ≡ before)
RunsTo views words text before after ends.Refused = (fault_of ankid words ≡ []) × ListsNothing text × (after ≡ before)
RunsTo views words text before after ends.FileFailed = (fault_of ankid words ≡ []) × (after ≡ before)
RunsTo views words text before after ends.KeeperFailed = OpensSome views words text before after
RunsTo views words text before after ends.Memory = (after ≡ before) ⊎ OpensSome views words text before after
RunsTo views words text before after ends.DoorFailed = ServesAll views words text before after false
