-- What the outcome of a session of a lab, which its line prints, tells of what the server committed in it.
use Rattle.std.specs.List.{AllByRecursion}
use Rattle.std.specs.Prelude.{◌≡◌, ◌≢◌, ℕ, Bool, true, false, List, ◌++◌, codes, ⊤}
use Rattle.ak_client.specs.declared.outcomes.Outcome.{Outcome}
use Rattle.ak_client.specs.declared.outcomes.Outcome.TheVariants as outcomes
use Rattle.ak_lab.specs.LabStates.{LabState}
use Rattle.ak_lab_joins.specs.LabBreaks.{HasNoBreak}
use Rattle.ak_lab_joins.specs.LabJoins.{Finishes, HasSession, IsLinkedLab, KeepsCommitted, LeavesUpload, PlansNothing, lab_world}
use Rattle.ak_protocol.specs.Accounts.{AccountState}
use Rattle.ak_session.specs.Requests.{asks_commit}
use Rattle.ak_sync_in_memory.specs.Entries.{LoggedState}
use Rattle.ak_sync_in_memory.specs.declared.logs.Entry.{Entry}
use Rattle.ak_sync_in_memory.specs.declared.logs.Logged.{Logged}
use Rattle.ak_sync_in_memory.specs.declared.logs.Logged.TheVariants as logged

-- ---- by the outcome
-- a sync of the device of this name may begin in a linked lab. Nothing is planned between its calls, and no call of the device's keeper is to fail.
-- Its messages may be lost and repeated
pub record GoesUnbroken (account : AccountState) (name : List ℕ) (s : LabState) : Type 0 where
  pub linked : IsLinkedLab account s
  pub room : HasSession s
  pub plans : PlansNothing name s
  pub device : HasNoBreak name s

-- whether an outcome hides if the server committed: the last request was lost; or memory ran out, the device's or its wire's. A refusal hides nothing:
-- the server refuses no finish because it has no memory
abbrev pub hides_commit : Outcome → Bool
hides_commit outcomes.Lost = true
hides_commit outcomes.Memory = true
hides_commit outcome = false

-- a sync of the device of this name committed as its outcome tells: if it finished, both sides hold the join, which the server committed once. Else the
-- server has committed what it had
abbrev pub SyncCommitsAsTold : AccountState → List ℕ → LabState → LabState → Outcome → Type 0
SyncCommitsAsTold account name s t outcomes.Finished = Finishes account name s t
SyncCommitsAsTold account name s t outcome = KeepsCommitted (lab_world account s) (lab_world account t)

-- the same of an upload, and of the device's content without its graves
abbrev pub UploadCommitsAsTold : AccountState → List ℕ → LabState → LabState → Outcome → Type 0
UploadCommitsAsTold account name s t outcomes.Finished = LeavesUpload account name s t
UploadCommitsAsTold account name s t outcome = KeepsCommitted (lab_world account s) (lab_world account t)

-- the same of a line that printed this of a sync
pub record PrintsCommit (account : AccountState) (name : List ℕ) (s t : LabState) (text : List ℕ) : Type 0 where
  pub finished : text ≡ codes "finished" → Finishes account name s t
  pub others : text ≢ codes "finished" → KeepsCommitted (lab_world account s) (lab_world account t)

-- ---- by what was served
-- what came is no finish and no upload that was served
abbrev pub AsksNoCommit : Logged → Type 0
AsksNoCommit (logged.Served request now trouble) = asks_commit request.ask ≡ false
AsksNoCommit logged.Viewed = ⊤

-- none of what was written down since is one
pub record ServesNoCommit (old new : LoggedState) : Type 0 where
  pub added : List Entry
  pub entries : new.entries ≡ old.entries ++ added
  pub each : AllByRecursion (λ (entry : Entry). AsksNoCommit entry.what) added
