-- What the calls of a logged server promise.
use Rattle.std.specs.List.{AllByRecursion}
use Rattle.std.specs.Option.{option_map_or}
use Rattle.std.specs.Prelude.{◌≡◌, ◌≢◌, ℕ, ℤ, true, List, [], ◌∷◌, ◌++◌, None, Result, Ok, Err, ◌⊎◌}
use Rattle.ak_faults.specs.Causes.{GoesOn, Rose}
use Rattle.ak_keep.specs.Collections.{made_of}
use Rattle.ak_keep.specs.Keepers.{all_known}
use Rattle.ak_keep.specs.MemoryKeepers.{MemoryState}
use Rattle.ak_keep.specs.declared.keepers.KeepFault.{KeepFault}
use Rattle.ak_keep.specs.declared.keepers.KeepFault.TheVariants as faults
use Rattle.ak_merge.specs.Commits.{IsCommitted}
use Rattle.ak_messages.specs.declared.replies.Reply.{Reply}
use Rattle.ak_messages.specs.declared.requests.Ask.TheVariants as asks
use Rattle.ak_messages.specs.declared.requests.Request.{Request}
use Rattle.ak_openings.specs.declared.whole_collections.Opening.{Opening}
use Rattle.ak_protocol.specs.Logs.{IsTimely}
use Rattle.ak_protocol.specs.Servers.{server_served}
use Rattle.ak_server.specs.Accounts.{StandsFor, account_at}
use Rattle.ak_server.specs.declared.accounts.Account.{Account}
use Rattle.ak_sync_in_memory.specs.Entries.{LoggedState, collection_in, entry_of, events_in, health_in, server_in, setback_of, trouble_of}
use Rattle.ak_sync_in_memory.specs.declared.logs.Entry.{Entry}
use Rattle.ak_sync_in_memory.specs.declared.logs.Logged.{Logged}
use Rattle.ak_sync_in_memory.specs.declared.logs.Logged.TheVariants as logged
use Rattle.ak_sync_in_memory.specs.declared.logs.Trouble.{Trouble}
use Rattle.ak_sync_in_memory.specs.declared.logs.Trouble.TheVariants as troubles

-- ---- the struct
-- the calls of its keeper that are to fail, and how many failed so far
abbrev pub fails_at : List ℕ → List (Account MemoryState) → List ℕ
fails_at host accounts = option_map_or (λ (a : Account MemoryState). a.keeper.fails) (account_at host accounts) []

abbrev pub faults_at : List ℕ → List (Account MemoryState) → ℕ
faults_at host accounts = option_map_or (λ (a : Account MemoryState). a.keeper.faults) (account_at host accounts) 0

-- what is known of its fields
abbrev pub state_of : List (Account MemoryState) → List ℕ → Opening → ℕ → List Entry → LoggedState
state_of accounts host opening line entries = record {
  host = host;
  opening = opening;
  line = line;
  entries = entries;
  fails = fails_at host accounts;
  faults = faults_at host accounts;
}

-- its accounts stand for the protocol's server after the log, which begins with a collection that a server may hold, and whose moments
-- are those that a clock may tell
pub record IsLogged (accounts : List (Account MemoryState)) (s : LoggedState) : Type 0 where
  pub stands : StandsFor (λ (keeper : MemoryState). all_known keeper.kept) accounts (server_in s)
  pub lawful : IsCommitted (collection_in s.opening)
  pub timely : AllByRecursion IsTimely (events_in s.host s.entries)

-- a keeper that holds this collection, is not marked, and none of whose calls failed or is to fail
pub record HoldsOpening (opening : Opening) (keeper : MemoryState) : Type 0 where
  pub kept : keeper.kept ≡ record { current = made_of opening.rows opening.head; mark = None }
  pub fails : keeper.fails ≡ []
  pub faults : keeper.faults ≡ 0

-- ---- its calls
-- a logged server to which nothing came yet: no line is set, and no call of its keeper is to fail
abbrev pub begins_with : List ℕ → Opening → LoggedState
begins_with host opening = record { host = host; opening = opening; line = 0; entries = []; fails = []; faults = 0 }

-- this was written down at the end, with the line that is set. The account, its opening and the line stay
abbrev pub Adds : LoggedState → LoggedState → Logged → Type 0
Adds old new what =
    new ≡ record old { entries = old.entries ++ entry_of old.line what ∷ []; fails = new.fails; faults = new.faults }

-- a request was served and written down: the reply is the protocol's after all that had come, with the trouble that is written
pub record IsServed (old new : LoggedState) (request : Request) (now : ℤ) (reply : Reply) : Type 0 where
  pub trouble : Trouble
  pub told : trouble ≡ trouble_of reply.status
  pub adds : Adds old new (logged.Served request now trouble)
  pub reply_is : (server_served (server_in old) request now (setback_of trouble)).reply ≡ reply
  -- the keeper is at fault only if its count of faults rose, and never if it is known not to fail
  pub goes : GoesOn (health_in old) (health_in new)
  pub failed : trouble ≡ troubles.Keeper → Rose (health_in old) (health_in new)
  pub unfailed : (health_in old).calm ≡ true → trouble ≢ troubles.Keeper
  -- a finish is not refused for want of memory, if it is repeated too
  pub spared : request.ask ≡ asks.Finish → reply.status ≢ 500

-- a view is written down, also if it failed; but not if there was no memory to write it down, and then nothing was done
abbrev pub AddsView : {T : Type 0} → LoggedState → LoggedState → Result T KeepFault → Type 0
AddsView old new (Ok found) = Adds old new logged.Viewed
AddsView old new (Err faults.Failed) = Adds old new logged.Viewed
AddsView old new (Err faults.Memory) = Adds old new logged.Viewed ⊎ (new ≡ old)
