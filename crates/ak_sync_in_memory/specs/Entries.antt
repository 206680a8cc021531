-- What a logged server wrote down, and the log that it tells.
use Rattle.std.specs.Prelude.{ℕ, ◌==◌, if◌then◌else◌, List, map, None}
use Rattle.ak_faults.specs.Calls.{listed_health}
use Rattle.ak_faults.specs.Causes.{Health}
use Rattle.ak_keep.specs.Collections.{Collection, rows_of}
use Rattle.ak_openings.specs.declared.whole_collections.Opening.{Opening}
use Rattle.ak_protocol.specs.Accounts.{AccountState}
use Rattle.ak_protocol.specs.Logs.{Event, View, Asked, Log, server_after}
use Rattle.ak_protocol.specs.Servers.{ServerState, with_account}
use Rattle.ak_protocol.specs.Serving.{Setback, Undisturbed, KeeperFault, OutOfMemory}
use Rattle.ak_server.specs.Servers.{no_accounts}
use Rattle.ak_sync_in_memory.specs.declared.logs.Entry.{Entry}
use Rattle.ak_sync_in_memory.specs.declared.logs.Logged.{Logged}
use Rattle.ak_sync_in_memory.specs.declared.logs.Logged.TheVariants as logged
use Rattle.ak_sync_in_memory.specs.declared.logs.Trouble.{Trouble}
use Rattle.ak_sync_in_memory.specs.declared.logs.Trouble.TheVariants as troubles

-- ---- entries
-- what came in between, by the status of the reply. No other reply of the protocol has one of these two: a kept one grants what was asked
abbrev pub trouble_of : ℕ → Trouble
trouble_of status =
    if status == 503 then troubles.Keeper else if status == 500 then troubles.Memory else troubles.Nothing

-- a trouble as the protocol calls it
abbrev pub setback_of : Trouble → Setback
setback_of troubles.Nothing = Undisturbed
setback_of troubles.Keeper = KeeperFault
setback_of troubles.Memory = OutOfMemory

-- the event that an entry stands for, at a server whose account has this host key
abbrev pub event_of : List ℕ → Logged → Event
event_of host (logged.Served request now trouble) = Asked request now (setback_of trouble)
event_of host logged.Viewed = View host

-- the events that these entries stand for
abbrev pub events_in : List ℕ → List Entry → List Event
events_in host entries = map (λ (entry : Entry). event_of host entry.what) entries

-- an entry of this line
abbrev pub entry_of : ℕ → Logged → Entry
entry_of line what = record { line = line; what = what }

-- ---- the server
-- a whole collection, its rows by name
abbrev pub collection_in : Opening → Collection
collection_in opening = record { rows = rows_of opening.rows; head = opening.head }

-- an account with this collection, without a session and without a kept reply
abbrev pub account_opened : Opening → AccountState
account_opened opening = record { committed = collection_in opening; live = None; kept = None }

-- a server with this one account
abbrev pub server_opened : List ℕ → Opening → ServerState
server_opened host opening = with_account host (account_opened opening) no_accounts

-- what is known of a logged server
pub record LoggedState : Type 0 where
  -- the digits of the host key of its one account
  pub host : List ℕ
  -- what the account was opened with
  pub opening : Opening
  -- the line of the entries to come
  pub line : ℕ
  -- what came
  pub entries : List Entry
  -- the calls of its keeper that are to fail, and how many failed so far. Which of them are still to come after a request is not said, but
  -- that a keeper of which none is to fail stays so
  pub fails : List ℕ
  pub faults : ℕ

-- how its keeper is
abbrev pub health_in : LoggedState → Health
health_in s = listed_health s.faults s.fails

-- a log of these events, from this opening on
abbrev pub log_with : List ℕ → Opening → List Event → Log
log_with host opening events = record { opening = server_opened host opening; events = events }

-- the log that it tells: its opening, and what came since
abbrev pub log_in : LoggedState → Log
log_in s = log_with s.host s.opening (events_in s.host s.entries)

-- the protocol's server once all of a log came
abbrev pub server_of : Log → ServerState
server_of log = server_after log.opening log.events

-- the protocol's server that it stands for
abbrev pub server_in : LoggedState → ServerState
server_in s = server_of (log_in s)
