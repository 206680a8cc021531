-- What reading all that a logged server committed makes of the server, and what it gives.
use Rattle.std.specs.Int.{int_gap}
use Rattle.std.specs.Option.{option_map}
use Rattle.std.specs.Prelude.{◌≡◌, ℕ, suc, pos, ◌^◌, ◌++◌, if◌then◌else◌, List, [], Option, replicate}
use Rattle.ak_base.specs.declared.rows.Row.{Row}
use Rattle.ak_keep.specs.Collections.{Collection, Rows, rows_past}
use Rattle.ak_protocol.specs.Accounts.{AccountState}
use Rattle.ak_protocol.specs.Servers.{ServerState}
use Rattle.ak_sync_in_memory.specs.Entries.{LoggedState, entry_of, server_in}
use Rattle.ak_sync_in_memory.specs.declared.logs.Logged.TheVariants as logged
use Rattle.ak_sync_in_memory.specs.declared.table_views.TableViews.{TableViews}

-- the collection that is committed under a host key
abbrev pub committed_under : List ℕ → ServerState → Option Collection
committed_under host server = option_map (λ (s : AccountState). s.committed) (server host)

-- the collection that the account of a logged server committed
abbrev pub committed_in : LoggedState → Option Collection
committed_in s = committed_under s.host (server_in s)

-- views of the account are written down, with the line that is set. All else stays, but for its keeper's fails and faults
pub record IsViewed (old new : LoggedState) : Type 0 where
  pub views : ℕ
  pub adds : new ≡ record old { entries = old.entries ++ replicate views (entry_of old.line logged.Viewed); fails = new.fails; faults = new.faults }

-- ---- the rows of a table, page by page
-- the rows that are still to come
abbrev pub rows_to_come : TableViews → Rows → List Row
rows_to_come views rows = if views.is_done then [] else rows_past views.past.table views.past.id rows

-- no more pages than this are to come
abbrev pub most_pages : TableViews → ℕ
most_pages views = if views.is_done then 0 else suc (int_gap views.past.id (pos (2 ^ 63)))
