-- Views of a logged server: they add up, they leave what is committed as it is, and page by page they give all rows.
use Rattle.std.specs.Option.{option_map}
use Rattle.std.specs.Prelude.{◌≡◌, ℕ, zero, suc, ℤ, ◌+◌, if◌then◌else◌, Bool, List, ◌∷◌, ◌++◌, replicate, Option, Some, None, Result, Ok, Err}
use Rattle.std.proofs.Common.{refl, sym, ap, subst, ◌∙◌, inl, inr, append_assoc, append-nil}
use Rattle.std.proofs.lemmas.List.{replicate-append-replicate}
use Rattle.std.proofs.lemmas.Option.{none-some, same_Some}
use Rattle.ak_base.specs.declared.names.Table.{Table}
use Rattle.ak_base.specs.declared.rows.Row.{Row}
use Rattle.ak_keep.specs.Collections.{Collection, IsPageOf, rows_past}
use Rattle.ak_keep.specs.declared.keepers.KeepFault.{KeepFault}
use Rattle.ak_keep.specs.declared.keepers.KeepFault.TheVariants as faults
use Rattle.ak_protocol.proofs.Isolation.{same_as_itself}
use Rattle.ak_protocol.specs.Accounts.{AccountState, viewed}
use Rattle.ak_protocol.specs.Logs.{Event, View, server_after, server_next}
use Rattle.ak_protocol.specs.Servers.{ServerState, by_view}
use Rattle.ak_server.specs.Servers.{ViewsRows}
use Rattle.ak_sync_in_memory.proofs.Logging.{after_append, events_append}
use Rattle.ak_sync_in_memory.specs.Copies.{IsViewed, committed_in, committed_under}
use Rattle.ak_sync_in_memory.specs.Entries.{LoggedState, entry_of, events_in, server_in, server_opened}
use Rattle.ak_sync_in_memory.specs.LoggedServers.{Adds, AddsView}
use Rattle.ak_sync_in_memory.specs.declared.logs.Entry.{Entry}
use Rattle.ak_sync_in_memory.specs.declared.logs.Logged.TheVariants as logged

-- ---- views add up
pub viewed_nothing : (s : LoggedState) → IsViewed s s
viewed_nothing s = record { views = 0; adds = ap (λ (l : List Entry). record s { entries = l }) (sym (append-nil s.entries)) }

one_view : (old new : LoggedState) → Adds old new logged.Viewed → IsViewed old new
one_view old new adds = record { views = 1; adds = adds }

pub viewed_once : {T : Type 0} (old new : LoggedState) (result : Result T KeepFault) → AddsView old new result → IsViewed old new
viewed_once old new (Ok found) adds = one_view old new adds
viewed_once old new (Err faults.Failed) adds = one_view old new adds
viewed_once old new (Err faults.Memory) (inl adds) = one_view old new adds
viewed_once old new (Err faults.Memory) (inr same) = subst (IsViewed old) (sym same) (viewed_nothing old)

pub viewed_further : (old mid new : LoggedState) → IsViewed old mid → IsViewed mid new → IsViewed old new
viewed_further old mid new one two = record {
  views = one.views + two.views;
  adds = two.adds
      ∙ ap (λ (s : LoggedState). record s { entries = s.entries ++ replicate two.views (entry_of s.line logged.Viewed); fails = new.fails; faults = new.faults }) one.adds
      ∙ ap (λ (l : List Entry). record old { entries = l; fails = new.fails; faults = new.faults })
      (append_assoc old.entries (replicate one.views (entry_of old.line logged.Viewed)) (replicate two.views (entry_of old.line logged.Viewed))
      ∙ ap (λ (l : List Entry). old.entries ++ l) (replicate-append-replicate one.views two.views (entry_of old.line logged.Viewed)));
}

-- ---- what is committed stays
views_told : (host : List ℕ) (line n : ℕ) → events_in host (replicate n (entry_of line logged.Viewed)) ≡ replicate n (View host)
views_told host line zero = refl
views_told host line (suc n) = ap (λ (events : List Event). View host ∷ events) (views_told host line n)

module _ (host : List ℕ) where
  stays_by_view : (server : ServerState) (o : Option AccountState) → server host ≡ o
      → committed_under host (by_view o host server) ≡ option_map (λ (s : AccountState). s.committed) o
  stays_by_view server None is = ap (option_map (λ (s : AccountState). s.committed)) is
  stays_by_view server (Some a) is =
      ap (λ (b : Bool). option_map (λ (s : AccountState). s.committed) (if b then Some (viewed a) else server host)) (same_as_itself host)

  stays_under : (n : ℕ) (server : ServerState) → committed_under host (server_after server (replicate n (View host))) ≡ committed_under host server
  stays_under zero server = refl
  stays_under (suc n) server = stays_under n (server_next server (View host)) ∙ stays_by_view server (server host) refl

pub collection_stays : (old new : LoggedState) → IsViewed old new → committed_in new ≡ committed_in old
collection_stays old new is =
    let opening : ServerState = server_opened old.host old.opening in
    ap committed_in is.adds
    ∙ ap (λ (events : List Event). committed_under old.host (server_after opening events))
    (events_append old.host old.entries (replicate is.views (entry_of old.line logged.Viewed))
    ∙ ap (λ (events : List Event). events_in old.host old.entries ++ events) (views_told old.host old.line is.views))
    ∙ ap (committed_under old.host) (after_append opening (events_in old.host old.entries) (replicate is.views (View old.host)))
    ∙ stays_under old.host is.views (server_after opening (events_in old.host old.entries))

-- ---- the rows of a table
pub page_viewed : (s : LoggedState) (c : Collection) (table : Table) (past : ℤ) (limit : ℕ) (page : List Row) → committed_in s ≡ Some c
    → ViewsRows table past limit (server_in s s.host) (Some page) → IsPageOf (λ past. rows_past table past c.rows) past limit page
page_viewed s c table past limit page is views = by (server_in s s.host) is views
  where
    by : (o : Option AccountState) → option_map (λ (a : AccountState). a.committed) o ≡ Some c → ViewsRows table past limit o (Some page)
        → IsPageOf (λ past. rows_past table past c.rows) past limit page
    by (Some a) is views = subst (λ (d : Collection). IsPageOf (λ past. rows_past table past d.rows) past limit page) (same_Some a.committed c is) views
    by None is views = absurd (none-some c is)
