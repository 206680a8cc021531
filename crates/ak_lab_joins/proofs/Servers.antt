-- The server of a lab between two lines: when it is opened, and once it was viewed.
use Rattle.std.specs.List.{AllByRecursion}
use Rattle.std.specs.Option.{option_map}
use Rattle.std.specs.Prelude.{◌≡◌, ℕ, zero, suc, ℤ, pos, ◌<ℤ◌, Bool, if◌then◌else◌, List, [], ◌∷◌, Some, replicate}
use Rattle.std.proofs.Common.{refl, sym, ap, subst, ◌∙◌, arith}
use Rattle.std.proofs.lemmas.Int.{ints}
use Rattle.ak_base.specs.Limits.{last_moment}
use Rattle.ak_io.specs.Arrivals.{IsClockMoment}
use Rattle.ak_keep.specs.Collections.{Collection}
use Rattle.ak_lab_joins.proofs.Worlds.{IsView, StaysQuiet, quiet_after, views_are_quiet, views_of_none, world_grown}
use Rattle.ak_openings.proofs.OpeningLaws.{openings_are_lawful}
use Rattle.ak_lab_joins.specs.LabJoins.{IsLinkedServer, world_in}
use Rattle.ak_lab.specs.LabRuns.{IsLabOpening}
use Rattle.ak_lab.specs.LabSyncs.{with_fails}
use Rattle.ak_lab_wires.specs.LabSessions.{lab_host}
use Rattle.ak_sync_in_memory.proofs.Logging.{events_append}
use Rattle.ak_sync_in_memory.specs.Copies.{IsViewed, committed_in, committed_under}
use Rattle.ak_sync_in_memory.specs.Entries.{LoggedState, account_opened, collection_in, entry_of, events_in, log_in, server_of, server_opened}
use Rattle.ak_sync_in_memory.specs.LoggedServers.{begins_with}
use Rattle.ak_sync_in_memory.specs.declared.logs.Logged.TheVariants as logged
use Rattle.ak_merge.specs.Commits.{IsCommitted}
use Rattle.ak_openings.specs.declared.whole_collections.Opening.{Opening}
use Rattle.ak_protocol.proofs.ContentLaws.{lawful_stays_lawful, opened_lawful, some_of_all}
use Rattle.ak_protocol.proofs.Isolation.{logs_part, same_as_itself}
use Rattle.ak_protocol.proofs.Syncs.{events_leave_unused}
use Rattle.ak_protocol.specs.Accounts.{AccountState}
use Rattle.ak_protocol.specs.LawfulServers.{IsLawfulAccount}
use Rattle.ak_protocol.specs.Logs.{Asked, Event, IsTimely, Log, View, World, events_of, opened, with_growth, world_after}
use Rattle.ak_protocol.specs.Syncs.{IsUnused, world_of}
use Rattle.ak_server.specs.Servers.{no_accounts}

-- ---- what is committed
-- the collection that a server committed is that of its account
pub committed_is : (host : List ℕ) (account : AccountState) (sessions : ℕ) (server : LoggedState) → IsLinkedServer host account sessions server
    → committed_in server ≡ Some (world_in host account server).state.committed
committed_is host account sessions server linked =
    let log = log_in server in
    let opens : log.opening host ≡ Some account = (linked.unused (suc sessions) (omega arith)).opening in
    ap (λ (h : List ℕ). committed_under h (server_of log)) linked.host_is
    ∙ ap (option_map (λ (s : AccountState). s.committed)) (logs_part log.opening log.events host
    ∙ ap (option_map (λ (s : AccountState). (world_after (opened s) (events_of host log.events)).state)) opens)

-- which calls of its keeper are to fail is no part of what a server holds
pub fails_set : (host : List ℕ) (account : AccountState) (sessions : ℕ) (server : LoggedState) (calls : List ℕ) → IsLinkedServer host account sessions server
    → IsLinkedServer host account sessions (with_fails calls server)
fails_set host account sessions server calls linked =
    record { host_is = linked.host_is; unused = linked.unused; lawful = linked.lawful; number = linked.number }

pub fails_unset : (host : List ℕ) (account : AccountState) (sessions : ℕ) (server : LoggedState) (calls : List ℕ) → IsLinkedServer host account sessions (with_fails calls server)
    → IsLinkedServer host account sessions server
fails_unset host account sessions server calls linked =
    record { host_is = linked.host_is; unused = linked.unused; lawful = linked.lawful; number = linked.number }

-- ---- views
views_come : (host : List ℕ) (line views : ℕ) → AllByRecursion IsView (events_in host (replicate views (entry_of line logged.Viewed)))
views_come host line zero = tt
views_come host line (suc views) = (tt, views_come host line views)

-- the log grows by views
pub record GrowsByViews (old new : LoggedState) : Type 0 where
  pub host : new.host ≡ old.host
  pub growth : List Event
  pub grown : log_in new ≡ with_growth (log_in old) growth
  pub views : AllByRecursion IsView growth

pub viewed_grows : (old new : LoggedState) → IsViewed old new → GrowsByViews old new
viewed_grows old new viewed = record {
  host = ap (λ (s : LoggedState). s.host) viewed.adds;
  growth = events_in old.host (replicate viewed.views (entry_of old.line logged.Viewed));
  grown = ap log_in viewed.adds
      ∙ ap (λ (events : List Event). let log : Log = record { opening = server_opened old.host old.opening; events = events } in log)
      (events_append old.host old.entries (replicate viewed.views (entry_of old.line logged.Viewed)));
  views = views_come old.host old.line viewed.views;
}

views_are_timely : (events : List Event) → AllByRecursion IsView events → AllByRecursion IsTimely events
views_are_timely [] all = tt
views_are_timely (View host ∷ events) all = (tt, views_are_timely events all.1)
views_are_timely (Asked request now setback ∷ events) all = absurd all.0

module _ (host : List ℕ) (account : AccountState) (old new : LoggedState) (grows : GrowsByViews old new) where
  abbrev was : World
  was = world_in host account old

  abbrev is_now : World
  is_now = world_in host account new

  own_views : AllByRecursion IsView (events_of host grows.growth)
  own_views = some_of_all IsView host grows.growth grows.views

  grown_world : is_now ≡ world_after was (events_of host grows.growth)
  grown_world = ap (world_of host account) grows.grown ∙ world_grown host account (log_in old) grows.growth

  pub views_stay_quiet : StaysQuiet (world_in host account old) (world_in host account new)
  views_stay_quiet =
      subst (λ (w : World). StaysQuiet was w) (sym grown_world)
      (quiet_after was (events_of host grows.growth) (views_are_quiet (events_of host grows.growth) own_views))

  pub viewed_server : (sessions : ℕ) → IsLinkedServer host account sessions old → IsLinkedServer host account sessions new
  viewed_server sessions linked = record {
    host_is = grows.host ∙ linked.host_is;
    unused = λ key over. subst (λ (log : Log). IsUnused host key account log) (sym grows.grown)
        (events_leave_unused host key account (log_in old) (linked.unused key over) grows.growth
        (views_of_none key (events_of host grows.growth) own_views));
    lawful = subst (λ (w : World). IsLawfulAccount w.state) (sym grown_world)
        (lawful_stays_lawful was (events_of host grows.growth) (views_are_timely (events_of host grows.growth) own_views) linked.lawful);
    number = subst (λ (s : Collection). pos 0 <ℤ s.head.usn) (sym views_stay_quiet.committed) linked.number;
  }

-- ---- the server that a lab opens with
first_moment : IsClockMoment (pos 1_700_000_000_000)
first_moment = record { low = omega (arith, ints); high = omega (arith, ints) }

pub opened_server : (opening : Opening) → IsLabOpening opening → IsLinkedServer lab_host (account_opened opening) 0 (begins_with lab_host opening)
opened_server opening is =
    let holds : IsCommitted (collection_in opening) = openings_are_lawful (pos 1_700_000_000_000) opening first_moment is in
    record {
      host_is = refl;
      unused = λ key over. record {
        opening = ap (λ (b : Bool). if b then Some (account_opened opening) else no_accounts lab_host) (same_as_itself lab_host);
        fresh = record { live = tt; kept = tt; commits = refl };
        metas = tt;
      };
      lawful = (opened_lawful lab_host (collection_in opening) holds).account;
      number = one opening.head.usn is.head.usn;
    }
  where
    one : (usn : ℤ) → usn ≡ pos 1 → pos 0 <ℤ usn
    one usn is = omega (arith, ints, is)

-- its schema moment is not the last one, and there is no device
pub opened_schema : (opening : Opening) → IsLabOpening opening → opening.head.schema <ℤ last_moment
opened_schema opening is = early opening.head.schema is.head.schema
  where
    early : (schema : ℤ) → schema ≡ pos 1_700_000_000_000 → schema <ℤ last_moment
    early schema is = omega (arith, ints, is)
