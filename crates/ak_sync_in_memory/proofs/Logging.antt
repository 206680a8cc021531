-- A logged server stands for the protocol's server after its log.
use Rattle.std.specs.List.{AllByRecursion}
use Rattle.std.specs.Option.{option_map, option_map_or}
use Rattle.std.specs.Prelude.{◌≡◌, ◌≢◌, ℕ, ℤ, if◌then◌else◌, Bool, true, false, List, [], ◌∷◌, ◌++◌, Option, Some, None, IfSome}
use Rattle.std.proofs.Common.{refl, sym, ap, subst, ◌∙◌, arith}
use Rattle.std.proofs.lemmas.List.{map-append}
use Rattle.ak_faults.proofs.Healths.{goes_nowhere}
use Rattle.ak_faults.specs.Calls.{listed_health}
use Rattle.ak_faults.specs.Causes.{GoesOn, Health, Rose}
use Rattle.ak_keep.specs.Keepers.{Keeping, all_known}
use Rattle.ak_keep.specs.MemoryKeepers.{MemoryState, health_of}
use Rattle.ak_sync_in_memory.proofs.Troubles.{keeper_is, serves_as_told}
use Rattle.ak_sync_in_memory.specs.Entries.{LoggedState, account_opened, collection_in, entry_of, event_of, events_in, server_in, server_opened, setback_of, trouble_of}
use Rattle.ak_sync_in_memory.specs.LoggedServers.{IsLogged, state_of}
use Rattle.ak_sync_in_memory.specs.declared.logs.Entry.{Entry}
use Rattle.ak_sync_in_memory.specs.declared.logs.Logged.{Logged}
use Rattle.ak_sync_in_memory.specs.declared.logs.Trouble.{Trouble}
use Rattle.ak_sync_in_memory.specs.declared.logs.Trouble.TheVariants as troubles
use Rattle.ak_merge.specs.Commits.{IsCommitted}
use Rattle.ak_messages.specs.declared.replies.Reply.{Reply}
use Rattle.ak_messages.specs.declared.requests.Request.{Request}
use Rattle.ak_openings.specs.declared.whole_collections.Opening.{Opening}
use Rattle.ak_server_rules.specs.Summaries.{account_summary}
use Rattle.ak_protocol.proofs.Cases.{not_none}
use Rattle.ak_protocol.proofs.ContentLaws.{opened_lawful, servers_stay_lawful}
use Rattle.ak_protocol.proofs.Isolation.{account_after, host_is, none_after, same_as_itself}
use Rattle.ak_protocol.proofs.Syncs.{all_append}
use Rattle.ak_protocol.specs.Accounts.{AccountState}
use Rattle.ak_protocol.specs.Kept.{HasLawfulReply}
use Rattle.ak_protocol.specs.LawfulServers.{IsLawful, IsLawfulUnder}
use Rattle.ak_protocol.specs.Logs.{Event, IsTimely, events_of, opened, server_after, server_next, world_after}
use Rattle.ak_protocol.specs.Servers.{ServerServed, ServerState, same_host, server_served}
use Rattle.ak_server.specs.Accounts.{StandsFor, account_at, account_seen}
use Rattle.ak_server.specs.Servers.{IsServedFor, ServeCause, Serves}
use Rattle.ak_server.specs.declared.accounts.Account.{Account}

abbrev pub keeping : MemoryState → Keeping
keeping keeper = all_known keeper.kept

-- how the keeper of an account is
abbrev pub health_at : Option (Account MemoryState) → Health
health_at o =
    listed_health (option_map_or (λ (a : Account MemoryState). a.keeper.faults) o 0) (option_map_or (λ (a : Account MemoryState). a.keeper.fails) o [])

-- ---- a log that grows
pub after_append : (server : ServerState) (xs ys : List Event) → server_after server (xs ++ ys) ≡ server_after (server_after server xs) ys
after_append server [] ys = refl
after_append server (x ∷ xs) ys = after_append (server_next server x) xs ys

pub events_append : (host : List ℕ) (xs ys : List Entry) → events_in host (xs ++ ys) ≡ events_in host xs ++ events_in host ys
events_append host xs ys = map-append (λ (entry : Entry). event_of host entry.what) xs ys

server_added : (host : List ℕ) (opening : Opening) (line : ℕ) (entries : List Entry) (what : Logged)
    → server_after (server_opened host opening) (events_in host (entries ++ entry_of line what ∷ []))
    ≡ server_next (server_after (server_opened host opening) (events_in host entries)) (event_of host what)
server_added host opening line entries what =
    ap (server_after (server_opened host opening)) (events_append host entries (entry_of line what ∷ []))
    ∙ after_append (server_opened host opening) (events_in host entries) (event_of host what ∷ [])

pub logged_next : (old new : List (Account MemoryState)) (host : List ℕ) (opening : Opening) (line : ℕ) (entries : List Entry) (what : Logged)
    → IsLogged old (state_of old host opening line entries) → IsTimely (event_of host what)
    → StandsFor keeping new (server_next (server_in (state_of old host opening line entries)) (event_of host what))
    → IsLogged new (state_of new host opening line (entries ++ entry_of line what ∷ []))
logged_next old new host opening line entries what was timely stands = record {
  stands = subst (StandsFor keeping new) (sym (server_added host opening line entries what)) stands;
  lawful = was.lawful;
  timely = subst (AllByRecursion IsTimely) (sym (events_append host entries (entry_of line what ∷ [])))
      (all_append IsTimely (events_in host entries) (event_of host what ∷ []) was.timely (timely, tt));
}

-- ---- the protocol's server
opened_is_lawful : (host : List ℕ) (opening : Opening) → IsCommitted (collection_in opening) → IsLawful (server_opened host opening)
opened_is_lawful host opening own other =
    elim (same_host other host) as (λ b. IfSome (if b then Some (account_opened opening) else None) (IsLawfulUnder other)) [
      | true ↦ opened_lawful other (collection_in opening) own
      | false ↦ tt
    ]

reply_is_lawful : (host : List ℕ) (o : Option AccountState) → IfSome o (IsLawfulUnder host) → IfSome o HasLawfulReply
reply_is_lawful host None own = tt
reply_is_lawful host (Some s) own = own.account.reply

pub stays_lawful : (accounts : List (Account MemoryState)) (s : LoggedState) → IsLogged accounts s → IsLawful (server_in s)
stays_lawful accounts s is =
    servers_stay_lawful (server_opened s.host s.opening) (events_in s.host s.entries) is.timely (opened_is_lawful s.host s.opening is.lawful)

replies_are_lawful : (accounts : List (Account MemoryState)) (s : LoggedState) → IsLogged accounts s → (host : List ℕ) → IfSome (server_in s host) HasLawfulReply
replies_are_lawful accounts s is host =
    reply_is_lawful host (server_in s host) (stays_lawful accounts s is host)

-- its account is there, and no other
has_account : (s : LoggedState) → (a : AccountState) × (server_in s s.host ≡ Some a)
has_account s = (
  (world_after (opened (account_opened s.opening)) (events_of s.host (events_in s.host s.entries))).state,
  account_after s.host (server_opened s.host s.opening) (opened (account_opened s.opening)) (events_in s.host s.entries)
      (ap (λ (b : Bool). if b then Some (account_opened s.opening) else None) (same_as_itself s.host)),
)

pub account_is_held : (accounts : List (Account MemoryState)) (s : LoggedState) → StandsFor keeping accounts (server_in s) → account_at s.host accounts ≡ None → ⊥
account_is_held accounts s stands none =
    let known = has_account s in
    not_none (sym (ap (option_map (account_seen keeping)) (sym none) ∙ stands.each s.host
    ∙ ap (option_map (λ (a : AccountState). Some (account_summary a))) known.1))

only_account : (accounts : List (Account MemoryState)) (s : LoggedState) (other : List ℕ) (a : Account MemoryState) → StandsFor keeping accounts (server_in s)
    → account_at other accounts ≡ Some a → other ≡ s.host
only_account accounts s other a stands found =
    elim (same_host other s.host) as (λ b. same_host other s.host ≡ b → other ≡ s.host) [
      | true ↦ λ e. host_is other s.host e
      | false ↦ λ e. absurd (not_none (ap (option_map (account_seen keeping)) (sym found) ∙ stands.each other
          ∙ ap (option_map (λ (a : AccountState). Some (account_summary a)))
          (none_after other (server_opened s.host s.opening) (events_in s.host s.entries)
          (ap (λ (b : Bool). if b then Some (account_opened s.opening) else None) e))))
    ] refl

-- ---- a request
-- the reply is the protocol's with the trouble that it tells, and the accounts stand for the server after it
pub record IsServedSo (new : List (Account MemoryState)) (server : ServerState) (request : Request) (now : ℤ) (reply : Reply) : Type 0 where
  pub reply_is : (server_served server request now (setback_of (trouble_of reply.status))).reply ≡ reply
  pub stands : StandsFor keeping new (server_served server request now (setback_of (trouble_of reply.status))).next

pub served_so : (old new : List (Account MemoryState)) (s : LoggedState) (request : Request) (now : ℤ) (reply : Reply) → IsLogged old s
    → Serves keeping old new request now reply → IsServedSo new (server_in s) request now reply
served_so old new s request now reply is serves =
    let one = serves (server_in s) is.stands in
    let same : server_served (server_in s) request now (setback_of (trouble_of reply.status)) ≡ server_served (server_in s) request now one.setback =
    ap (λ (r : Reply). server_served (server_in s) request now (setback_of (trouble_of r.status))) one.reply_is
    ∙ serves_as_told (server_in s) request now one.setback (replies_are_lawful old s is request.host.digits) in
    record {
      reply_is = ap (λ (x : ServerServed). x.reply) same ∙ sym one.reply_is;
      stands = subst (λ (x : ServerServed). StandsFor keeping new x.next) (sym same) one.stands;
    }

-- ---- causes
pub record IsToBlame (before now : Health) (trouble : Trouble) : Type 0 where
  pub goes : GoesOn before now
  pub failed : trouble ≡ troubles.Keeper → Rose before now
  pub unfailed : before.calm ≡ true → trouble ≢ troubles.Keeper

blames_nobody : (before : Health) (trouble : Trouble) → trouble ≡ troubles.Nothing → IsToBlame before before trouble
blames_nobody before trouble is = record {
  goes = goes_nowhere before;
  failed = λ keeper. absurd (grind (arith, is, keeper));
  unfailed = λ _ keeper. absurd (grind (arith, is, keeper));
}

by_cause : (a b : Account MemoryState) (reply : Reply) → ServeCause (health_of a.keeper) (health_of b.keeper) reply
    → IsToBlame (health_at (Some a)) (health_at (Some b)) (trouble_of reply.status)
by_cause a b reply cause = record {
  goes = cause.goes;
  failed = λ is. cause.failed (keeper_is reply.status is);
  unfailed = λ calm is. cause.unfailed calm (keeper_is reply.status is);
}

module _ (old new : List (Account MemoryState)) (s : LoggedState) (other : List ℕ) (reply : Reply) (stands : StandsFor keeping old (server_in s))
    (unknown : account_at other old ≡ None → new ≡ old) where
  cause_by : (before after : Option (Account MemoryState)) → account_at other old ≡ before → account_at other new ≡ after
      → IsServedFor (λ (k : MemoryState). health_of k) before after reply
      → IsToBlame (health_at (account_at s.host old)) (health_at (account_at s.host new)) (trouble_of reply.status)
  cause_by None after was now for =
      subst (λ (l : List (Account MemoryState)). IsToBlame (health_at (account_at s.host old)) (health_at (account_at s.host l)) (trouble_of reply.status))
      (sym (unknown was)) (blames_nobody (health_at (account_at s.host old)) (trouble_of reply.status) (ap (λ (r : Reply). trouble_of r.status) for))
  cause_by (Some a) None was now for = absurd for
  cause_by (Some a) (Some b) was now for =
      let here = only_account old s other a stands was in
      subst (λ (o : Option (Account MemoryState)). IsToBlame (health_at o) (health_at (account_at s.host new)) (trouble_of reply.status))
      (sym was ∙ ap (λ (h : List ℕ). account_at h old) here)
      (subst (λ (o : Option (Account MemoryState)). IsToBlame (health_at (Some a)) (health_at o) (trouble_of reply.status))
      (sym now ∙ ap (λ (h : List ℕ). account_at h new) here) (by_cause a b reply for.1))

  pub served_cause : IsServedFor (λ (k : MemoryState). health_of k) (account_at other old) (account_at other new) reply
      → IsToBlame (health_at (account_at s.host old)) (health_at (account_at s.host new)) (trouble_of reply.status)
  served_cause for = cause_by (account_at other old) (account_at other new) refl refl for
