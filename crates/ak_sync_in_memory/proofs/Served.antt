-- A logged server once one thing more came and was written down.
use Rattle.std.specs.Option.{option_map}
use Rattle.std.specs.Prelude.{◌≡◌, ◌≢◌, ℕ, ℤ, false, is_some, List, [], ◌∷◌, ◌++◌, Option, Some, None, Result}
use Rattle.std.proofs.Common.{refl, sym, ap, subst, ◌∙◌, arith}
use Rattle.ak_base.specs.declared.heads.Head.{Head}
use Rattle.ak_base.specs.declared.names.Table.{Table}
use Rattle.ak_base.specs.declared.rows.Row.{Row}
use Rattle.ak_io.specs.Arrivals.{IsClockMoment}
use Rattle.ak_keep.specs.Keepers.{KeepCause}
use Rattle.ak_keep.specs.MemoryKeepers.{MemoryState, health_of}
use Rattle.ak_keep.specs.declared.keepers.KeepFault.{KeepFault}
use Rattle.ak_messages.specs.declared.replies.Reply.{Reply}
use Rattle.ak_messages.specs.declared.requests.Ask.TheVariants as asks
use Rattle.ak_messages.specs.declared.requests.Request.{Request}
use Rattle.ak_openings.specs.declared.whole_collections.Opening.{Opening}
use Rattle.ak_protocol.specs.Accounts.{AccountState}
use Rattle.ak_server.specs.Accounts.{account_at}
use Rattle.ak_server.specs.Servers.{EndsOne, GivesHead, GivesRows, IsServedFor, Serves, ViewCause, ViewsRows}
use Rattle.ak_server.specs.declared.accounts.Account.{Account}
use Rattle.ak_sync_in_memory.proofs.Logging.{account_is_held, health_at, keeping, logged_next, served_cause, served_so}
use Rattle.ak_sync_in_memory.specs.Entries.{LoggedState, entry_of, health_in, server_in, trouble_of}
use Rattle.ak_sync_in_memory.specs.LoggedServers.{Adds, IsLogged, IsServed, state_of}
use Rattle.ak_sync_in_memory.specs.declared.logs.Entry.{Entry}
use Rattle.ak_sync_in_memory.specs.declared.logs.Logged.{Logged}
use Rattle.ak_sync_in_memory.specs.declared.logs.Logged.TheVariants as logged

module _ (old new : List (Account MemoryState)) (host : List ℕ) (opening : Opening) (line : ℕ) (entries entries' : List Entry) where
  -- the fields are as they were, but that something more is written down
  state_adds : (what : Logged) → entries' ≡ entries ++ entry_of line what ∷ []
      → Adds (state_of old host opening line entries) (state_of new host opening line entries') what
  state_adds what written = ap (state_of new host opening line) written

  abbrev was : LoggedState
  was = state_of old host opening line entries

  -- ---- a request
  module _ (request : Request) (now : ℤ) (reply : Reply)
      (written : entries' ≡ entries ++ entry_of line (logged.Served request now (trouble_of reply.status)) ∷ []) (clock : IsClockMoment now)
      (is : IsLogged old was) (serves : Serves keeping old new request now reply) where
    pub logged_served : IsLogged new (state_of new host opening line entries')
    logged_served =
        subst (λ (l : List Entry). IsLogged new (state_of new host opening line l)) (sym written)
        (logged_next old new host opening line entries (logged.Served request now (trouble_of reply.status)) is clock
        (served_so old new was request now reply is serves).stands)

    pub is_served : (account_at request.host.digits old ≡ None → new ≡ old)
        → IsServedFor (λ (k : MemoryState). health_of k) (account_at request.host.digits old) (account_at request.host.digits new) reply
        → (request.ask ≡ asks.Finish → reply.status ≢ 500) → IsServed was (state_of new host opening line entries') request now reply
    is_served unknown for spared =
        let cause = served_cause old new was request.host.digits reply is.stands unknown for in
        record {
          trouble = trouble_of reply.status;
          told = refl;
          adds = state_adds (logged.Served request now (trouble_of reply.status)) written;
          reply_is = (served_so old new was request now reply is serves).reply_is;
          goes = cause.goes;
          failed = cause.failed;
          unfailed = cause.unfailed;
          spared = spared;
        }

  -- ---- a view
  module _ (written : entries' ≡ entries ++ entry_of line logged.Viewed ∷ []) (is : IsLogged old was) (ends : EndsOne keeping old new host) where
    pub logged_viewed : IsLogged new (state_of new host opening line entries')
    logged_viewed =
        subst (λ (l : List Entry). IsLogged new (state_of new host opening line l)) (sym written)
        (logged_next old new host opening line entries logged.Viewed is tt (ends (server_in was) is.stands))

  pub adds_viewed : entries' ≡ entries ++ entry_of line logged.Viewed ∷ [] → Adds was (state_of new host opening line entries') logged.Viewed
  adds_viewed written = state_adds logged.Viewed written

  pub rows_viewed : (table : Table) (past : ℤ) (limit : ℕ) (page : List Row) → IsLogged old was → GivesRows keeping old host table past limit (Some page)
      → ViewsRows table past limit (server_in was host) (Some page)
  rows_viewed table past limit page is gives = gives (server_in was) is.stands

  pub head_viewed : (head : Head) → IsLogged old was → GivesHead keeping old host (Some head)
      → Some head ≡ option_map (λ (s : AccountState). s.committed.head) (server_in was host)
  head_viewed head is gives = gives (server_in was) is.stands

  pub is_held : IsLogged old was → account_at host old ≡ None → ⊥
  is_held is none = account_is_held old was is.stands none

  pub none_held : {X : Type 0} (found : Option X) → found ≡ None → is_some found ≡ is_some (account_at host old) → IsLogged old was → ⊥
  none_held found none same is = is_held is (is_none (account_at host old) (sym same ∙ ap is_some none))
    where
      is_none : (o : Option (Account MemoryState)) → is_some o ≡ false → o ≡ None
      is_none None no_one = refl
      is_none (Some a) no_one = absurd (grind (arith, no_one))

  pub cause_viewed : {T : Type 0} (result : Result T KeepFault) → IsLogged old was
      → ViewCause (λ (k : MemoryState). health_of k) (account_at host old) (account_at host new) result
      → KeepCause (health_in was) (health_in (state_of new host opening line entries')) result
  cause_viewed {T = T} result is cause = by_accounts (account_at host old) (account_at host new) (is_held is) cause
    where
      by_accounts : (before after : Option (Account MemoryState)) → (before ≡ None → ⊥)
          → ViewCause {T = T} (λ (k : MemoryState). health_of k) before after result → KeepCause (health_at before) (health_at after) result
      by_accounts (Some a) (Some b) held cause = cause.2
      by_accounts (Some a) None held cause = absurd cause
      by_accounts None after held cause = absurd (held refl)
