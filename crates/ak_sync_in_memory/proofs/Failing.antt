-- A logged server with calls of its keeper that are to fail.
use Rattle.std.specs.Option.{option_map, option_map_or}
use Rattle.std.specs.Prelude.{◌≡◌, ℕ, true, false, List, [], Option, Some, None}
use Rattle.std.proofs.Common.{refl, sym, ap, subst, ◌∙◌}
use Rattle.ak_keep.specs.MemoryKeepers.{MemoryState}
use Rattle.ak_openings.specs.declared.whole_collections.Opening.{Opening}
use Rattle.ak_protocol.proofs.Isolation.{host_is}
use Rattle.ak_protocol.specs.Servers.{ServerState, same_host}
use Rattle.ak_server.specs.Accounts.{StandsFor, account_at, account_seen}
use Rattle.ak_server.specs.Servers.{OthersStay, failing_at}
use Rattle.ak_server.specs.declared.accounts.Account.{Account}
use Rattle.ak_sync_in_memory.proofs.Logging.{keeping}
use Rattle.ak_sync_in_memory.specs.Entries.{LoggedState, server_in}
use Rattle.ak_sync_in_memory.specs.LoggedServers.{IsLogged, state_of}
use Rattle.ak_sync_in_memory.specs.declared.logs.Entry.{Entry}

-- what is known of a logged server whose account is this one, if there is one
abbrev state_with : List ℕ → Opening → ℕ → List Entry → Option (Account MemoryState) → LoggedState
state_with host opening line entries o = record {
  host = host;
  opening = opening;
  line = line;
  entries = entries;
  fails = option_map_or (λ (a : Account MemoryState). a.keeper.fails) o [];
  faults = option_map_or (λ (a : Account MemoryState). a.keeper.faults) o 0;
}

seen_failing : (calls : List ℕ) (o : Option (Account MemoryState))
    → option_map (account_seen keeping) (option_map (failing_at calls) o) ≡ option_map (account_seen keeping) o
seen_failing calls None = refl
seen_failing calls (Some a) = refl

module _ (old new : List (Account MemoryState)) (host : List ℕ) (calls : List ℕ)
    (set : account_at host new ≡ option_map (failing_at calls) (account_at host old)) where
  stands_failing : (server : ServerState) → OthersStay host old new → StandsFor keeping old server → StandsFor keeping new server
  stands_failing server others stands = record {
    each = λ other. same_seen other ∙ stands.each other;
  }
    where
      same_seen : (other : List ℕ) → option_map (account_seen keeping) (account_at other new) ≡ option_map (account_seen keeping) (account_at other old)
      same_seen other =
          elim (same_host other host) as (λ b. same_host other host ≡ b
          → option_map (account_seen keeping) (account_at other new) ≡ option_map (account_seen keeping) (account_at other old)) [
            | true ↦ λ e. subst (λ (h : List ℕ). option_map (account_seen keeping) (account_at h new) ≡ option_map (account_seen keeping) (account_at h old))
                (sym (host_is other host e)) (ap (option_map (account_seen keeping)) set ∙ seen_failing calls (account_at host old))
            | false ↦ λ e. ap (option_map (account_seen keeping)) (others other e)
          ] refl

  pub logged_failing : (opening : Opening) (line : ℕ) (entries : List Entry) → OthersStay host old new → IsLogged old (state_of old host opening line entries)
      → IsLogged new (state_of new host opening line entries)
  logged_failing opening line entries others is = record {
    stands = stands_failing (server_in (state_of old host opening line entries)) others is.stands;
    lawful = is.lawful;
    timely = is.timely;
  }

  pub state_failing : (opening : Opening) (line : ℕ) (entries : List Entry) → (account_at host old ≡ None → ⊥)
      → state_of new host opening line entries ≡ record (state_of old host opening line entries) { fails = calls }
  state_failing opening line entries held =
      ap (state_with host opening line entries) set ∙ by_account (account_at host old) held
    where
      by_account : (o : Option (Account MemoryState)) → (o ≡ None → ⊥)
          → state_with host opening line entries (option_map (failing_at calls) o) ≡ record (state_with host opening line entries o) { fails = calls }
      by_account None held = absurd (held refl)
      by_account (Some a) held = refl
