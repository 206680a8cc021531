-- What serving a link can change, by the bytes that came on it.
use Rattle.std.specs.Prelude.{◌≡◌, ℕ, List, Option, Some, None, IfSome}
use Rattle.httparse.specs.Grammar.{RequestHead}
use Rattle.ak_http_heads.specs.Fields.{host_in}
use Rattle.ak_http_heads.specs.Heads.{IsHead, fields_of}
use Rattle.ak_keep.specs.Keepers.{Keeping}
use Rattle.ak_protocol.specs.LawfulServers.{IsLawful}
use Rattle.ak_protocol.specs.Servers.{ServerState}
use Rattle.ak_server.specs.Accounts.{StandsFor, account_at}
use Rattle.ak_server.specs.Servers.{OthersStay}
use Rattle.ak_server.specs.declared.accounts.Account.{Account}

-- the bytes begin with a head that carries this host key, once and well formed
pub record CarriesKey (bytes host : List ℕ) : Type 0 where
  pub head : RequestHead
  pub rest : List ℕ
  pub is_head : IsHead bytes head rest
  pub key : host_in (fields_of head) ≡ Some host

-- bytes that carry a host key leave every other account as it was
abbrev pub TouchesOne : {K : Type 0} → List ℕ → List (Account K) → List (Account K) → Type 0
TouchesOne bytes old new = (host : List ℕ) → CarriesKey bytes host → OthersStay host old new

-- bytes that carry no account's host key leave all accounts as they were
abbrev pub TouchesNone : {K : Type 0} → List ℕ → List (Account K) → List (Account K) → Type 0
TouchesNone bytes old new = ((host : List ℕ) → CarriesKey bytes host → account_at host old ≡ None) → new ≡ old

-- the bytes that came on a link, if it told them, touch no account but that of the key that they carry
abbrev pub IsIsolated : {K : Type 0} → Option (List ℕ) → List (Account K) → List (Account K) → Type 0
IsIsolated told old new = IfSome told (λ bytes. TouchesOne bytes old new × TouchesNone bytes old new)

-- accounts that stood for a lawful server stand for a lawful server
abbrev pub StaysLawful : {K : Type 0} → (K → Keeping) → List (Account K) → List (Account K) → Type 0
StaysLawful keeping old new = (server : ServerState) → StandsFor keeping old server → IsLawful server
    → (after : ServerState) × StandsFor keeping new after × IsLawful after
