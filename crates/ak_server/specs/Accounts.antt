-- What an account in a server's memory stands for.
use Rattle.std.specs.Option.{option_map, option_map_or, option_and_then}
use Rattle.std.specs.List.{list_any, slice_get, slice_set}
use Rattle.std.specs.Prelude.{◌≡◌, ℕ, ◌*◌, ◌<◌, length, ◌<ℤ◌, Bool, true, false, find, drop, List, Option, Some, None, IfSome}
use Rattle.ak_base.specs.Limits.{last_head_usn}
use Rattle.ak_keep.specs.Collections.{Holding, Collection, collection_of}
use Rattle.ak_keep.specs.Keepers.{Keeping, is_marked, back}
use Rattle.ak_keep.specs.declared.keepers.Wanted.TheVariants.{From}
use Rattle.ak_keep.specs.Marks as marks
use Rattle.ak_keep.specs.Marks.{WithMark}
use Rattle.ak_messages.specs.MessageForms.{is_given_to}
use Rattle.ak_messages.specs.declared.methods.Method.TheVariants as methods
use Rattle.ak_messages.specs.declared.replies.Reply.{Reply}
use Rattle.ak_sync_rows.specs.Chunks.{ahead_of}
use Rattle.ak_protocol.specs.Accounts.{AccountState}
use Rattle.ak_protocol.specs.Servers.{ServerState, same_host}
use Rattle.ak_server_rules.specs.Sessions.{IsCounted, has_mark, kept_seen, session_seen}
use Rattle.ak_server_rules.specs.Summaries.{AccountSummary, account_summary}
use Rattle.ak_server.specs.declared.accounts.Account.{Account}
use Rattle.ak_server_rules.specs.declared.sessions.Kept.{Kept}
use Rattle.ak_server_rules.specs.declared.sessions.Session.{Session}
use Rattle.ak_session.specs.NextMethods.{methods_after}
use Rattle.ak_session.specs.Refusals.{has_no_next}
use Rattle.ak_session.specs.Requests.{same_method}
use Rattle.ak_session.specs.Slices.{wanted_in_chunks}

-- ---- what is seen of an account
-- the committed collection of a keeper, if it tells it: the one at the mark, while there is a mark
abbrev pub committed_in : Keeping → Option Collection
committed_in k = option_and_then (λ (w : WithMark Holding). collection_of (marks.back w).current) k.told

-- the current collection of a keeper, if it tells it
abbrev pub tables_in : Keeping → Option Collection
tables_in k = option_and_then (λ (w : WithMark Holding). collection_of w.current) k.told

-- what is remembered of an account over these collections, the committed and the current one
abbrev pub seen : Collection → Collection → Option Session → Option Kept → AccountSummary
seen committed tables live kept = record { committed = committed; live = option_map (session_seen tables) live; kept = option_map kept_seen kept }

-- what is remembered of an account, if its keeper tells what it holds
abbrev pub account_seen : {K : Type 0} → (K → Keeping) → Account K → Option AccountSummary
account_seen keeping a =
    option_and_then (λ (committed : Collection). option_map (λ (tables : Collection). seen committed tables a.live a.kept) (tables_in (keeping a.keeper)))
    (committed_in (keeping a.keeper))

-- ---- the accounts of a server
-- the account of this host key, the first of them
abbrev pub account_at : {K : Type 0} → List ℕ → List (Account K) → Option (Account K)
account_at host accounts = find (λ (a : Account _). same_host a.host.digits host) accounts

-- a place at which the account of this host key stands: one may be put there in its stead, with its name and key
pub record IsPlaceOf {K : Type 0} (host : List ℕ) (accounts : List (Account K)) (place : ℕ) : Type 0 where
  pub within : place < length accounts
  pub held : account_at host accounts ≡ slice_get accounts place
  pub set : (old new : Account K) → slice_get accounts place ≡ Some old → new.host ≡ old.host
      → account_at host (slice_set accounts place new) ≡ Some new
  pub others : (other : List ℕ) (old new : Account K) → same_host other host ≡ false → slice_get accounts place ≡ Some old
      → new.host ≡ old.host → account_at other (slice_set accounts place new) ≡ account_at other accounts

-- accounts in memory stand for a server: under each host key, what is remembered of the account is what it remembers of the protocol's
pub record StandsFor {K : Type 0} (keeping : K → Keeping) (accounts : List (Account K)) (server : ServerState) : Type 0 where
  pub each : (host : List ℕ) → option_map (account_seen keeping) (account_at host accounts) ≡ option_map (λ (s : AccountState). Some (account_summary s)) (server host)

-- ---- what holds of each account
-- whether the live session, if there is one, has started
abbrev pub is_started : Option Session → Bool
is_started None = false
is_started (Some live) = has_mark live.method

-- the keeper of an account holds a collection, now and at the mark, and is marked exactly while the session has started
pub record IsKept (k : Keeping) (live : Option Session) : Type 0 where
  pub held : k.headed.current ≡ true
  pub held_before : (back k).headed.current ≡ true
  pub marked : is_marked k ≡ is_started live

-- a session over what its keeper tells
pub record IsOver (live : Session) (committed held : Collection) : Type 0 where
  -- its tables' head has the numbers of the committed one
  pub moment : held.head.moment ≡ committed.head.moment
  pub schema : held.head.schema ≡ committed.head.schema
  pub usn : held.head.usn ≡ committed.head.usn
  pub last_sync : held.head.last_sync ≡ committed.head.last_sync
  -- once it has started there is a usn after the server's and a moment after the committed one
  pub room : has_mark live.method ≡ true → (committed.head.usn <ℤ last_head_usn) × (has_no_next committed.head.moment ≡ false)
  -- while a chunk may come, it begins where the last one ended
  pub next : list_any (same_method methods.Chunk) (methods_after live.method live.done) ≡ true
      → ahead_of (From live.least_usn) live.given held.rows ≡ drop (250 * live.chunks) (wanted_in_chunks (From live.least_usn) held.rows)

-- whether a moment is given: what a finish is given
abbrev pub gives_moment : Option Reply → Bool
gives_moment reply = option_map_or (λ (r : Reply). is_given_to methods.Finish r.give) reply false

-- a kept reply grants what was asked: it has status 200, and that to a finish gives a moment
pub record IsGranted (kept : Kept) : Type 0 where
  pub status : IfSome kept.reply (λ reply. reply.status ≡ 200)
  pub moment : same_method kept.method methods.Finish ≡ true → gives_moment kept.reply ≡ true

-- the same of the kept reply, if there is one
abbrev pub AreGranted : Option Kept → Type 0
AreGranted kept = IfSome kept IsGranted

-- what holds of each account between two requests
pub record IsRight {K : Type 0} (keeping : K → Keeping) (a : Account K) : Type 0 where
  pub keeper : IsKept (keeping a.keeper) a.live
  pub session : IfSome a.live IsCounted
  pub told : (committed held : Collection) → committed_in (keeping a.keeper) ≡ Some committed → tables_in (keeping a.keeper) ≡ Some held
      → IfSome a.live (λ live. IsOver live committed held)
  -- a kept reply grants what was asked
  pub granted : AreGranted a.kept
  -- a kept download is read again, so nothing has started since
  pub unread : IfSome a.kept (λ kept. kept.reply ≡ None → is_started a.live ≡ false)

-- the same name and host key
pub record IsSameAccount {K : Type 0} (old new : Account K) : Type 0 where
  pub name : new.name ≡ old.name
  pub host : new.host ≡ old.host
