-- What the calls of a server promise.
use Rattle.std.specs.List.{All}
use Rattle.std.specs.Option.{option_map}
use Rattle.std.specs.Prelude.{◌≡◌, ◌≢◌, ◌⊎◌, ℕ, ℤ, true, false, if◌then◌else◌, List, Option, Some, None, Result, IsOk, IfSome, ⊤}
use Rattle.ak_base.specs.declared.keys.HostKey.{HostKey}
use Rattle.ak_faults.specs.Causes.{Health, GoesOn, Rose}
use Rattle.ak_base.specs.declared.heads.Head.{Head}
use Rattle.ak_base.specs.declared.names.Table.{Table}
use Rattle.ak_base.specs.declared.rows.Row.{Row}
use Rattle.ak_server_steps.specs.Answers.{HasNumbers}
use Rattle.ak_keep.specs.Collections.{Collection, IsPageOf, rows_past}
use Rattle.ak_keep.specs.HeadNumbers.{numbered}
use Rattle.ak_keep.specs.Keepers.{Keeping, KeepCause, WhereTold, back}
use Rattle.ak_keep.specs.MemoryKeepers.{MemoryState}
use Rattle.ak_keep.specs.declared.head_numbers.Numbers.{Numbers}
use Rattle.ak_keep.specs.declared.keepers.KeepFault.{KeepFault}
use Rattle.ak_server_rules.specs.Decisions.{refusal_of}
use Rattle.ak_merge.specs.Commits.{IsCommitted}
use Rattle.ak_merge.specs.Links.{AreLinked}
use Rattle.ak_messages.specs.declared.replies.Reply.{Reply}
use Rattle.ak_messages.specs.declared.requests.Request.{Request}
use Rattle.ak_protocol.specs.Accounts.{AccountState, is_repeat}
use Rattle.ak_protocol.specs.Replies.{keeper_failed, out_of_memory, refused, unknown_key}
use Rattle.ak_protocol.specs.Commits.{HasFreshSchema}
use Rattle.ak_protocol.specs.Logs.{View, commit_by, server_next}
use Rattle.ak_protocol.specs.Servers.{ServerState, same_host, server_served, with_account}
use Rattle.ak_protocol.specs.Serving.{Setback, Undisturbed, served}
use Rattle.ak_server.specs.Accounts.{StandsFor, IsRight, IsSameAccount, account_at, account_seen, committed_in}
use Rattle.ak_server_rules.specs.Serving.{does}
use Rattle.ak_server_rules.specs.Sessions.{kept_seen, session_seen}
use Rattle.ak_server_rules.specs.Summaries.{AccountSummary, account_summary}
use Rattle.ak_server.specs.declared.accounts.Account.{Account}
use Rattle.ak_session.specs.Requests.{is_meta}

-- what holds of each account of a server
abbrev pub AreRight : {K : Type 0} → (K → Keeping) → List (Account K) → Type 0
AreRight keeping accounts = All (IsRight keeping) accounts

-- a server without accounts
abbrev pub no_accounts : ServerState
no_accounts host = None

-- the accounts of other host keys are as they were
abbrev pub OthersStay : {K : Type 0} → List ℕ → List (Account K) → List (Account K) → Type 0
OthersStay host old new = (other : List ℕ) → same_host other host ≡ false → account_at other new ≡ account_at other old

-- for each server that the accounts stood for: the reply is the protocol's with some setback, and they stand for the server after it
pub record ServesOne {K : Type 0} (keeping : K → Keeping) (new : List (Account K)) (server : ServerState) (request : Request) (now : ℤ) (reply : Reply) : Type 0 where
  pub setback : Setback
  pub reply_is : reply ≡ (server_served server request now setback).reply
  pub stands : StandsFor keeping new (server_served server request now setback).next

-- what one account is served, whatever the others tell: the protocol's reply with some setback, and its account after it
pub record ServesAccount {K : Type 0} (keeping : K → Keeping) (s : AccountState) (after : Option (Account K))
    (request : Request) (now : ℤ) (reply : Reply) : Type 0 where
  pub setback : Setback
  pub reply_is : reply ≡ (served s request now setback).reply
  pub seen : option_map (account_seen keeping) after ≡ Some (Some (account_summary (served s request now setback).next))

-- the same of each account that the one of the host key stood for
abbrev pub ServesFor : {K : Type 0} → (K → Keeping) → Option (Account K) → Option (Account K) → Request → ℤ → Reply → Type 0
ServesFor keeping before after request now reply = (s : AccountState)
    → option_map (account_seen keeping) before ≡ Some (Some (account_summary s)) → ServesAccount keeping s after request now reply

-- the same of every server that they stood for
abbrev pub Serves : {K : Type 0} → (K → Keeping) → List (Account K) → List (Account K) → Request → ℤ → Reply → Type 0
Serves keeping old new request now reply = (server : ServerState) → StandsFor keeping old server → ServesOne keeping new server request now reply

-- a keeper goes on, and a reply 503 comes only if its count of faults rose in the call. One that is known not to fail gives none
pub record ServeCause (before now : Health) (reply : Reply) : Type 0 where
  pub goes : GoesOn before now
  pub failed : reply.status ≡ 503 → Rose before now
  pub unfailed : before.calm ≡ true → reply.status ≢ 503

-- if there is an account of the host key, it keeps its name and its key, and 503 comes only if its keeper failed
abbrev pub IsServedFor : {K : Type 0} → (K → Health) → Option (Account K) → Option (Account K) → Reply → Type 0
IsServedFor health (Some before) (Some now) reply =
    IsSameAccount before now × ServeCause (health before.keeper) (health now.keeper) reply
IsServedFor health (Some before) None reply = ⊥
IsServedFor health None now reply = reply ≡ unknown_key

-- ---- replies, whatever the keeper tells
-- a request is refused by the first test that finds fault with it, over the live session and numbers that the keeper gave: each in its
-- range, and where the keeper tells what it holds those of the held head. Nothing else that is held matters
pub record IsRefusedFirst {K : Type 0} (keeping : K → Keeping) (old : Account K) (request : Request) (reply : Reply) : Type 0 where
  pub numbers : Numbers
  pub held : HasNumbers (keeping old.keeper) numbers
  pub why : (c : Collection) (tables : Collection)
      → option_map refused (refusal_of (numbered numbers c) (option_map (session_seen tables) old.live) request) ≡ Some reply

-- the reply to a request that was tested: it is granted, or refused for the first reason
abbrev pub IsTested : {K : Type 0} → (K → Keeping) → Account K → Request → Reply → Type 0
IsTested keeping old request reply = (reply.status ≡ 200) ⊎ IsRefusedFirst keeping old request reply

-- the reply of an account: if not that, the keeper failed or memory ran out
abbrev pub RepliesAs : {K : Type 0} → (K → Keeping) → Account K → Request → Reply → Type 0
RepliesAs keeping old request reply = IsTested keeping old request reply ⊎ (reply ≡ keeper_failed) ⊎ (reply ≡ out_of_memory)

-- the same, if there is an account
abbrev pub Replies : {K : Type 0} → (K → Keeping) → Option (Account K) → Request → Reply → Type 0
Replies keeping (Some old) request reply = RepliesAs keeping old request reply
Replies keeping None request reply = reply ≡ unknown_key

-- a repeat of the request whose reply is kept, but for a download, is given that reply, and all of the account is as it was, what its
-- keeper counts too: nothing was asked of it. Memory may run out before
abbrev pub GivesAgain : {K : Type 0} → Option (Account K) → Option (Account K) → Request → Reply → Type 0
GivesAgain before after request reply = IfSome before (λ (a : Account _). IfSome a.kept (λ kept. IfSome kept.reply (λ same.
    is_meta request.ask ≡ false → is_repeat (kept_seen kept) request ≡ true
    → (reply ≡ out_of_memory) ⊎ ((reply ≡ same) × (after ≡ Some a)))))

-- a session that is over after a setback: the keeper is back at what was committed, and the kept reply is the same, but that none is
-- kept after a meta
pub record IsStruck {K : Type 0} (keeping : K → Keeping) (old new : Account K) (request : Request) : Type 0 where
  pub over : new.live ≡ None
  pub committed : keeping new.keeper ≡ back (keeping old.keeper)
  pub kept : new.kept ≡ (if is_meta request.ask then None else old.kept)

-- after a reply 503 or 500 the session of the account is over so
abbrev pub StrikesOne : {K : Type 0} → (K → Keeping) → Account K → Account K → Request → Reply → Type 0
StrikesOne keeping old new request reply = (reply.status ≡ 503) ⊎ (reply.status ≡ 500) → IsStruck keeping old new request

-- the same, if there is an account
abbrev pub Strikes : {K : Type 0} → (K → Keeping) → Option (Account K) → Option (Account K) → Request → Reply → Type 0
Strikes keeping (Some old) (Some new) request reply = StrikesOne keeping old new request reply
Strikes keeping (Some old) None request reply = ⊥
Strikes keeping None new request reply = ⊤

-- ---- links
-- if the request commits, that gives no schema moment that a device has
abbrev pub CommitsFresh : Collection → AccountState → Request → ℤ → Setback → Type 0
CommitsFresh c s request now setback =
    let it = served s request now setback in
    it.is_commit ≡ true → HasFreshSchema c (commit_by request s it)

-- a device that was linked with what the account of the host key had committed is linked with what it has committed then
abbrev pub LinksStay : ServerState → Request → ℤ → Setback → Type 0
LinksStay server request now setback = (s : AccountState) (c : Collection) → server request.host.digits ≡ Some s → IsCommitted s.committed
    → AreLinked c s.committed → CommitsFresh c s request now setback
    → IfSome ((server_served server request now setback).next request.host.digits) (λ t. AreLinked c t.committed)

-- ---- accounts that are added
-- an account that was just added: it has no session and no kept reply
abbrev pub account_added : {K : Type 0} → List ℕ → HostKey → K → Account K
account_added name host keeper = record { name = name; host = host; keeper = keeper; live = None; kept = None }

-- accounts to which one was added stand for the server with it, if its keeper tells its collection
abbrev pub StandsWith : {K : Type 0} → (K → Keeping) → List (Account K) → List (Account K) → List ℕ → K → Type 0
StandsWith keeping old new host keeper = (server : ServerState) (c : Collection) → StandsFor keeping old server
    → committed_in (keeping keeper) ≡ Some c
    → StandsFor keeping new (with_account host (record { committed = c; live = None; kept = None }) server)

-- the keeper of an account that may be added holds no collection
abbrev pub IsEmpty : {K : Type 0} → (K → Keeping) → List ℕ → List (Account K) → K → Type 0
IsEmpty keeping host accounts keeper = (account_at host accounts ≡ None) × ((keeping keeper).headed.current ≡ false)

-- ---- calls that fail
-- an account of which these calls of the keeper fail from now on, counted from 0
abbrev pub failing_at : List ℕ → Account MemoryState → Account MemoryState
failing_at calls a = record a { keeper = record a.keeper { calls = 0; fails = calls } }

-- ---- views
-- the committed rows of a table with ids over `past`, by ascending id: the first of them, and None only if there is no account
abbrev pub ViewsRows : Table → ℤ → ℕ → Option AccountState → Option (List Row) → Type 0
ViewsRows table past limit (Some s) (Some page) = IsPageOf (λ past. rows_past table past s.committed.rows) past limit page
ViewsRows table past limit (Some s) None = ⊥
ViewsRows table past limit None found = found ≡ None

-- a view ends the session of the account
abbrev pub EndsOne : {K : Type 0} → (K → Keeping) → List (Account K) → List (Account K) → List ℕ → Type 0
EndsOne keeping old new host = (server : ServerState) → StandsFor keeping old server → StandsFor keeping new (server_next server (View host))

-- it gives committed rows of each server that the accounts stood for
abbrev pub GivesRows : {K : Type 0} → (K → Keeping) → List (Account K) → List ℕ → Table → ℤ → ℕ → Option (List Row) → Type 0
GivesRows keeping old host table past limit found = (server : ServerState) → StandsFor keeping old server
    → ViewsRows table past limit (server host) found

-- and the committed head
abbrev pub GivesHead : {K : Type 0} → (K → Keeping) → List (Account K) → List ℕ → Option Head → Type 0
GivesHead keeping old host found = (server : ServerState) → StandsFor keeping old server
    → found ≡ option_map (λ (s : AccountState). s.committed.head) (server host)

-- the committed rows of one account, if its keeper tells them, whatever the others tell; None only if there is no account
abbrev pub GivesOneRows : {K : Type 0} → (K → Keeping) → Option (Account K) → Table → ℤ → ℕ → Option (List Row) → Type 0
GivesOneRows keeping (Some a) table past limit (Some page) =
    WhereTold (back (keeping a.keeper)) (λ h. IsPageOf (λ past. rows_past table past h.rows) past limit page)
GivesOneRows keeping (Some a) table past limit None = ⊥
GivesOneRows keeping None table past limit found = found ≡ None

-- the committed head of one account, in the same way
abbrev pub GivesOneHead : {K : Type 0} → (K → Keeping) → Option (Account K) → Option Head → Type 0
GivesOneHead keeping (Some a) found = WhereTold (back (keeping a.keeper)) (λ h. found ≡ h.head)
GivesOneHead keeping None found = found ≡ None

-- a view leaves the account's name, key and kept reply, and is refused only if the count of faults of its keeper rose in the
-- call, or memory ran out
abbrev pub ViewCause : {K T : Type 0} → (K → Health) → Option (Account K) → Option (Account K) → Result T KeepFault → Type 0
ViewCause health (Some before) (Some now) result =
    IsSameAccount before now × (now.kept ≡ before.kept) × KeepCause (health before.keeper) (health now.keeper) result
ViewCause health (Some before) None result = ⊥
ViewCause health None now result = IsOk result

-- a view ends the session: the keeper is back at what was committed, and all else stays
pub record IsViewed {K : Type 0} (keeping : K → Keeping) (old new : Account K) : Type 0 where
  pub rest : new ≡ record old { keeper = new.keeper; live = None }
  pub keeper : keeping new.keeper ≡ back (keeping old.keeper)

-- if there is an account of the host key, it is viewed so; else there is still none
abbrev pub IsViewedAt : {K : Type 0} → (K → Keeping) → Option (Account K) → Option (Account K) → Type 0
IsViewedAt keeping (Some before) (Some now) = IsViewed keeping before now
IsViewedAt keeping (Some before) None = ⊥
IsViewedAt keeping None now = now ≡ None

-- ---- one account
-- an account does what is remembered of it does, with some setback
pub record DoesSo {K : Type 0} (keeping : K → Keeping) (s : AccountSummary) (request : Request) (now : ℤ) (new : Account K) (reply : Reply) : Type 0 where
  pub setback : Setback
  pub reply_is : reply ≡ (does s request now setback).reply
  pub seen : account_seen keeping new ≡ Some (does s request now setback).next

-- the same without a setback
pub record DoesUndisturbed {K : Type 0} (keeping : K → Keeping) (s : AccountSummary) (request : Request) (now : ℤ) (new : Account K) (reply : Reply) : Type 0 where
  pub reply_is : reply ≡ (does s request now Undisturbed).reply
  pub seen : account_seen keeping new ≡ Some (does s request now Undisturbed).next

-- the mark, if there is one, leads to what was committed, and the kept reply is the same
pub record LeavesCommitted {K : Type 0} (keeping : K → Keeping) (old new : Account K) : Type 0 where
  pub committed : back (keeping new.keeper) ≡ back (keeping old.keeper)
  pub kept : new.kept ≡ old.kept
