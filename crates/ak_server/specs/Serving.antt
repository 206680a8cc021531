-- What one account makes of a request, step by step.
use Rattle.std.specs.Option.{option_map}
use Rattle.std.specs.Prelude.{◌≡◌, ◌≢◌, ℤ, Bool, true, false, not, Some, None, Result, IfSome, IfOk, IfErr}
use Rattle.ak_server_steps.specs.Answers.{HasNumbers}
use Rattle.ak_server_steps.specs.declared.answers.Basis.{Basis}
use Rattle.ak_keep.specs.Collections.{Collection}
use Rattle.ak_keep.specs.HeadNumbers.{numbered}
use Rattle.ak_keep.specs.Keepers.{IsNamedRightly, Keeping}
use Rattle.ak_server_rules.specs.Decisions.{refusal_of}
use Rattle.ak_server_rules.specs.Serving.{accepted}
use Rattle.ak_keep.specs.declared.keepers.KeepFault.{KeepFault}
use Rattle.ak_keep.specs.declared.keepers.KeepFault.TheVariants.{Memory}
use Rattle.ak_server_rules.specs.Sessions.{kept_seen, session_seen}
use Rattle.ak_messages.specs.declared.replies.Give.{Give}
use Rattle.ak_messages.specs.declared.replies.Give.TheVariants as gives
use Rattle.ak_messages.specs.declared.replies.Reply.{Reply}
use Rattle.ak_messages.specs.declared.requests.Request.{Request}
use Rattle.ak_server_rules.specs.Summaries.{AccountSummary}
use Rattle.ak_protocol.specs.Accounts.{given_again, is_repeat, repeated}
use Rattle.ak_server.specs.Accounts.{account_seen}
use Rattle.ak_server.specs.Servers.{DoesUndisturbed}
use Rattle.ak_server.specs.declared.accounts.Account.{Account}
use Rattle.ak_session.specs.Requests.{is_meta}

-- if the keeper tells what it holds, the account did what is remembered of it does
abbrev pub Does : {K : Type 0} → (K → Keeping) → Account K → Request → ℤ → Account K → Reply → Type 0
Does keeping old request now new reply = IfSome (account_seen keeping old) (λ s. DoesUndisturbed keeping s request now new reply)

-- a reply that is neither that of an unknown host key nor that of a setback
pub record IsDecided (reply : Reply) : Type 0 where
  pub known : reply.status ≢ 403
  pub kept : reply.status ≢ 503
  pub spared : reply.status ≢ 500

-- nothing of the account changed but what its keeper counts
pub record IsOnlyRead {K : Type 0} (keeping : K → Keeping) (old new : Account K) : Type 0 where
  pub rest : new ≡ record old { keeper = new.keeper }
  pub keeper : keeping new.keeper ≡ keeping old.keeper

-- a repeat of the request whose reply is kept, but for a download, finds that reply, and all of the account is as it was. Memory may run
-- out before
abbrev pub FindsAgain : {K T : Type 0} → (T → Reply → Type 0) → Account K → Account K → Request → Result T KeepFault → Type 0
FindsAgain finds old new request result = IfSome old.kept (λ kept. IfSome kept.reply (λ same.
    is_meta request.ask ≡ false → is_repeat (kept_seen kept) request ≡ true
    → IfOk result (λ found. finds found same × (new ≡ old)) × IfErr result (λ fault. fault ≡ Memory)))

-- the kept reply that a request repeats, if the keeper tells what it holds
abbrev pub IsGivenAgain : {K : Type 0} → (K → Keeping) → Account K → Request → Reply → Type 0
IsGivenAgain keeping old request reply = IfSome (account_seen keeping old) (λ (s : AccountSummary).
    option_map (given_again s.committed) (repeated s.kept request) ≡ Some reply)

-- a request was tested against these numbers and this live session, and no test found fault
pub record IsAccepted {K : Type 0} (keeping : K → Keeping) (old : Account K) (basis : Basis) (request : Request) : Type 0 where
  pub held : HasNumbers (keeping old.keeper) basis.numbers
  pub named : IsNamedRightly (keeping old.keeper)
  pub live : old.live ≡ Some basis.live
  pub passed : (c : Collection) (tables : Collection)
      → refusal_of (numbered basis.numbers c) (Some (session_seen tables basis.live)) request ≡ None

-- if the keeper tells what it holds, the account did what is remembered of it does with an accepted request
abbrev pub Accepts : {K : Type 0} → (K → Keeping) → Account K → Request → ℤ → Account K → Reply → Type 0
Accepts keeping old request now new reply = IfSome (account_seen keeping old) (λ (s : AccountSummary). IfSome s.live (λ live.
    let did = accepted s live request now in
    (reply ≡ did.reply) × (account_seen keeping new ≡ Some did.next)))

-- whether this is the reply to a bad sanity check
abbrev pub is_bad : Give → Bool
is_bad (gives.Sanity sanity) = not sanity.good
is_bad give = false
