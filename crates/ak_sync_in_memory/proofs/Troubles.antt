-- What the status of a reply tells of the setback of its serving.
use Rattle.std.specs.Option.{unwrap_or}
use Rattle.std.specs.Prelude.{◌≡◌, ℕ, ℤ, ◌==◌, if◌then◌else◌, Bool, true, false, Option, Some, None, IfSome}
use Rattle.std.proofs.Common.{refl, ap, subst, arith}
use Rattle.std.proofs.lemmas.Bool.{eqb-true}
use Rattle.ak_keep.specs.Collections.{Collection}
use Rattle.ak_messages.specs.declared.replies.Reply.{Reply}
use Rattle.ak_messages.specs.declared.requests.Request.{Request}
use Rattle.ak_protocol.proofs.Cases.{by_quiet}
use Rattle.ak_protocol.proofs.Replies.{commit_is_granted, reply_is_granted}
use Rattle.ak_protocol.specs.Accounts.{AccountState, KeptReply}
use Rattle.ak_protocol.specs.Kept.{HasLawfulReply, IsLawfulReply}
use Rattle.ak_protocol.specs.Replies.{Refusal, PastBase, NoSession, WrongStep, Objected, download_reply, objected, refused}
use Rattle.ak_protocol.specs.Servers.{ServerState, by_account, server_served}
use Rattle.ak_protocol.specs.Serving.{Setback, Undisturbed, KeeperFault, OutOfMemory, served}
use Rattle.ak_session.specs.Contents.{closed}
use Rattle.ak_session.specs.Objections.{Objection, MayNotCome, WrongUsn, NoNumber, TooManyRows, WrongRow, WrongNewer}
use Rattle.ak_sync_in_memory.specs.Entries.{setback_of, trouble_of}
use Rattle.ak_sync_in_memory.specs.declared.logs.Trouble.{Trouble}
use Rattle.ak_sync_in_memory.specs.declared.logs.Trouble.TheVariants as troubles

-- ---- an undisturbed serving
granted_quiet : (status : ℕ) → status ≡ 200 → trouble_of status ≡ troubles.Nothing
granted_quiet status is = ap trouble_of is

objected_quiet : (why : Objection) (last : ℕ) (usn : ℤ) → trouble_of (objected why last usn).status ≡ troubles.Nothing
objected_quiet MayNotCome last usn = refl
objected_quiet WrongUsn last usn = refl
objected_quiet NoNumber last usn = refl
objected_quiet TooManyRows last usn = refl
objected_quiet WrongRow last usn = refl
objected_quiet WrongNewer last usn = refl

refused_quiet : (why : Refusal) → trouble_of (refused why).status ≡ troubles.Nothing
refused_quiet (PastBase moment) = refl
refused_quiet NoSession = refl
refused_quiet (WrongStep last) = refl
refused_quiet (Objected why last usn) = objected_quiet why last usn

given_quiet : (committed : Collection) (reply : Option Reply) → IfSome reply (λ reply. reply.status ≡ 200)
    → trouble_of (unwrap_or reply (download_reply committed)).status ≡ troubles.Nothing
given_quiet committed None granted = refl
given_quiet committed (Some reply) granted = ap trouble_of granted

served_quiet : (s : AccountState) (request : Request) (now : ℤ) → HasLawfulReply s
    → trouble_of (served s request now Undisturbed).reply.status ≡ troubles.Nothing
served_quiet s request now lawful = by_quiet s request now (λ it. trouble_of it.reply.status ≡ troubles.Nothing) (record {
  begins = λ _. refl;
  repeats = λ kept is repeat later.
      let own : IsLawfulReply kept = subst (λ (o : Option KeptReply). IfSome o (λ kept. IsLawfulReply kept)) is lawful in
      given_quiet s.committed kept.reply own.granted;
  refuses_it = λ why. refused_quiet why;
  goes_on = λ session next none goes. granted_quiet _ (reply_is_granted s.committed session.accepted request);
  stops = λ session next none. granted_quiet _ (reply_is_granted s.committed session.accepted request);
  finishes = λ session next commits. granted_quiet _ (commit_is_granted request.ask (closed s.committed session.accepted request now).head);
})

-- ---- any serving
as_told : (o : Option AccountState) (server : ServerState) (request : Request) (now : ℤ) (setback : Setback) → IfSome o HasLawfulReply
    → by_account o server request now (setback_of (trouble_of (by_account o server request now setback).reply.status)) ≡ by_account o server request now setback
as_told None server request now setback lawful = refl
as_told (Some s) server request now KeeperFault lawful = refl
as_told (Some s) server request now OutOfMemory lawful = refl
as_told (Some s) server request now Undisturbed lawful =
    ap (λ (t : Trouble). by_account (Some s) server request now (setback_of t)) (served_quiet s request now lawful)

-- a request is served with the trouble that the status of its reply tells
pub serves_as_told : (server : ServerState) (request : Request) (now : ℤ) (setback : Setback) → IfSome (server request.host.digits) HasLawfulReply
    → server_served server request now (setback_of (trouble_of (server_served server request now setback).reply.status)) ≡ server_served server request now setback
serves_as_told server request now setback lawful = as_told (server request.host.digits) server request now setback lawful

-- ---- the status of a trouble
not_memory : troubles.Memory ≡ troubles.Keeper → ⊥
not_memory is = grind (arith, is)

not_nothing : troubles.Nothing ≡ troubles.Keeper → ⊥
not_nothing is = grind (arith, is)

pub keeper_is : (status : ℕ) → trouble_of status ≡ troubles.Keeper → status ≡ 503
keeper_is status =
    elim (status == 503) as (λ b. (status == 503) ≡ b
    → (if b then troubles.Keeper else if status == 500 then troubles.Memory else troubles.Nothing) ≡ troubles.Keeper → status ≡ 503) [
      | true ↦ λ e is. eqb-true status 503 e
      | false ↦ λ e is. absurd (other (status == 500) is)
    ] refl
  where
    other : (b : Bool) → (if b then troubles.Memory else troubles.Nothing) ≡ troubles.Keeper → ⊥
    other true is = not_memory is
    other false is = not_nothing is
