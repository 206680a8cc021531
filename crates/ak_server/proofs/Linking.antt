-- Devices stay linked with the accounts of a server.
use Rattle.std.specs.Prelude.{◌≡◌, ℤ, if◌then◌else◌, Bool, Option, Some, IfSome}
use Rattle.std.proofs.Common.{sym, ap, subst, ◌∙◌}
use Rattle.ak_merge.specs.Links.{AreLinked}
use Rattle.ak_messages.specs.declared.requests.Request.{Request}
use Rattle.ak_protocol.proofs.ContentLaws.{links_stay_served}
use Rattle.ak_protocol.proofs.Isolation.{same_as_itself}
use Rattle.ak_protocol.specs.Accounts.{AccountState}
use Rattle.ak_protocol.specs.Servers.{ServerState, by_account, server_served}
use Rattle.ak_protocol.specs.Serving.{Setback, served}
use Rattle.ak_server.specs.Servers.{LinksStay}

-- what the account has after it
found_after : (server : ServerState) (request : Request) (now : ℤ) (setback : Setback) (s : AccountState) → server request.host.digits ≡ Some s
    → (server_served server request now setback).next request.host.digits ≡ Some (served s request now setback).next
found_after server request now setback s found =
    ap (λ (o : Option AccountState). (by_account o server request now setback).next request.host.digits) found
    ∙ ap (λ (b : Bool). if b then Some (served s request now setback).next else server request.host.digits) (same_as_itself request.host.digits)

pub links_stay_there : (server : ServerState) (request : Request) (now : ℤ) (setback : Setback) → LinksStay server request now setback
links_stay_there server request now setback = λ s c found own linked fresh.
    subst (λ (o : Option AccountState). IfSome o (λ t. AreLinked c t.committed)) (sym (found_after server request now setback s found))
    (links_stay_served s request now setback c own fresh linked)
