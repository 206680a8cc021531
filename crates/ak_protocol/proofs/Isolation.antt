-- An account is served alone, whatever other accounts a server has.
use Rattle.std.specs.Cmp.Lexicographic.{bytes_decides}
use Rattle.std.specs.Option.{option_map}
use Rattle.std.specs.Prelude.{◌≡◌, ◌≢◌, ℕ, ℤ, if◌then◌else◌, Bool, true, false, List, [], ◌∷◌, Option, Some, None}
use Rattle.std.proofs.Common.{refl, sym, ap, ◌∙◌}
use Rattle.ak_messages.specs.declared.requests.Request.{Request}
use Rattle.ak_protocol.specs.Accounts.{AccountState, viewed}
use Rattle.ak_protocol.specs.Logs.{Event, View, Asked, World, server_next, server_after, opened, world_next, world_after, host_of, events_of}
use Rattle.ak_protocol.specs.Servers.{ServerState, ServedAlike, same_host, with_account, by_account, server_served, by_view}
use Rattle.ak_protocol.specs.Serving.{Setback, served}

-- ---- host keys
pub host_is : (a b : List ℕ) → same_host a b ≡ true → a ≡ b
host_is a b = (bytes_decides a b).0

pub same_as_itself : (a : List ℕ) → same_host a a ≡ true
same_as_itself a = (bytes_decides a a).1 refl

with_own : (host other : List ℕ) (s : AccountState) (server : ServerState) → same_host other host ≡ true → with_account host s server other ≡ Some s
with_own host other s server is = ap (λ (b : Bool). if b then Some s else server other) is

with_other : (host other : List ℕ) (s : AccountState) (server : ServerState) → same_host other host ≡ false → with_account host s server other ≡ server other
with_other host other s server is = ap (λ (b : Bool). if b then Some s else server other) is

differ : (a b : List ℕ) → a ≢ b → same_host a b ≡ false
differ a b other =
    elim (same_host a b) as (λ t. same_host a b ≡ t → t ≡ false) [
      | true ↦ λ e. absurd (other (host_is a b e))
      | false ↦ λ e. refl
    ] refl

-- ---- one request
same_reply : (o : Option AccountState) (a b : ServerState) (request : Request) (now : ℤ) (setback : Setback)
    → (by_account o a request now setback).reply ≡ (by_account o b request now setback).reply
same_reply None a b request now setback = refl
same_reply (Some s) a b request now setback = refl

same_account : (o : Option AccountState) (a b : ServerState) (request : Request) (now : ℤ) (setback : Setback) → a request.host.digits ≡ b request.host.digits
    → (by_account o a request now setback).next request.host.digits ≡ (by_account o b request now setback).next request.host.digits
same_account None a b request now setback same = same
same_account (Some s) a b request now setback same =
    let host = request.host.digits in
    let it = served s request now setback in
    with_own host host it.next a (same_as_itself host) ∙ sym (with_own host host it.next b (same_as_itself host))

-- what a request gives and leaves for its account depends on that account alone
pub accounts_are_served_alone : (a b : ServerState) (request : Request) (now : ℤ) (setback : Setback) → a request.host.digits ≡ b request.host.digits
    → ServedAlike request.host.digits (server_served a request now setback) (server_served b request now setback)
accounts_are_served_alone a b request now setback same = record {
  reply = same_reply (a request.host.digits) a b request now setback ∙ ap (λ (o : Option AccountState). (by_account o b request now setback).reply) same;
  account = same_account (a request.host.digits) a b request now setback same
      ∙ ap (λ (o : Option AccountState). (by_account o b request now setback).next request.host.digits) same;
}

other_by : (o : Option AccountState) (server : ServerState) (request : Request) (now : ℤ) (setback : Setback) (other : List ℕ) → same_host other request.host.digits ≡ false
    → (by_account o server request now setback).next other ≡ server other
other_by None server request now setback other differs = refl
other_by (Some s) server request now setback other differs = with_other request.host.digits other (served s request now setback).next server differs

-- no other account changes
pub other_accounts_stay : (server : ServerState) (request : Request) (now : ℤ) (setback : Setback) (other : List ℕ) → other ≢ request.host.digits
    → (server_served server request now setback).next other ≡ server other
other_accounts_stay server request now setback other differs =
    other_by (server request.host.digits) server request now setback other (differ other request.host.digits differs)

-- ---- logs
view_other : (o : Option AccountState) (host : List ℕ) (server : ServerState) (other : List ℕ) → same_host other host ≡ false → by_view o host server other ≡ server other
view_other None host server other differs = refl
view_other (Some s) host server other differs = with_other host other (viewed s) server differs

step_other : (host : List ℕ) (server : ServerState) (event : Event) → same_host host (host_of event) ≡ false → server_next server event host ≡ server host
step_other host server (View h) differs = view_other (server h) h server host differs
step_other host server (Asked request now setback) differs = other_by (server request.host.digits) server request now setback host differs

step_own : (host : List ℕ) (server : ServerState) (w : World) (event : Event) → same_host host (host_of event) ≡ true → server host ≡ Some w.state
    → server_next server event host ≡ Some (world_next w event).state
step_own host server w (View h) own is =
    ap (λ (o : Option AccountState). by_view o h server host) (ap server (sym (host_is host h own)) ∙ is) ∙ with_own h host (viewed w.state) server own
step_own host server w (Asked request now setback) own is =
    ap (λ (o : Option AccountState). (by_account o server request now setback).next host) (ap server (sym (host_is host request.host.digits own)) ∙ is)
    ∙ with_own request.host.digits host (served w.state request now setback).next server own

no_account : (host : List ℕ) (server : ServerState) (event : Event) → server host ≡ None → server_next server event host ≡ None
no_account host server event none =
    elim (same_host host (host_of event)) as (λ b. same_host host (host_of event) ≡ b → server_next server event host ≡ None) [
      | true ↦ λ own. still server event own none
      | false ↦ λ differs. step_other host server event differs ∙ none
    ] refl
  where
    still : (server : ServerState) (event : Event) → same_host host (host_of event) ≡ true → server host ≡ None → server_next server event host ≡ None
    still server (View h) own none = ap (λ (o : Option AccountState). by_view o h server host) (ap server (sym (host_is host h own)) ∙ none) ∙ none
    still server (Asked request now setback) own none =
        ap (λ (o : Option AccountState). (by_account o server request now setback).next host) (ap server (sym (host_is host request.host.digits own)) ∙ none) ∙ none

pub account_after : (host : List ℕ) (server : ServerState) (w : World) (events : List Event) → server host ≡ Some w.state
    → server_after server events host ≡ Some (world_after w (events_of host events)).state
account_after host server w [] is = is
account_after host server w (event ∷ events) is =
    elim (same_host host (host_of event)) as (λ b. same_host host (host_of event) ≡ b
    → server_after (server_next server event) events host ≡ Some (world_after w (if b then event ∷ events_of host events else events_of host events)).state) [
      | true ↦ λ own. account_after host (server_next server event) (world_next w event) events (step_own host server w event own is)
      | false ↦ λ differs. account_after host (server_next server event) w events (step_other host server event differs ∙ is)
    ] refl

pub none_after : (host : List ℕ) (server : ServerState) (events : List Event) → server host ≡ None → server_after server events host ≡ None
none_after host server [] none = none
none_after host server (event ∷ events) none = none_after host (server_next server event) events (no_account host server event none)

-- what an account is after a log follows from what it was and from its own events
pub logs_part : (server : ServerState) (events : List Event) (host : List ℕ)
    → server_after server events host ≡ option_map (λ s. (world_after (opened s) (events_of host events)).state) (server host)
logs_part server events host =
    elim (server host) as (λ o. server host ≡ o → server_after server events host ≡ option_map (λ s. (world_after (opened s) (events_of host events)).state) o) [
      | None ↦ λ none. none_after host server events none
      | Some s ↦ λ is. account_after host server (opened s) events is
    ] refl
