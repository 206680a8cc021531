-- A server with its accounts.
use Rattle.std.specs.Cmp.Lexicographic.{pointwise}
use Rattle.std.specs.Prelude.{◌≡◌, ℕ, ℤ, ◌==◌, if◌then◌else◌, Bool, List, Option, Some, None}
use Rattle.ak_messages.specs.declared.replies.Reply.{Reply}
use Rattle.ak_messages.specs.declared.requests.Request.{Request}
use Rattle.ak_protocol.specs.Accounts.{AccountState, viewed}
use Rattle.ak_protocol.specs.Replies.{unknown_key}
use Rattle.ak_protocol.specs.Serving.{Setback, served}

-- a server: for the digits of each host key, what it has of the account
abbrev pub ServerState : Type 0
ServerState = List ℕ → Option AccountState

-- whether two host keys have the same digits
abbrev pub same_host : List ℕ → List ℕ → Bool
same_host a b = pointwise ◌==◌ a b

-- the server with this account under this host key
abbrev pub with_account : List ℕ → AccountState → ServerState → ServerState
with_account host s server other = if same_host other host then Some s else server other

-- what a server gives for a request, and what it is after it
pub record ServerServed : Type 0 where
  pub reply : Reply
  pub next : ServerState

-- a request, by the account of its host key
abbrev pub by_account : Option AccountState → ServerState → Request → ℤ → Setback → ServerServed
by_account None server request now setback = record { reply = unknown_key; next = server }
by_account (Some s) server request now setback =
    let it = served s request now setback in
    record { reply = it.reply; next = with_account request.host.digits it.next server }

-- what a server does with a request at a moment and with a setback: what the account of its host key does
abbrev pub server_served : ServerState → Request → ℤ → Setback → ServerServed
server_served server request now setback = by_account (server request.host.digits) server request now setback

-- the server once the account of this host key was viewed
abbrev pub by_view : Option AccountState → List ℕ → ServerState → ServerState
by_view None host server = server
by_view (Some s) host server = with_account host (viewed s) server

-- two servers give the same reply, and are the same at this host key after it
pub record ServedAlike (host : List ℕ) (a b : ServerServed) : Type 0 where
  pub reply : a.reply ≡ b.reply
  pub account : a.next host ≡ b.next host
