use Rattle.std.proofs.Common.{◌≡◌, ◌+◌, drop}
use Rattle.std.specs.List.{position_or_len}
use Rattle.ak_server.proofs.Places.{has_host}
use Rattle.ak_server.specs.Accounts.{account_at}
use Rattle.ak_server.proofs.servers.place_of.Given as goal

-- no account so far has the host key
abbrev pub invariant-loop-place : goal.invariant-loop-place
invariant-loop-place g l = record {
  none : account_at l.host.digits (drop l.place l.accounts) ≡ account_at l.host.digits l.accounts;
  first : l.place + position_or_len (has_host l.host.digits) (drop l.place l.accounts) ≡ position_or_len (has_host l.host.digits) l.accounts;
}
