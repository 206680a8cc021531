use Rattle.std.proofs.Common.{◌≡◌, drop, map}
use Rattle.ak_accounts.specs.Accounts.{listing_of, are_apart}
use Rattle.ak_accounts.proofs.texts.are_apart.Given as goal

-- all are apart exactly if those that are left are
abbrev pub invariant-loop-place : goal.invariant-loop-place
invariant-loop-place l = are_apart (map listing_of (drop l.place l.accounts)) ≡ are_apart (map listing_of l.accounts)
