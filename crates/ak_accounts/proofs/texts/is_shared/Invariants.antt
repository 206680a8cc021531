use Rattle.std.proofs.Common.{◌≡◌, drop, map}
use Rattle.std.specs.List.{list_any}
use Rattle.ak_accounts.specs.Accounts.{listing_of, shares}
use Rattle.ak_accounts.proofs.texts.is_shared.Given as goal

-- whether one of the others shares is as of those that are left
abbrev pub invariant-loop-other : goal.invariant-loop-other
invariant-loop-other l =
    list_any (shares (listing_of l.account)) (map listing_of (drop l.other-index l.others)) ≡ list_any (shares (listing_of l.account)) (map listing_of l.others)
