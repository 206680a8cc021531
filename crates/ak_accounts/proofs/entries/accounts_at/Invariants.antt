use Rattle.std.proofs.Common.{◌≡◌, ◌++◌, drop, map}
use Rattle.std.specs.Option.{option_map}
use Rattle.toml.specs.View.{items_view}
use Rattle.ak_accounts.specs.Accounts.{listing_of, listings_at}
use Rattle.ak_accounts.proofs.entries.accounts_at.Given as goal

-- all accounts are those so far and then those of the values that are left, if each of them tells one
abbrev pub invariant-loop-value : goal.invariant-loop-value
invariant-loop-value l =
    listings_at (items_view l.values) ≡ option_map (λ more. map listing_of l.accounts.items ++ more) (listings_at (items_view (drop l.value-index l.values)))
