-- The keys of a table, counted.
use Rattle.std.proofs.Common.{◌≡◌, ◌+◌, List, [], ◌∷◌, length, String, Global, refl, ap, ◌∙◌, arith}
use Rattle.toml.specs.View.{members_view}
use Rattle.toml.specs.declared.value.Value.{Value}
use Rattle.ak_accounts.specs.Accounts.{key_count}

pub key_count-entries : (entries : List (String Global × Value)) → key_count (members_view entries) ≡ length entries
key_count-entries [] = refl
key_count-entries (entry ∷ entries) = let more = key_count-entries entries in grind arith
