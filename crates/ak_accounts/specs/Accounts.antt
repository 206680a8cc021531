-- The text of the accounts: in TOML, an array `account` of tables with the keys `name`, `key` and `file`, and no other.
use Rattle.std.specs.Prelude.{◌≡◌, ℕ, ◌+◌, ◌<◌, ◌≤◌, Bool, true, not, ◌&&◌, ◌||◌, ◌==◌, nat_le, if◌then◌else◌, List, [], ◌∷◌, length, map, codes, Option, Some, None, IsUtf8}
use Rattle.std.specs.Cmp.Lexicographic.{pointwise}
use Rattle.std.specs.List.{list_any}
use Rattle.std.specs.Option.{option_map, option_and_then}
use Rattle.ak_base.specs.Keys.{host_digits}
use Rattle.toml.specs.Data.{Data, Items, no_items, item, Members, no_members, member, get_member, as_str, as_array, as_table}
use Rattle.toml.specs.Parse.{parse_document}
use Rattle.ak_accounts.specs.declared.listings.ListedAccount.{ListedAccount}

-- what a text says of one account: its name, the digits of its key, and its file
pub record Listing : Type 0 where
  pub name : List ℕ
  pub host : List ℕ
  pub file : List ℕ

-- what an account that was read says
abbrev pub listing_of : ListedAccount → Listing
listing_of account = record { name = account.name; host = account.host.digits; file = account.file }

-- ---- one account
-- how many keys a table has
abbrev pub key_count : Members → ℕ
key_count no_members = 0
key_count (member key value rest) = key_count rest + 1

-- a table of so many keys
abbrev pub with_keys : ℕ → Members → Option Members
with_keys count members = if key_count members == count then Some members else None

-- the text at a key
abbrev pub text_at : List ℕ → Members → Option (List ℕ)
text_at key entry = option_and_then as_str (get_member key entry)

-- a name has 1 to 64 bytes
abbrev pub account_name : List ℕ → Option (List ℕ)
account_name text = if nat_le 1 (length text) && nat_le (length text) 64 then Some text else None

-- the account that a table tells, if it has its three keys
abbrev pub listing_in : Members → Option Listing
listing_in entry =
    option_and_then (λ name. option_and_then (λ host. option_map (λ file. record { name = name; host = host; file = file })
    (text_at (codes "file") entry))
    (option_and_then host_digits (text_at (codes "key") entry)))
    (option_and_then account_name (text_at (codes "name") entry))

-- the account that a value tells: a table of those three keys alone
abbrev pub listing_at : Data → Option Listing
listing_at value = option_and_then listing_in (option_and_then (with_keys 3) (as_table value))

-- ---- all accounts
-- those that the values of an array tell, if each tells one
abbrev pub listings_at : Items → Option (List Listing)
listings_at no_items = Some []
listings_at (item value rest) =
    option_and_then (λ listing. option_map (λ more. listing ∷ more) (listings_at rest)) (listing_at value)

-- the array of a document that has the key `account` alone
abbrev pub account_array : Members → Option Items
account_array document =
    option_and_then as_array (option_and_then (get_member (codes "account")) (with_keys 1 document))

-- the accounts of a document
abbrev pub listings_in : Members → Option (List Listing)
listings_in document = option_and_then listings_at (account_array document)

-- ---- accounts apart
-- another account has the name or the key of this one
abbrev pub shares : Listing → Listing → Bool
shares listing other = pointwise ◌==◌ listing.name other.name || pointwise ◌==◌ listing.host other.host

-- no two accounts have one name or one key
abbrev pub are_apart : List Listing → Bool
are_apart [] = true
are_apart (listing ∷ rest) = not (list_any (shares listing) rest) && are_apart rest

-- a text lists these accounts: at most 1,048,576 bytes of UTF-8, and at least one account
pub record Lists (text : List ℕ) (listings : List Listing) : Type 0 where
  pub size : length text ≤ 1_048_576
  pub utf8 : IsUtf8 text
  pub read : option_and_then listings_in (parse_document text) ≡ Some listings
  pub some : 0 < length listings
  pub apart : are_apart listings ≡ true
