-- The accounts of a text, opened: each with the keeper that was made for its file.
use Rattle.std.specs.Prelude.{◌≡◌, ◌<◌, ◌⊎◌, ℕ, ℤ, true, false, List, [], ◌∷◌, ◌++◌, length, map, Option, None, IfSome, Result, Ok, Err}
use Rattle.ak_accounts.specs.Accounts.{Listing, Lists, listing_of}
use Rattle.ak_accounts.specs.declared.listings.ListedAccount.{ListedAccount}
use Rattle.ak_accounts.specs.declared.listings.AccountsFault.{AccountsFault}
use Rattle.ak_accounts.specs.declared.listings.AccountsFault.TheVariants as texts
use Rattle.ak_base.specs.declared.keys.HostKey.{HostKey}
use Rattle.ak_io.specs.Arrivals.{GivesNext, IsClockMoment}
use Rattle.ak_keep.specs.Keepers.{Keeping, committed, marked_here, replaced}
use Rattle.ak_links.specs.Dials.{GivesFirst}
use Rattle.ak_openings.specs.Openings.{IsOpening}
use Rattle.ak_openings.specs.declared.whole_collections.Opening.{Opening}
use Rattle.ak_server.specs.Accounts.{account_at}
use Rattle.ak_server.specs.Servers.{StandsWith, account_added}
use Rattle.ak_server.specs.declared.accounts.Account.{Account}
use Rattle.ak_account_keepers.specs.declared.accounts.OpenFault.{OpenFault}
use Rattle.ak_account_keepers.specs.declared.accounts.OpenFault.TheVariants as faults
use Rattle.ak_account_keepers.specs.declared.files.FileFault.{FileFault}
use Rattle.ak_account_keepers.specs.declared.files.FileFault.TheVariants as files

-- what a server is beside its door: its accounts, and the moments that its clock tells are to come
pub record Service (K : Type 0) : Type 0 where
  pub accounts : List (Account K)
  pub moments : Option (List ℤ)

-- ---- one account
-- the opening collection of a moment was put in place of what was held: all usns of its rows are 0, and that of
-- its head is 1
pub record IsOpenedAt (now : ℤ) (old new : Keeping) : Type 0 where
  pub opening : Opening
  pub is : IsOpening now false opening
  pub holds : new ≡ committed (replaced opening.rows opening.head (marked_here old))

-- a keeper that holds a collection is left as it is, and the clock is not asked
pub record KeepsItsOwn {K : Type 0} (keeping : K → Keeping) (old new : Option (List ℤ)) (made keeper : K) : Type 0 where
  pub held : (keeping made).headed.current ≡ true
  pub same : keeper ≡ made
  pub moments : new ≡ old

-- a keeper that holds none is given the opening collection of the clock's next moment
pub record IsGivenOpening {K : Type 0} (keeping : K → Keeping) (old new : Option (List ℤ)) (made keeper : K) : Type 0 where
  pub empty : (keeping made).headed.current ≡ false
  pub now : ℤ
  pub range : IsClockMoment now
  pub given : GivesNext old new now
  pub opened : IsOpenedAt now (keeping made) (keeping keeper)

-- a keeper as it was made, and as it becomes an account's
abbrev pub IsReady : {K : Type 0} → (K → Keeping) → Option (List ℤ) → Option (List ℤ) → K → K → Type 0
IsReady keeping old new made keeper = KeepsItsOwn keeping old new made keeper ⊎ IsGivenOpening keeping old new made keeper

-- an account with this keeper is the last of the accounts, with no session and no kept reply; none before had its key
pub record AddsAccount {K : Type 0} (keeping : K → Keeping) (name : List ℕ) (host : HostKey) (keeper : K) (old new : List (Account K)) : Type 0 where
  pub added : new ≡ old ++ account_added name host keeper ∷ []
  pub ours : account_at host.digits old ≡ None
  pub stands : StandsWith keeping old new host.digits keeper

-- a listed account is opened: the next keeper that the maker tells is made for it, and it is the last of the accounts, with its
-- name and its key, no session and no kept reply
pub record OpensOne {K : Type 0} (keeping : K → Keeping) (listed : ListedAccount) (told left : Option (List K)) (before after : Service K) : Type 0 where
  pub made : K
  pub keeper : K
  pub given : GivesFirst told left made
  pub ready : IsReady keeping before.moments after.moments made keeper
  pub adds : AddsAccount keeping listed.name listed.host keeper before.accounts after.accounts

-- ---- all accounts
-- listed accounts are opened, one after another
abbrev pub OpensAll : {K : Type 0} → (K → Keeping) → List ListedAccount → Option (List K) → Option (List K) → Service K → Service K → Type 0
OpensAll keeping [] told left before after = (left ≡ told) × (after ≡ before)
OpensAll {K = K} keeping (listed ∷ more) told left before after = (between : Option (List K)) × (then : Service K)
    × OpensOne keeping listed told between before then × OpensAll keeping more between left then after

-- some of the listed accounts are opened, from the first one on, and not all
pub record OpensFirst {K : Type 0} (keeping : K → Keeping) (listed : List ListedAccount) (told : Option (List K)) (before : Service K) (accounts : List (Account K)) : Type 0 where
  pub front : List ListedAccount
  pub rest : List ListedAccount
  pub parts : listed ≡ front ++ rest
  pub some : 0 < length rest
  pub left : Option (List K)
  pub after : Service K
  pub opens : OpensAll keeping front told left before after
  pub accounts_are : accounts ≡ after.accounts

-- a text lists these accounts, if it is told
abbrev pub TellsAccounts : Option (List ℕ) → List ListedAccount → Type 0
TellsAccounts text listed = IfSome text (λ bytes. Lists bytes (map listing_of listed))

-- all accounts of a text are opened
pub record OpensText {K : Type 0} (keeping : K → Keeping) (text : Option (List ℕ)) (told left : Option (List K)) (before after : Service K) : Type 0 where
  pub listed : List ListedAccount
  pub tells : TellsAccounts text listed
  pub opens : OpensAll keeping listed told left before after

-- some accounts of a text are opened, from the first one on, and not all
pub record OpensPart {K : Type 0} (keeping : K → Keeping) (text : Option (List ℕ)) (told : Option (List K)) (before : Service K) (accounts : List (Account K)) : Type 0 where
  pub listed : List ListedAccount
  pub tells : TellsAccounts text listed
  pub opens : OpensFirst keeping listed told before accounts

-- nothing was opened: no keeper was made, and the clock was not asked
pub record OpensNone {K : Type 0} (told left : Option (List K)) (before after : Service K) : Type 0 where
  pub told_stays : left ≡ told
  pub same : after ≡ before

-- a text lists no accounts, if it is told
abbrev pub ListsNothing : Option (List ℕ) → Type 0
ListsNothing text = IfSome text (λ bytes. (listings : List Listing) → Lists bytes listings → ⊥)

-- why nothing was opened, by why the file was not read
abbrev pub of_file : FileFault → OpenFault
of_file files.TooLong = faults.Refused
of_file files.Failed = faults.FileFailed
of_file files.Memory = faults.Memory

-- why nothing was opened, by why the text of the file was not read
abbrev pub of_text : AccountsFault → OpenFault
of_text texts.Refused = faults.Refused
of_text texts.Memory = faults.Memory

-- what was opened of a text, by how that ended
abbrev pub OpensOrNot : {K T : Type 0} → (K → Keeping) → Option (List ℕ) → Option (List K) → Option (List K) → Service K → Service K
    → Result T OpenFault → Type 0
OpensOrNot keeping text told left before after (Ok done) = OpensText keeping text told left before after
OpensOrNot keeping text told left before after (Err faults.Refused) = OpensNone told left before after × ListsNothing text
OpensOrNot keeping text told left before after (Err faults.FileFailed) = OpensNone told left before after
OpensOrNot keeping text told left before after (Err faults.KeeperFailed) = OpensPart keeping text told before after.accounts
OpensOrNot keeping text told left before after (Err faults.Memory) =
    OpensNone told left before after ⊎ OpensPart keeping text told before after.accounts
