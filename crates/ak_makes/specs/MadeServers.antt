-- A server that holds the collection that is made of a seed, and what is copied of it.
use Rattle.std.specs.Prelude.{◌≡◌, ℕ, List, Some, codes}
use Rattle.ak_exchange.specs.Phases.{holding}
use Rattle.ak_keep.specs.Collections.{Collection}
use Rattle.ak_keep.specs.Keepers.{Keeping}
use Rattle.ak_made_collections.specs.MadeCollections.{IsMade}
use Rattle.ak_merge.specs.Commits.{IsCopyOf}
use Rattle.ak_messages.specs.declared.requests.SanityCounts.{SanityCounts}
use Rattle.ak_openings.specs.declared.whole_collections.Opening.{Opening}
use Rattle.ak_session.specs.Answers.{counts_of}
use Rattle.ak_sync_in_memory.specs.Copies.{committed_in}
use Rattle.ak_sync_in_memory.specs.Entries.{LoggedState}
use Rattle.ak_sync_in_memory.specs.LoggedServers.{begins_with}

-- the digits of the host key of the server's account
abbrev pub make_host : List ℕ
make_host = codes "aaaaaaaaaaaaaaaaaaaaaaaaaaaaaaaa"

-- a server was opened with the collection of a seed, of so many notes
abbrev pub IsServerOf : ℕ → ℕ → LoggedState → Type 0
IsServerOf seed size server = (made : Opening) × IsMade seed size made × (server ≡ begins_with make_host made)

-- a keeper holds a copy of what a server committed
abbrev pub HoldsCopy : LoggedState → Keeping → Type 0
HoldsCopy server k = (s : Collection) × (c : Collection) × (committed_in server ≡ Some s) × IsCopyOf s c × (k ≡ holding c)

-- these are the rows of each kind that a server committed
abbrev pub AreCountsOn : LoggedState → SanityCounts → Type 0
AreCountsOn server counts = (c : Collection) × (committed_in server ≡ Some c) × (counts ≡ counts_of c.rows)
