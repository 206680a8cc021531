-- What the requests of a session bring, and what its start tells.
use Rattle.std.specs.Prelude.{ℤ, pos, List, [], ◌∷◌, ◌++◌, map, None}
use Rattle.std.specs.Option.{option_map, option_or}
use Rattle.ak_keep.specs.Collections.{Collection}
use Rattle.ak_merge.specs.Commits.{Received, with_received}
use Rattle.ak_messages.specs.declared.requests.Ask.{Ask}
use Rattle.ak_messages.specs.declared.requests.Ask.TheVariants as asks
use Rattle.ak_messages.specs.declared.requests.Request.{Request}
use Rattle.ak_session.specs.Messages.{graves_from, chunk_rows, change_rows, settings_in}

-- what the requests ask, in order
abbrev pub asks_of : List Request → List Ask
asks_of = map (λ (request : Request). request.ask)

-- ---- the start
-- the usn from which on the session is given rows and tags, which its start tells. A start is the first that a session accepts
abbrev pub least_usn : List Ask → ℤ
least_usn (asks.Start min_usn lmod ∷ more) = min_usn
least_usn accepted = pos 0

-- the moment of the device's last change, which the start tells
abbrev pub device_moment : List Ask → ℤ
device_moment (asks.Start min_usn lmod ∷ more) = lmod
device_moment accepted = pos 0

-- ---- what is brought
-- nothing
abbrev pub nothing : Received
nothing = record { rows = []; tags = []; settings = None }

-- what a request brings: graves, changes or a chunk. No other request brings anything
abbrev pub brought : Ask → Received
brought (asks.ApplyGraves ids) = record { rows = graves_from ids; tags = []; settings = None }
brought (asks.ApplyChanges changes) =
    record { rows = change_rows changes; tags = changes.tags; settings = option_map settings_in changes.newer }
brought (asks.ApplyChunk chunk) = record { rows = chunk_rows chunk; tags = []; settings = None }
brought ask = nothing

-- what came first and then more; if settings came twice, the later ones count
abbrev pub and_then : Received → Received → Received
and_then first more =
    record { rows = first.rows ++ more.rows; tags = first.tags ++ more.tags; settings = option_or more.settings first.settings }

-- what requests bring, in order
abbrev pub all_brought : List Ask → Received
all_brought [] = nothing
all_brought (ask ∷ more) = and_then (brought ask) (all_brought more)

-- ---- the fold
-- the collection that the requests make of the committed one: it takes what each brings, by the rule of a sync, with the usn of
-- the committed head. A start, a chunk, a sanity check, a finish and a download leave it
abbrev pub fold_of : Collection → List Ask → Collection
fold_of committed [] = committed
fold_of committed (ask ∷ more) = fold_of (with_received (brought ask) committed) more
