-- What replies bring to a device.
use Rattle.std.specs.Prelude.{List, [], ◌∷◌, ◌++◌, None}
use Rattle.std.specs.Option.{option_map}
use Rattle.ak_keep.specs.Collections.{Collection}
use Rattle.ak_merge.specs.Commits.{Received}
use Rattle.ak_messages.specs.declared.replies.Give.{Give}
use Rattle.ak_messages.specs.declared.replies.Give.TheVariants as gives
use Rattle.ak_messages.specs.declared.requests.Ask.{Ask}
use Rattle.ak_session.specs.Answers.{answer_to}
use Rattle.ak_session.specs.Asks.{nothing, and_then}
use Rattle.ak_session.specs.Messages.{graves_from, chunk_rows, change_rows, settings_in}

-- what a reply brings: graves, changes or a chunk. No other reply of a session brings anything
abbrev pub replied : Give → Received
replied (gives.Graves ids) = record { rows = graves_from ids; tags = []; settings = None }
replied (gives.Changes changes) =
    record { rows = change_rows changes; tags = changes.tags; settings = option_map settings_in changes.newer }
replied (gives.Chunk chunk) = record { rows = chunk_rows chunk; tags = []; settings = None }
replied give = nothing

-- what the replies to more requests after these bring, in order
abbrev pub replied_after : Collection → List Ask → List Ask → Received
replied_after committed accepted [] = nothing
replied_after committed accepted (ask ∷ more) =
    and_then (replied (answer_to committed accepted ask)) (replied_after committed (accepted ++ ask ∷ []) more)

-- what the replies of a session that accepts these requests bring
abbrev pub all_replied : Collection → List Ask → Received
all_replied committed accepted = replied_after committed [] accepted
