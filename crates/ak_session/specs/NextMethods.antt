-- Which method may come next in a session.
use Rattle.std.specs.Prelude.{◌-◌, Bool, false, if◌then◌else◌, List, [], ◌∷◌}
use Rattle.std.specs.List.{list_any}
use Rattle.ak_keep.specs.Collections.{Collection}
use Rattle.ak_messages.specs.declared.methods.Method.{Method}
use Rattle.ak_messages.specs.declared.methods.Method.TheVariants as methods
use Rattle.ak_messages.specs.declared.requests.Ask.{Ask}
use Rattle.ak_messages.specs.declared.requests.Ask.TheVariants as asks
use Rattle.ak_session.specs.Answers.{chunk_count, server_rows}
use Rattle.ak_session.specs.Messages.{chunk_of}
use Rattle.ak_session.specs.Slices.{slice}
use Rattle.ak_session.specs.Requests.{asked_method, same_method}

-- the methods that may come after one; after a chunk it matters whether that was done. After a bad sanity check there is no session
abbrev pub methods_after : Method → Bool → List Method
methods_after methods.Meta done = methods.Start ∷ methods.Upload ∷ methods.Download ∷ []
methods_after methods.Start done = methods.ApplyGraves ∷ methods.ApplyChanges ∷ []
methods_after methods.ApplyGraves done = methods.ApplyGraves ∷ methods.ApplyChanges ∷ []
methods_after methods.ApplyChanges done = methods.Chunk ∷ []
methods_after methods.Chunk done = (if done then methods.ApplyChunk else methods.Chunk) ∷ []
methods_after methods.ApplyChunk done = (if done then methods.SanityCheck2 else methods.ApplyChunk) ∷ []
methods_after methods.SanityCheck2 done = methods.Finish ∷ []
methods_after methods.Finish done = []
methods_after methods.Upload done = []
methods_after methods.Download done = []

-- what was asked last, this one first
abbrev pub last_from : Ask → List Ask → Ask
last_from ask [] = ask
last_from ask (next ∷ more) = last_from next more

-- what a session accepted last: its meta, if nothing else
abbrev pub last_asked : List Ask → Ask
last_asked accepted = last_from asks.Meta accepted

-- whether a chunk was done: one that was given has fewer than 250 rows, one that came says so itself
abbrev pub was_done : Collection → List Ask → Ask → Bool
was_done committed accepted asks.Chunk =
    (chunk_of (slice (chunk_count accepted - 1) (server_rows committed accepted))).done
was_done committed accepted (asks.ApplyChunk chunk) = chunk.done
was_done committed accepted ask = false

-- whether a request's method may come after these
abbrev pub may_come : Collection → List Ask → Ask → Bool
may_come committed accepted ask =
    let last = last_asked accepted in
    list_any (same_method (asked_method ask)) (methods_after (asked_method last) (was_done committed accepted last))
