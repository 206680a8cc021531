-- What a message must look like, whoever sends it.
use Rattle.std.specs.Prelude.{ℕ, ◌+◌, Bool, true, false, length}
use Rattle.ak_messages.specs.declared.methods.Method.{Method}
use Rattle.ak_messages.specs.declared.methods.Method.TheVariants as methods
use Rattle.ak_messages.specs.declared.replies.Give.{Give}
use Rattle.ak_messages.specs.declared.replies.Give.TheVariants as gives
use Rattle.ak_messages.specs.declared.requests.Chunk.{Chunk}
use Rattle.ak_messages.specs.declared.requests.GraveIds.{GraveIds}
use Rattle.ak_messages.specs.declared.requests.SanityCounts.{SanityCounts}

-- how many rows a chunk has, over its lists
abbrev pub chunk_entries : Chunk → ℕ
chunk_entries c = length c.reviews + length c.cards + length c.notes

-- how many ids of graves there are, over their lists
abbrev pub grave_entries : GraveIds → ℕ
grave_entries g = length g.cards + length g.notes + length g.decks

-- what a reply with status 200 gives, by the method that was asked
abbrev pub is_given_to : Method → Give → Bool
is_given_to methods.Meta (gives.Meta m) = true
is_given_to methods.Start (gives.Graves g) = true
is_given_to methods.ApplyGraves gives.Nothing = true
is_given_to methods.ApplyChanges (gives.Changes c) = true
is_given_to methods.Chunk (gives.Chunk c) = true
is_given_to methods.ApplyChunk gives.Nothing = true
is_given_to methods.SanityCheck2 (gives.Sanity s) = true
is_given_to methods.Finish (gives.Moment m) = true
is_given_to methods.Upload (gives.Uploaded m s) = true
is_given_to methods.Download (gives.Whole w) = true
is_given_to method give = false

-- the counts of a sanity check that is good
abbrev pub no_counts : SanityCounts
no_counts = record { cards = 0; notes = 0; reviews = 0; graves = 0; models = 0; decks = 0; options = 0 }
