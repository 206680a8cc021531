-- What a session gives for its requests.
use Rattle.std.specs.Prelude.{ℕ, ◌+◌, ◌&&◌, ◌==◌, Bool, true, false, not, is_some, int_lt, if◌then◌else◌, List, [], ◌∷◌, ◌++◌, filter, length, None, Some}
use Rattle.ak_base.specs.declared.names.Table.TheVariants as tables
use Rattle.ak_base.specs.declared.rows.Row.{Row}
use Rattle.ak_keep.specs.Collections.{Rows, Collection, row_count}
use Rattle.ak_keep.specs.declared.keepers.Wanted.TheVariants.{From}
use Rattle.ak_merge.specs.Commits.{Received, settings_of}
use Rattle.ak_merge.specs.Exchanges.{wanted_tags}
use Rattle.ak_merge.specs.Soundness.{first_fault}
use Rattle.ak_messages.specs.MessageForms.{no_counts}
use Rattle.ak_messages.specs.declared.methods.Method.TheVariants as methods
use Rattle.ak_messages.specs.declared.replies.Give.{Give}
use Rattle.ak_messages.specs.declared.replies.Give.TheVariants as gives
use Rattle.ak_messages.specs.declared.replies.SanityReply.{SanityReply}
use Rattle.ak_messages.specs.declared.requests.Ask.{Ask}
use Rattle.ak_messages.specs.declared.requests.Ask.TheVariants as asks
use Rattle.ak_messages.specs.declared.requests.SanityCounts.{SanityCounts}
use Rattle.ak_session.specs.Asks.{least_usn, device_moment, nothing, and_then, fold_of}
use Rattle.ak_session.specs.Messages.{grave_ids, chunk_of, changes_of}
use Rattle.ak_session.specs.Slices.{wanted_graves, wanted_changes, wanted_in_chunks, slice}
use Rattle.ak_session.specs.Requests.{asked_method, same_method}

-- ---- what is given
-- the device is the newer side: it was changed last after the committed collection was. At one moment the server is
abbrev pub is_device_newer : Collection → List Ask → Bool
is_device_newer committed accepted = int_lt committed.head.moment (device_moment accepted)

-- the server's changes before it takes the device's: its rows and tags with at least the least usn, and its settings if it is
-- the newer side
abbrev pub server_changes : Collection → List Ask → Received
server_changes committed accepted =
    let held = fold_of committed accepted in
    record {
      rows = wanted_changes (From (least_usn accepted)) held.rows;
      tags = wanted_tags (From (least_usn accepted)) held.head.tags;
      settings = if is_device_newer committed accepted then None else Some (settings_of held.head);
    }

-- how many of these requests ask for a chunk
abbrev pub chunk_count : List Ask → ℕ
chunk_count accepted = length (filter (λ (ask : Ask). same_method (asked_method ask) methods.Chunk) accepted)

-- the rows that the server gives by chunks: those of the fold with at least the least usn
abbrev pub server_rows : Collection → List Ask → List Row
server_rows committed accepted = wanted_in_chunks (From (least_usn accepted)) (fold_of committed accepted).rows

-- what the server gives for a request after these: the graves for a start, its changes for changes, the next slice for a chunk, and
-- nothing for others
abbrev pub given_for : Collection → List Ask → Ask → Received
given_for committed accepted (asks.Start min_usn lmod) =
    record { rows = wanted_graves (From min_usn) (fold_of committed accepted).rows; tags = []; settings = None }
given_for committed accepted (asks.ApplyChanges changes) = server_changes committed accepted
given_for committed accepted asks.Chunk =
    record { rows = slice (chunk_count accepted) (server_rows committed accepted); tags = []; settings = None }
given_for committed accepted ask = nothing

-- what the server gives for more requests after these, in order
abbrev pub given_after : Collection → List Ask → List Ask → Received
given_after committed accepted [] = nothing
given_after committed accepted (ask ∷ more) =
    and_then (given_for committed accepted ask) (given_after committed (accepted ++ ask ∷ []) more)

-- what the server gives in a session that accepts these requests
abbrev pub all_given : Collection → List Ask → Received
all_given committed accepted = given_after committed [] accepted

-- ---- the sanity check
-- how many rows of each kind are held
abbrev pub counts_of : Rows → SanityCounts
counts_of held = record {
  cards = row_count tables.Card held;
  notes = row_count tables.Note held;
  reviews = row_count tables.Review held;
  graves = row_count tables.NoteGrave held + row_count tables.CardGrave held + row_count tables.DeckGrave held;
  models = row_count tables.NoteType held;
  decks = row_count tables.Deck held;
  options = row_count tables.Options held;
}

-- the seven counts are the same
abbrev pub same_counts : SanityCounts → SanityCounts → Bool
same_counts a b =
    (a.cards == b.cards)
    && (a.notes == b.notes)
    && (a.reviews == b.reviews)
    && (a.graves == b.graves)
    && (a.models == b.models)
    && (a.decks == b.decks)
    && (a.options == b.options)

-- a sanity check is good if the rows have no fault of the basic check and the counts sent are theirs
abbrev pub is_good : Rows → SanityCounts → Bool
is_good held counts = not (is_some (first_fault held)) && same_counts counts (counts_of held)

-- the reply to a sanity check: a good one has no fault and no counts, a bad one the first fault, if there is one, and both counts
abbrev pub sanity_reply : Rows → SanityCounts → SanityReply
sanity_reply held counts =
    if is_good held counts then record { good = true; fault = None; client = no_counts; server = no_counts }
    else record { good = false; fault = first_fault held; client = counts; server = counts_of held }

-- ---- the answer
-- what a request is given after these, if it neither commits nor is a download
abbrev pub answer_to : Collection → List Ask → Ask → Give
answer_to committed accepted (asks.Start min_usn lmod) =
    gives.Graves (grave_ids (given_for committed accepted (asks.Start min_usn lmod)).rows)
answer_to committed accepted (asks.ApplyChanges changes) = gives.Changes (changes_of (server_changes committed accepted))
answer_to committed accepted asks.Chunk = gives.Chunk (chunk_of (given_for committed accepted asks.Chunk).rows)
answer_to committed accepted (asks.SanityCheck2 counts) = gives.Sanity (sanity_reply (fold_of committed accepted).rows counts)
answer_to committed accepted ask = gives.Nothing

-- whether a request ends the session without a commit: a sanity check that is not good
abbrev pub is_bad_check : Collection → List Ask → Ask → Bool
is_bad_check committed accepted (asks.SanityCheck2 counts) = not (is_good (fold_of committed accepted).rows counts)
is_bad_check committed accepted ask = false
