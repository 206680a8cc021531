-- What a session gives.
use Rattle.std.specs.Prelude.{◌≡◌, ◌+◌, int_lt, if◌then◌else◌, ℤ, List, [], ◌∷◌, ◌++◌, length, None, Some}
use Rattle.std.specs.List.{AllByRecursion}
use Rattle.std.proofs.Common.{sym, ap, ◌∙◌}
use Rattle.std.proofs.lemmas.List.{map-append, length-map}
use Rattle.ak_keep.specs.Collections.{Collection}
use Rattle.ak_keep.specs.declared.keepers.Wanted.TheVariants.{From}
use Rattle.ak_merge.specs.Commits.{settings_of}
use Rattle.ak_merge.specs.Exchanges.{wanted_tags}
use Rattle.ak_messages.specs.declared.replies.Give.TheVariants as gives
use Rattle.ak_messages.specs.declared.requests.Ask.{Ask}
use Rattle.ak_messages.specs.declared.requests.Ask.TheVariants as asks
use Rattle.ak_messages.specs.declared.requests.Changes.{Changes}
use Rattle.ak_messages.specs.declared.requests.Request.{Request}
use Rattle.ak_session.specs.Answers.{chunk_count, answer_to, server_changes}
use Rattle.ak_session.specs.Asks.{asks_of, fold_of}
use Rattle.ak_session.specs.Contents.{folded, answer}
use Rattle.ak_session.specs.Messages.{grave_ids, chunk_of, changes_of}
use Rattle.ak_session.specs.Slices.{wanted_graves, wanted_changes, wanted_in_chunks, slice}
use Rattle.ak_session.proofs.Folds.{fold_append}
use Rattle.ak_session.proofs.Steps.{count_append, fold_of_chunks, count_of_chunks, asked_chunks}

pub start_given : (committed : Collection) (start : Request) (min_usn lmod : ℤ) → start.ask ≡ asks.Start min_usn lmod
    → answer committed [] start ≡ gives.Graves (grave_ids (wanted_graves (From min_usn) committed.rows))
unfolding answer
start_given committed start min_usn lmod is = ap (answer_to committed []) is

pub changes_given : (committed : Collection) (start : Request) (accepted : List Request) (request : Request) (min_usn lmod : ℤ) (changes : Changes) → start.ask ≡ asks.Start min_usn lmod
    → request.ask ≡ asks.ApplyChanges changes → let held = folded committed (start ∷ accepted) in
    answer committed (start ∷ accepted) request ≡ gives.Changes (changes_of (record {
      rows = wanted_changes (From min_usn) held.rows;
      tags = wanted_tags (From min_usn) held.head.tags;
      settings = if int_lt committed.head.moment lmod then None else Some (settings_of held.head);
    }))
unfolding answer folded
changes_given committed start accepted request min_usn lmod changes begins is =
    ap (answer_to committed (start.ask ∷ asks_of accepted)) is
    ∙ ap (λ (ask : Ask). gives.Changes (changes_of (server_changes committed (ask ∷ asks_of accepted)))) begins
    ∙ ap (λ (ask : Ask). gives.Changes (changes_of (record {
      rows = wanted_changes (From min_usn) (fold_of committed (ask ∷ asks_of accepted)).rows;
      tags = wanted_tags (From min_usn) (fold_of committed (ask ∷ asks_of accepted)).head.tags;
      settings = if int_lt committed.head.moment lmod then None else Some (settings_of (fold_of committed (ask ∷ asks_of accepted)).head);
    }))) (sym begins)

pub next_slice : (committed : Collection) (start : Request) (accepted : List Request) (request : Request) (min_usn lmod : ℤ) → start.ask ≡ asks.Start min_usn lmod → request.ask ≡ asks.Chunk
    → answer committed (start ∷ accepted) request
    ≡ gives.Chunk (chunk_of (slice (chunk_count (asks_of accepted)) (wanted_in_chunks (From min_usn) (folded committed (start ∷ accepted)).rows)))
unfolding answer folded
next_slice committed start accepted request min_usn lmod begins is =
    ap (answer_to committed (start.ask ∷ asks_of accepted)) is
    ∙ ap (λ (ask : Ask). answer_to committed (ask ∷ asks_of accepted) asks.Chunk) begins
    ∙ ap (λ (ask : Ask). gives.Chunk (chunk_of (slice (chunk_count (asks_of accepted)) (wanted_in_chunks (From min_usn) (fold_of committed (ask ∷ asks_of accepted)).rows)))) (sym begins)

pub same_fold : (committed : Collection) (accepted chunks : List Request) → AllByRecursion (λ (chunk : Request). chunk.ask ≡ asks.Chunk) chunks → folded committed (accepted ++ chunks) ≡ folded committed accepted
unfolding folded
same_fold committed accepted chunks all =
    ap (fold_of committed) (map-append (λ (r : Request). r.ask) accepted chunks)
    ∙ fold_append committed (asks_of accepted) (asks_of chunks)
    ∙ fold_of_chunks (fold_of committed (asks_of accepted)) (asks_of chunks) (asked_chunks chunks all)

pub more_chunks : (accepted chunks : List Request) → AllByRecursion (λ (chunk : Request). chunk.ask ≡ asks.Chunk) chunks → chunk_count (asks_of (accepted ++ chunks)) ≡ chunk_count (asks_of accepted) + length chunks
more_chunks accepted chunks all =
    ap chunk_count (map-append (λ (r : Request). r.ask) accepted chunks)
    ∙ count_append (asks_of accepted) (asks_of chunks)
    ∙ ap (λ n. chunk_count (asks_of accepted) + n) (count_of_chunks (asks_of chunks) (asked_chunks chunks all) ∙ length-map chunks (λ (r : Request). r.ask))
