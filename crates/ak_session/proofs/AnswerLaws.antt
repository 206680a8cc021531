-- The form of what is given.
use Rattle.std.specs.Prelude.{◌≡◌, ◌+◌, ◌*◌, ◌≤◌, ◌<◌, ℕ, ℤ, Bool, true, false, nat_lt, List, ◌∷◌, ◌++◌, map, length, drop}
use Rattle.std.proofs.Common.{refl, sym, ap, subst, ◌∙◌, arith}
use Rattle.std.proofs.lemmas.List.{length-append, length-map}
use Rattle.ak_base.specs.declared.rows.Row.{Row}
use Rattle.ak_base.specs.declared.rows.Row.TheVariants as rows
use Rattle.ak_keep.specs.Collections.{Rows, Collection}
use Rattle.ak_keep.specs.declared.keepers.Wanted.TheVariants.{From}
use Rattle.ak_merge.specs.Takings.{all_taken}
use Rattle.ak_messages.specs.MessageForms.{chunk_entries, is_given_to}
use Rattle.ak_messages.specs.declared.replies.Give.TheVariants as gives
use Rattle.ak_messages.specs.declared.requests.Ask.{Ask}
use Rattle.ak_messages.specs.declared.requests.Ask.TheVariants as asks
use Rattle.ak_messages.specs.declared.requests.Chunk.{Chunk}
use Rattle.ak_messages.specs.declared.requests.Request.{Request}
use Rattle.ak_session.specs.Answers.{chunk_count, server_rows, given_for, answer_to}
use Rattle.ak_session.specs.Asks.{asks_of, least_usn, fold_of}
use Rattle.ak_session.specs.Contents.{answer}
use Rattle.ak_session.specs.Messages.{chunk_of, chunk_rows}
use Rattle.ak_session.specs.Plans.{planned, Asker, plan}
use Rattle.ak_session.specs.Replies.{replied}
use Rattle.ak_session.specs.Requests.{asked_method, asks_commit, is_download, is_meta}
use Rattle.ak_session.specs.Sessions.{MaySync}
use Rattle.ak_session.specs.Slices.{slice}
use Rattle.ak_session.proofs.Accepting.{slice_short}
use Rattle.ak_session.proofs.InOrder.{Made, chunk_keeps}
use Rattle.ak_session.proofs.MessageLaws.{one_rows, front_checked}
use Rattle.ak_session.proofs.PlanLaws.{asked_place}
use Rattle.ak_session.proofs.Ranges.{not_both}
use Rattle.ak_session.proofs.Sums.{fold_named, fold_checked, chunk_rows_of, slice_of_three}
use Rattle.ak_merge.specs.declared.sides.Side.TheVariants.{Device}

form_by : (c : Collection) (before : List Ask) (ask : Ask) → is_meta ask ≡ false → is_download ask ≡ false → asks_commit ask ≡ false → is_given_to (asked_method ask) (answer_to c before ask) ≡ true
form_by c before asks.Meta meta down commit = absurd (not_both refl meta)
form_by c before (asks.Start min_usn lmod) meta down commit = refl
form_by c before (asks.ApplyGraves ids) meta down commit = refl
form_by c before (asks.ApplyChanges changes) meta down commit = refl
form_by c before asks.Chunk meta down commit = refl
form_by c before (asks.ApplyChunk chunk) meta down commit = refl
form_by c before (asks.SanityCheck2 counts) meta down commit = refl
form_by c before asks.Finish meta down commit = absurd (not_both refl commit)
form_by c before (asks.Upload whole) meta down commit = absurd (not_both refl commit)
form_by c before asks.Download meta down commit = absurd (not_both refl down)

pub form_fits : (committed : Collection) (accepted : List Request) (request : Request) → is_meta request.ask ≡ false → is_download request.ask ≡ false → asks_commit request.ask ≡ false
    → is_given_to (asked_method request.ask) (answer committed accepted request) ≡ true
unfolding answer
form_fits committed accepted request meta down commit = form_by committed (asks_of accepted) request.ask meta down commit

-- a chunk has as many entries as the rows that it is of
entries_of : (part : List Row) → chunk_rows (chunk_of part) ≡ part → chunk_entries (chunk_of part) ≡ length part
entries_of part keeps =
    let one = length-append (map rows.Review (chunk_of part).reviews) (map rows.Card (chunk_of part).cards ++ map rows.Note (chunk_of part).notes) in
    let two = length-append (map rows.Card (chunk_of part).cards) (map rows.Note (chunk_of part).notes) in
    let a = length-map (chunk_of part).reviews rows.Review in
    let b = length-map (chunk_of part).cards rows.Card in
    let d = length-map (chunk_of part).notes rows.Note in
    let same : length (chunk_rows (chunk_of part)) ≡ length part = ap length keeps in
    omega (arith, one, two, a, b, d, same)

not_short : (n : ℕ) → n ≤ 250 → nat_lt n 250 ≡ false → n ≡ 250
not_short n few long = grind (arith, few, long)

pub chunks_fit : (who : Asker) (c s : Collection) (before : List Request) (request : Request) (after : List Request) → MaySync c s → before ++ request ∷ after ≡ plan who c s → request.ask ≡ asks.Chunk
    → (chunk : Chunk) × (answer s before request ≡ gives.Chunk chunk) × (chunk_entries chunk ≤ 250) × (chunk.done ≡ false → chunk_entries chunk ≡ 250)
unfolding answer
chunks_fit who c s before request after may place is =
    let asked : List Ask = asks_of before in
    let part : List Row = slice (chunk_count asked) (server_rows s asked) in
    let checked = fold_checked c s may asked (front_checked c s may asked (request.ask ∷ asks_of after) (asked_place who c s before request after place)) in
    let keeps : chunk_rows (chunk_of part) ≡ part =
    chunk_keeps part (slice_of_three (Made rows.Review) (Made rows.Card) (Made rows.Note) (server_rows s asked) (chunk_rows_of (From (least_usn asked)) (fold_of s asked).rows (fold_named c s may asked) checked) (chunk_count asked)) in
    let few : length part ≤ 250 = slice_short (chunk_count asked) (server_rows s asked) in (
      chunk_of part,
      ap (answer_to s (asks_of before)) is,
      subst (λ (n : ℕ). n ≤ 250) (sym (entries_of part keeps)) few,
      (λ long. entries_of part keeps ∙ not_short (length part) few long),
    )

pub replies_take : (who : Asker) (c s : Collection) (before : List Request) (request : Request) (after : List Request) (usn : ℤ) (held : Rows) → MaySync c s → before ++ request ∷ after ≡ plan who c s
    → all_taken Device usn (replied (answer s before request)).rows held ≡ all_taken Device usn (given_for s (asks_of before) request.ask).rows held
unfolding answer
replies_take who c s before request after usn held may place =
    let asked : List Ask = asks_of before in
    one_rows s (asks_of before) request.ask usn held (fold_named c s may (asks_of before))
    (fold_checked c s may (asks_of before) (front_checked c s may (asks_of before) (request.ask ∷ asks_of after) (asked_place who c s before request after place)))
