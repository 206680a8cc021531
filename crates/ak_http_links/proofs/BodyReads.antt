-- A body that is read piece by piece.
use Rattle.std.proofs.Common.{◌≡◌, ℕ, ◌<◌, List, [], ◌++◌, Option, None, Some, Ok, Err, length, refl, sym, ap, ◌∙◌, arith, append_assoc}
use Rattle.std.proofs.lemmas.List.{length-append}
use Rattle.std.specs.Io.KnownBytes.{Consumes, IsAtEnd}
use Rattle.ak_http_texts.specs.declared.refusals.Refusal.TheVariants as refusals
use Rattle.ak_http_links.specs.LinkReads.{HasRest, ReadsBodyFrom, ReadsPiece}
use Rattle.ak_http_links.specs.declared.requests.RequestFault.{RequestFault}
use Rattle.ak_http_links.specs.declared.requests.RequestFault.TheVariants as faults

-- a piece follows what was read
pub consumes_further : (w0 w1 w2 : Option (List ℕ)) (body piece grown : List ℕ) → Consumes w0 w1 body → Consumes w1 w2 piece
    → grown ≡ body ++ piece → Consumes w0 w2 grown
consumes_further None w1 w2 body piece grown first more is = tt
consumes_further (Some a) None w2 body piece grown first more is = absurd first
consumes_further (Some a) (Some b) None body piece grown first more is = absurd more
consumes_further (Some a) (Some b) (Some c) body piece grown first more is =
    first ∙ ap (λ l. body ++ l) more ∙ sym (append_assoc body piece c) ∙ ap (λ l. l ++ c) (sym is)

-- all that was asked for was read
pub body_whole : (size : ℕ) (w0 w1 : Option (List ℕ)) (body : List ℕ) → Consumes w0 w1 body → length body ≡ size
    → ReadsBodyFrom size w0 w1 (Ok body)
body_whole size None w1 body so_far is = tt
body_whole size (Some a) None body so_far is = so_far
body_whole size (Some a) (Some b) body so_far is = (so_far, is)

-- the input ended before
pub body_cut : (size : ℕ) (w0 w1 w2 : Option (List ℕ)) (body piece : List ℕ) → Consumes w0 w1 body → length body < size
    → Consumes w1 w2 piece → length piece ≡ 0 → IsAtEnd w2 → ReadsBodyFrom size w0 w2 (Err (faults.Refused refusals.Cut))
body_cut size None w1 w2 body piece so_far short more none end = tt
body_cut size (Some a) None w2 body piece so_far short more none end = absurd so_far
body_cut size (Some a) (Some b) None body piece so_far short more none end = absurd more
body_cut size (Some a) (Some b) (Some c) body piece so_far short more none end = (
  omega (arith, ap length so_far, ap length more, ap length end, length-append body b, length-append piece c),
  end,
)

-- some bytes were read, and then some more
pub rest_further : (w0 w1 w2 : Option (List ℕ)) (body : List ℕ) → Consumes w0 w1 body → HasRest w1 w2 → HasRest w0 w2
rest_further None w1 w2 body so_far rest = tt
rest_further (Some a) None w2 body so_far rest = absurd so_far
rest_further (Some a) (Some b) None body so_far rest = absurd rest
rest_further (Some a) (Some b) (Some c) body so_far (read, is) =
    (body ++ read, so_far ∙ ap (λ l. body ++ l) is ∙ sym (append_assoc body read c))

-- memory ran out on the way, or the link failed
pub body_out : (size : ℕ) (w0 w2 : Option (List ℕ)) → HasRest w0 w2 → ReadsBodyFrom size w0 w2 (Err (faults.Refused refusals.Memory))
body_out size None w2 rest = tt
body_out size (Some a) None rest = rest
body_out size (Some a) (Some c) rest = rest

pub body_failed : (size : ℕ) (w0 w2 : Option (List ℕ)) → HasRest w0 w2 → ReadsBodyFrom size w0 w2 (Err faults.Failed)
body_failed size None w2 rest = tt
body_failed size (Some a) None rest = rest
body_failed size (Some a) (Some c) rest = rest

-- nothing was read
pub nothing_read : (w : Option (List ℕ)) → HasRest w w
nothing_read None = tt
nothing_read (Some a) = ([], refl)

-- no piece was read
pub piece_fails : (size missing : ℕ) (w0 w1 w2 : Option (List ℕ)) (body grown : List ℕ) (fault : RequestFault) → Consumes w0 w1 body
    → ReadsPiece missing w1 w2 body grown (Err fault) → ReadsBodyFrom size w0 w2 (Err fault)
piece_fails size missing w0 w1 w2 body grown faults.Failed so_far told = body_failed size w0 w2 (rest_further w0 w1 w2 body so_far told.1)
piece_fails size missing w0 w1 w2 body grown (faults.Refused refusals.Memory) so_far told =
    body_out size w0 w2 (rest_further w0 w1 w2 body so_far told)
piece_fails size missing w0 w1 w2 body grown (faults.Refused refusals.Head) so_far told = absurd told
piece_fails size missing w0 w1 w2 body grown (faults.Refused refusals.Route) so_far told = absurd told
piece_fails size missing w0 w1 w2 body grown (faults.Refused refusals.Method) so_far told = absurd told
piece_fails size missing w0 w1 w2 body grown (faults.Refused refusals.Length) so_far told = absurd told
piece_fails size missing w0 w1 w2 body grown (faults.Refused refusals.Large) so_far told = absurd told
piece_fails size missing w0 w1 w2 body grown (faults.Refused refusals.Compressed) so_far told = absurd told
piece_fails size missing w0 w1 w2 body grown (faults.Refused refusals.Headers) so_far told = absurd told
piece_fails size missing w0 w1 w2 body grown (faults.Refused refusals.Cut) so_far told = absurd told
piece_fails size missing w0 w1 w2 body grown (faults.Refused refusals.Body) so_far told = absurd told
