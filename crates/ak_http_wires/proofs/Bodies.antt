-- A body that is read piece by piece.
use Rattle.std.proofs.Common.{◌≡◌, ℕ, ◌<◌, List, [], ◌++◌, Option, None, Some, Ok, Err, length, refl, sym, ap, ◌∙◌, arith, append_assoc}
use Rattle.std.proofs.lemmas.List.{length-append}
use Rattle.std.specs.Io.KnownBytes.{Consumes, IsAtEnd}
use Rattle.ak_http_wires.specs.Answers.{ReadsBodyFrom}
use Rattle.ak_http_wires.specs.declared.answers.AnswerFault.{AnswerFault}
use Rattle.ak_http_wires.specs.declared.answers.AnswerFault.TheVariants as faults

-- a piece follows what was read
pub consumes_further : (w0 w1 w2 : Option (List ℕ)) (body piece grown : List ℕ) → Consumes w0 w1 body → Consumes w1 w2 piece
    → grown ≡ body ++ piece → Consumes w0 w2 grown
consumes_further None w1 w2 body piece grown first more is = tt
consumes_further (Some a) None w2 body piece grown first more is = absurd first
consumes_further (Some a) (Some b) None body piece grown first more is = absurd more
consumes_further (Some a) (Some b) (Some c) body piece grown first more is =
    first ∙ ap (λ l. body ++ l) more ∙ sym (append_assoc body piece c) ∙ ap (λ l. l ++ c) (sym is)

-- nothing was read
pub consumes_nothing : (w : Option (List ℕ)) (body : List ℕ) → body ≡ [] → Consumes w w body
consumes_nothing None body is = tt
consumes_nothing (Some a) body is = ap (λ l. l ++ a) (sym is)

-- all that was asked for was read
pub body_whole : (size : ℕ) (w0 w1 : Option (List ℕ)) (body : List ℕ) → Consumes w0 w1 body → length body ≡ size
    → ReadsBodyFrom size w0 (Ok body)
body_whole size None w1 body so_far is = tt
body_whole size (Some a) None body so_far is = absurd so_far
body_whole size (Some a) (Some b) body so_far is = (b, so_far, is)

-- the input ended before
pub body_cut : (size : ℕ) (w0 w1 w2 : Option (List ℕ)) (body piece : List ℕ) → Consumes w0 w1 body → length body < size
    → Consumes w1 w2 piece → length piece ≡ 0 → IsAtEnd w2 → ReadsBodyFrom size w0 (Err faults.Unreadable)
body_cut size None w1 w2 body piece so_far short more none end = tt
body_cut size (Some a) None w2 body piece so_far short more none end = absurd so_far
body_cut size (Some a) (Some b) None body piece so_far short more none end = absurd more
body_cut size (Some a) (Some b) (Some c) body piece so_far short more none end =
    omega (arith, ap length so_far, ap length more, ap length end, length-append body b, length-append piece c)

-- nothing is said where the link failed, or memory ran out
pub body_unread : (size : ℕ) (w : Option (List ℕ)) (fault : AnswerFault) → (fault ≡ faults.Unreadable → ⊥) → ReadsBodyFrom size w (Err fault)
body_unread size None fault is = tt
body_unread size (Some a) faults.Unreadable is = absurd (is refl)
body_unread size (Some a) faults.Failed is = tt
body_unread size (Some a) faults.Memory is = tt
