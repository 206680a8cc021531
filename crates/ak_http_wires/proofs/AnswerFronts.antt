-- What the parser's answers say of the head at the front of bytes.
use Rattle.std.proofs.Common.{◌≡◌, ◌∙◌, ℕ, ◌<◌, List, ◌++◌, length, drop, map, None, sym, ap, arith}
use Rattle.std.proofs.lemmas.List.{length-map}
use Rattle.httparse.specs.declared.borrowed.Header.{Header}
use Rattle.httparse.specs.declared.borrowed.Response.{Response}
use Rattle.httparse.specs.Borrowed.{header_parts, AreFields, HoldsSomeResponse}
use Rattle.httparse.specs.Grammar.{ResponseHead}
use Rattle.httparse.specs.Spans.{name_and_value, ResponseOverflows}
use Rattle.httparse.proofs.GrammarLemmas.{response_prefix_free}
use Rattle.ak_http_heads.specs.Fields.{length_in}
use Rattle.ak_http_wires.specs.AnswerHeads.{HasNoLength, told_length}

-- there are as many headers as fields
counted : (headers : List Header) (head : ResponseHead) → AreFields headers head.fields → length headers ≡ length head.fields
counted headers head are = sym (length-map headers header_parts) ∙ ap length are ∙ length-map head.fields name_and_value

-- a head of more fields than 64 is the only one, whatever follows
pub too_many : (bytes : List ℕ) (len : ℕ) (response : Response) → HoldsSomeResponse bytes response len → 64 < length response.headers.now
    → (more : List ℕ) → HasNoLength (bytes ++ more)
too_many bytes len response held many more head rest is =
    let same = response_prefix_free bytes more held.0 head (drop len bytes) rest held.1.reads is.reads in
    absurd (omega (arith, counted response.headers.now held.0 held.1.fields, ap (λ k. length k.fields) same.0, is.fields))

-- whatever follows, a head that tells no length is the only one
pub no_length : (bytes : List ℕ) (len : ℕ) (response : Response) → HoldsSomeResponse bytes response len
    → length_in (map header_parts response.headers.now) ≡ None → (more : List ℕ) → HasNoLength (bytes ++ more)
no_length bytes len response held none more head rest is =
    let same = response_prefix_free bytes more held.0 head (drop len bytes) rest held.1.reads is.reads in
    ap told_length (sym same.0) ∙ ap length_in (sym held.1.fields) ∙ none

-- whatever follows, there is no head in this room
pub no_room : (bytes : List ℕ) → ResponseOverflows 64 bytes → (more : List ℕ) → HasNoLength (bytes ++ more)
no_room bytes overflows more head rest is = absurd (omega (arith, overflows more head rest is.reads, is.fields))
