-- Which bytes are the head of an answer, and what it tells.
use Rattle.std.specs.Prelude.{◌≡◌, ℕ, ◌≤◌, List, [], ◌++◌, length, map, Option, Some, None, Result, Ok, Err, ⊤}
use Rattle.httparse.specs.Grammar.{ResponseHead, ReadsResponse, HasNoResponse, print_response, status_code}
use Rattle.httparse.specs.Spans.{name_and_value}
use Rattle.ak_http_heads.specs.Fields.{length_in}
use Rattle.ak_http_wires.specs.declared.answer_heads.AnswerHead.{AnswerHead}
use Rattle.ak_http_wires.specs.declared.answer_heads.Front.{Front}
use Rattle.ak_http_wires.specs.declared.answer_heads.Front.TheVariants as fronts
use Rattle.ak_http_wires.specs.declared.answers.AnswerFault.{AnswerFault}
use Rattle.ak_http_wires.specs.declared.answers.AnswerFault.TheVariants as faults

-- the bytes begin with this head of HTTP/1.x, within the first 16,384 bytes and with at most 64 fields, and the rest follows
pub record IsAnswerHead (bytes : List ℕ) (head : ResponseHead) (rest : List ℕ) : Type 0 where
  pub reads : ReadsResponse bytes head rest
  pub size : length (print_response head) ≤ 16_384
  pub fields : length head.fields ≤ 64

-- they begin with none
abbrev pub HasNoAnswerHead : List ℕ → Type 0
HasNoAnswerHead bytes = (head : ResponseHead) (rest : List ℕ) → ¬ (IsAnswerHead bytes head rest)

-- the length of the body that a head tells: the value of its one `Content-Length`, if it is a decimal number of at most
-- 268,435,456 without sign or leading zero
abbrev pub told_length : ResponseHead → Option ℕ
told_length head = length_in (map name_and_value head.fields)

-- what a head tells
pub record Tells (head : ResponseHead) (told : AnswerHead) : Type 0 where
  pub status : told.status ≡ status_code head
  pub length : told_length head ≡ Some told.length

-- the bytes begin with no head that tells a length
abbrev pub HasNoLength : List ℕ → Type 0
HasNoLength bytes = (head : ResponseHead) (rest : List ℕ) → IsAnswerHead bytes head rest → told_length head ≡ None

-- the answer to these bytes, and those left: what their head tells, of which exactly its bytes are read. It is refused if
-- there is no head that tells a length
abbrev pub ReadsAnswerHead : List ℕ → List ℕ → Result AnswerHead AnswerFault → Type 0
ReadsAnswerHead bytes left (Ok told) = (head : ResponseHead) × IsAnswerHead bytes head left × Tells head told
ReadsAnswerHead bytes left (Err faults.Unreadable) = HasNoLength bytes
ReadsAnswerHead bytes left (Err faults.Failed) = ⊤
ReadsAnswerHead bytes left (Err faults.Memory) = ⊤

-- the same of a source that may have told its bytes
abbrev pub ReadsAnswerHeadFrom : Option (List ℕ) → Option (List ℕ) → Result AnswerHead AnswerFault → Type 0
ReadsAnswerHeadFrom None new result = ⊤
ReadsAnswerHeadFrom (Some bytes) None result = ⊥
ReadsAnswerHeadFrom (Some bytes) (Some left) result = ReadsAnswerHead bytes left result

-- ---- the steps

-- what bytes are read as that had no head without the last of them: the head is all of them, or there is none so far, or
-- there is none that tells a length, whatever follows
abbrev pub ReadsAnswerEnd : List ℕ → Front → Type 0
ReadsAnswerEnd bytes fronts.Open = HasNoAnswerHead bytes
ReadsAnswerEnd bytes (fronts.Head told) = (head : ResponseHead) × IsAnswerHead bytes head [] × Tells head told
ReadsAnswerEnd bytes fronts.Unreadable = (more : List ℕ) → HasNoLength (bytes ++ more)

-- the bytes begin with this head, of at most 64 fields
abbrev pub HasAnswerHead : List ℕ → ResponseHead → Type 0
HasAnswerHead bytes head = (rest : List ℕ) × ReadsResponse bytes head rest × (length head.fields ≤ 64)

-- what bytes are parsed to, of which more may follow
abbrev pub ParsesAnswerHead : List ℕ → Front → Type 0
ParsesAnswerHead bytes fronts.Open = HasNoResponse bytes
ParsesAnswerHead bytes (fronts.Head told) = (head : ResponseHead) × HasAnswerHead bytes head × Tells head told
ParsesAnswerHead bytes fronts.Unreadable = (more : List ℕ) → HasNoLength (bytes ++ more)
