-- Which bytes of an answer are read as which reply.
use Rattle.std.specs.Prelude.{◌≡◌, ℕ, ◌<◌, ◌≤◌, List, ◌++◌, length, Option, Some, None, Result, Ok, Err, ⊤}
use Rattle.std.specs.Io.KnownBytes.{Consumes, IsAtEnd}
use Rattle.httparse.specs.Grammar.{ResponseHead, status_code}
use Rattle.ak_messages.specs.declared.methods.Method.{Method}
use Rattle.ak_messages.specs.declared.replies.Reply.{Reply}
use Rattle.ak_wire.specs.Replies.{ReadsReply}
use Rattle.ak_wire.specs.declared.wire_faults.WireFault.{WireFault}
use Rattle.ak_wire.specs.declared.wire_faults.WireFault.TheVariants as wires
use Rattle.ak_http_wires.specs.AnswerHeads.{IsAnswerHead, told_length}
use Rattle.ak_http_wires.specs.declared.answers.AnswerFault.{AnswerFault}
use Rattle.ak_http_wires.specs.declared.answers.AnswerFault.TheVariants as faults

-- the bytes are the answer to a request of this method that brings this reply: a head, a body of the length that it tells,
-- which is this reply by the status of the head, and whatever follows
pub record IsAnswer (method : Method) (bytes : List ℕ) (reply : Reply) : Type 0 where
  pub head : ResponseHead
  pub behind : List ℕ
  pub body : List ℕ
  pub rest : List ℕ
  pub is_head : IsAnswerHead bytes head behind
  pub parts : behind ≡ body ++ rest
  pub size : told_length head ≡ Some (length body)
  pub reads : ReadsReply method (status_code head) body reply

-- they have no reading
abbrev pub HasNoReading : Method → List ℕ → Type 0
HasNoReading method bytes = (reply : Reply) → ¬ (IsAnswer method bytes reply)

-- what a reader answers to bytes: the reply of their reading, or that they have none
abbrev pub ReadsAnswer : Method → List ℕ → Result Reply AnswerFault → Type 0
ReadsAnswer method bytes (Ok reply) = IsAnswer method bytes reply
ReadsAnswer method bytes (Err faults.Unreadable) = HasNoReading method bytes
ReadsAnswer method bytes (Err faults.Failed) = ⊤
ReadsAnswer method bytes (Err faults.Memory) = ⊤

-- the same of a source that may tell its bytes
abbrev pub ReadsAnswerFrom : Method → Option (List ℕ) → Result Reply AnswerFault → Type 0
ReadsAnswerFrom method None result = ⊤
ReadsAnswerFrom method (Some bytes) result = ReadsAnswer method bytes result

-- ---- the steps

-- what a reader of a body of a size answers to bytes: exactly so many from their front, or that they end too soon
abbrev pub ReadsBody : ℕ → List ℕ → Result (List ℕ) AnswerFault → Type 0
ReadsBody size bytes (Ok body) = (rest : List ℕ) × (bytes ≡ body ++ rest) × (length body ≡ size)
ReadsBody size bytes (Err faults.Unreadable) = length bytes < size
ReadsBody size bytes (Err faults.Failed) = ⊤
ReadsBody size bytes (Err faults.Memory) = ⊤

-- the same of a source that may tell its bytes
abbrev pub ReadsBodyFrom : ℕ → Option (List ℕ) → Result (List ℕ) AnswerFault → Type 0
ReadsBodyFrom size None result = ⊤
ReadsBodyFrom size (Some bytes) result = ReadsBody size bytes result

-- what a reader of a piece answers, of a body that this many bytes are missing of: how many bytes from the front were added
-- to it, no more than were missing, and none only at the end
abbrev pub ReadsPiece : ℕ → Option (List ℕ) → Option (List ℕ) → List ℕ → List ℕ → Result ℕ AnswerFault → Type 0
ReadsPiece missing old new body grown (Ok count) =
    (piece : List ℕ) × (grown ≡ body ++ piece) × (length piece ≡ count) × (count ≤ missing) × Consumes old new piece
    × (count ≡ 0 → IsAtEnd new)
ReadsPiece missing old new body grown (Err faults.Unreadable) = ⊥
ReadsPiece missing old new body grown (Err faults.Failed) = ⊤
ReadsPiece missing old new body grown (Err faults.Memory) = ⊤

-- why there is no reply whose body is refused so
abbrev pub fault_of : WireFault → AnswerFault
fault_of (wires.Json fault) = faults.Unreadable
fault_of (wires.TooManyRows entries) = faults.Unreadable
fault_of (wires.RowOrder table) = faults.Unreadable
fault_of wires.Memory = faults.Memory
