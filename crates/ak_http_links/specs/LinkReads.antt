-- What the bytes of a link ask: one request, or a refusal by name.
use Rattle.std.specs.Prelude.{◌≡◌, ◌≢◌, ◌<◌, ◌≤◌, ℕ, List, [], ◌++◌, length, Option, Some, None, Result, Ok, Err, ⊤}
use Rattle.std.specs.Io.KnownBytes.{Consumes, IsAtEnd}
use Rattle.httparse.specs.Grammar.{RequestHead}
use Rattle.ak_http_heads.specs.Heads.{IsHead, HeadAsks}
use Rattle.ak_http_heads.specs.Reads.{IsRest, RefusesHead}
use Rattle.ak_http_heads.specs.declared.heads.Head.{Head}
use Rattle.ak_http_heads.specs.declared.heads.HeadFault.{HeadFault}
use Rattle.ak_http_heads.specs.declared.heads.HeadFault.TheVariants as heads
use Rattle.ak_http_texts.specs.declared.refusals.Refusal.{Refusal}
use Rattle.ak_http_texts.specs.declared.refusals.Refusal.TheVariants as refusals
use Rattle.ak_messages.specs.declared.methods.Method.{Method}
use Rattle.ak_messages.specs.declared.requests.Request.{Request}
use Rattle.ak_wire.specs.Requests.{ReadsRequest, RefusesRequest}
use Rattle.ak_wire.specs.declared.wire_faults.WireFault.{WireFault}
use Rattle.ak_wire.specs.declared.wire_faults.WireFault.TheVariants as wires
use Rattle.ak_http_links.specs.declared.requests.RequestFault.{RequestFault}
use Rattle.ak_http_links.specs.declared.requests.RequestFault.TheVariants as faults

-- the bytes are a head that asks this, a body of the length that it tells, and what is left
pub record IsWhole (bytes : List ℕ) (asked : Head) (body left : List ℕ) : Type 0 where
  pub head : RequestHead
  pub behind : List ℕ
  pub is_head : IsHead bytes head behind
  pub asks : HeadAsks head asked
  pub parts : behind ≡ body ++ left
  pub size : length body ≡ asked.length

-- the bytes are a head that asks this, and end within the body
pub record IsCut (bytes : List ℕ) (asked : Head) : Type 0 where
  pub head : RequestHead
  pub behind : List ℕ
  pub is_head : IsHead bytes head behind
  pub asks : HeadAsks head asked
  pub short : length behind < asked.length

-- a body is no request of its method
abbrev pub IsNoRequest : Method → List ℕ → Type 0
IsNoRequest method body = (fault : WireFault) × (fault ≢ wires.Memory) × RefusesRequest method body fault

-- the bytes are refused so, and these are left: none where they end within the body, those behind the body where it is no request
abbrev pub RefusesBytes : List ℕ → List ℕ → Refusal → Type 0
RefusesBytes bytes left refusals.Cut = ((asked : Head) × IsCut bytes asked) × (left ≡ [])
RefusesBytes bytes left refusals.Body = (asked : Head) × (body : List ℕ) × IsWhole bytes asked body left × IsNoRequest asked.method body
RefusesBytes bytes left refusals.Memory = IsRest bytes left
RefusesBytes bytes left why = RefusesHead bytes left why

-- the bytes ask this request, and these are left behind its body
abbrev pub AsksRequest : List ℕ → List ℕ → Request → Type 0
AsksRequest bytes left request =
    (asked : Head) × (body : List ℕ) × IsWhole bytes asked body left × ReadsRequest asked.envelope asked.method body request

-- what the bytes of a link ask, and those that are left
abbrev pub ReadsBytes : List ℕ → List ℕ → Result Request Refusal → Type 0
ReadsBytes bytes left (Ok request) = AsksRequest bytes left request
ReadsBytes bytes left (Err why) = RefusesBytes bytes left why

-- the same of a link that may have told its bytes
abbrev pub ReadsLink : Option (List ℕ) → Option (List ℕ) → Result Request Refusal → Type 0
ReadsLink None new reading = ⊤
ReadsLink (Some bytes) None reading = ⊥
ReadsLink (Some bytes) (Some left) reading = ReadsBytes bytes left reading

-- some of the bytes of a link that may have told them were read
abbrev pub HasRest : Option (List ℕ) → Option (List ℕ) → Type 0
HasRest None new = ⊤
HasRest (Some bytes) None = ⊥
HasRest (Some bytes) (Some left) = IsRest bytes left

-- what a reader of requests answers to the bytes of a link, and what it leaves. If the link failed some bytes were read
abbrev pub ReadsOrFails : Option (List ℕ) → Option (List ℕ) → Result Request RequestFault → Type 0
ReadsOrFails old new (Ok request) = ReadsLink old new (Ok request)
ReadsOrFails old new (Err (faults.Refused why)) = ReadsLink old new (Err why)
ReadsOrFails old new (Err faults.Failed) = HasRest old new

-- what a reader of bodies of a size answers to bytes: exactly so many from their front; or that they end too soon; or, if the link
-- failed or memory is out, anything of their front
abbrev pub ReadsBody : ℕ → List ℕ → List ℕ → Result (List ℕ) RequestFault → Type 0
ReadsBody size bytes left (Ok body) = (bytes ≡ body ++ left) × (length body ≡ size)
ReadsBody size bytes left (Err (faults.Refused refusals.Cut)) = (length bytes < size) × (left ≡ [])
ReadsBody size bytes left (Err (faults.Refused refusals.Memory)) = IsRest bytes left
ReadsBody size bytes left (Err (faults.Refused why)) = ⊥
ReadsBody size bytes left (Err faults.Failed) = IsRest bytes left

-- the same of a link that may have told its bytes
abbrev pub ReadsBodyFrom : ℕ → Option (List ℕ) → Option (List ℕ) → Result (List ℕ) RequestFault → Type 0
ReadsBodyFrom size None new result = ⊤
ReadsBodyFrom size (Some bytes) None result = ⊥
ReadsBodyFrom size (Some bytes) (Some left) result = ReadsBody size bytes left result

-- what a reader of a piece answers, of a body that this many bytes are missing of: how many bytes from the front were added to it, no
-- more than were missing, and none only at the end
abbrev pub ReadsPiece : ℕ → Option (List ℕ) → Option (List ℕ) → List ℕ → List ℕ → Result ℕ RequestFault → Type 0
ReadsPiece missing old new body grown (Ok count) =
    (piece : List ℕ) × (grown ≡ body ++ piece) × (length piece ≡ count) × (count ≤ missing) × Consumes old new piece × (count ≡ 0 → IsAtEnd new)
ReadsPiece missing old new body grown (Err (faults.Refused refusals.Memory)) = HasRest old new
ReadsPiece missing old new body grown (Err (faults.Refused why)) = ⊥
ReadsPiece missing old new body grown (Err faults.Failed) = (grown ≡ body) × HasRest old new

-- why no request was read, by why no head was
abbrev pub of_head : HeadFault → RequestFault
of_head (heads.Refused why) = faults.Refused why
of_head heads.Failed = faults.Failed
of_head heads.Memory = faults.Refused refusals.Memory

-- what the body of a request answers: what it asks, or that it is no request of the method, or that memory is out
abbrev pub AnswersBody : Head → List ℕ → Result Request RequestFault → Type 0
AnswersBody asked body (Ok request) = ReadsRequest asked.envelope asked.method body request
AnswersBody asked body (Err (faults.Refused refusals.Body)) = IsNoRequest asked.method body
AnswersBody asked body (Err (faults.Refused refusals.Memory)) = ⊤
AnswersBody asked body (Err (faults.Refused why)) = ⊥
AnswersBody asked body (Err faults.Failed) = ⊥

-- a reading that the bytes alone decide: memory was not out
abbrev pub IsDecided : Result Request Refusal → Type 0
IsDecided (Ok request) = ⊤
IsDecided (Err refusals.Memory) = ⊥
IsDecided (Err why) = ⊤
