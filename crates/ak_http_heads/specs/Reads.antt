-- What the reader of a head answers, and what it leaves.
use Rattle.std.specs.Prelude.{◌≡◌, ℕ, ◌≤◌, List, [], ◌∷◌, ◌++◌, length, Option, Some, None, Result, Ok, Err, ⊤}
use Rattle.std.specs.Io.KnownBytes.{Keeps, Consumes, IsAtEnd}
use Rattle.httparse.specs.Grammar.{RequestHead, ReadsRequest, HasNoRequest}
use Rattle.httparse.specs.Spans.{RequestOverflows}
use Rattle.ak_http_texts.specs.declared.refusals.Refusal.{Refusal}
use Rattle.ak_http_texts.specs.declared.refusals.Refusal.TheVariants as refusals
use Rattle.ak_http_heads.specs.declared.heads.Head.{Head}
use Rattle.ak_http_heads.specs.declared.heads.HeadFault.{HeadFault}
use Rattle.ak_http_heads.specs.declared.heads.HeadFault.TheVariants as faults
use Rattle.ak_http_heads.specs.Heads.{IsHead, HasNoHead, head_fault, HeadAsks}

-- what is left of the bytes once some of their front was read
abbrev pub IsRest : List ℕ → List ℕ → Type 0
IsRest bytes left = (read : List ℕ) × (bytes ≡ read ++ left)

-- bytes without a head are refused as such, and some are read; a head is refused by the first test that it fails, and
-- exactly its bytes are read
abbrev pub RefusesHead : List ℕ → List ℕ → Refusal → Type 0
RefusesHead bytes left refusals.Head = HasNoHead bytes × IsRest bytes left
RefusesHead bytes left why = (head : RequestHead) × IsHead bytes head left × (head_fault head ≡ Some why)

-- the answer to these bytes, and those left: what a head asks that fails no test, of which exactly its bytes are read;
-- else the refusal. Where the source failed or memory ran out some bytes are read.
abbrev pub ReadsHead : List ℕ → List ℕ → Result Head HeadFault → Type 0
ReadsHead bytes left (Ok asked) = (head : RequestHead) × IsHead bytes head left × HeadAsks head asked
ReadsHead bytes left (Err (faults.Refused why)) = RefusesHead bytes left why
ReadsHead bytes left (Err faults.Failed) = IsRest bytes left
ReadsHead bytes left (Err faults.Memory) = IsRest bytes left

-- the answers that the bytes alone decide
abbrev pub IsReading : Result Head HeadFault → Type 0
IsReading (Ok asked) = ⊤
IsReading (Err (faults.Refused why)) = ⊤
IsReading (Err faults.Failed) = ⊥
IsReading (Err faults.Memory) = ⊥

-- the answer to the bytes of a source, where it tells them
abbrev pub ReadsHeadFrom : Option (List ℕ) → Option (List ℕ) → Result Head HeadFault → Type 0
ReadsHeadFrom None new result = ⊤
ReadsHeadFrom (Some bytes) None result = ⊥
ReadsHeadFrom (Some bytes) (Some left) result = ReadsHead bytes left result

-- ---- the steps

-- a byte was taken of the bytes left, or there was none
abbrev pub TakesByte : Option (List ℕ) → Option (List ℕ) → Option ℕ → Type 0
TakesByte old new None = Keeps old new × IsAtEnd new
TakesByte old new (Some byte) = Consumes old new (byte ∷ [])

-- what bytes are read as that had no head without the last of them: the head is all of them, or there is none so far,
-- or there is none whatever follows
abbrev pub ReadsEnd : List ℕ → Result (Option Head) Refusal → Type 0
ReadsEnd bytes (Ok None) = HasNoHead bytes
ReadsEnd bytes (Ok (Some asked)) = (head : RequestHead) × IsHead bytes head [] × HeadAsks head asked
ReadsEnd bytes (Err refusals.Head) = RequestOverflows 64 bytes
ReadsEnd bytes (Err why) = (head : RequestHead) × IsHead bytes head [] × (head_fault head ≡ Some why)

-- the bytes begin with this head, of at most 64 fields
abbrev pub HasHead : List ℕ → RequestHead → Type 0
HasHead bytes head = (rest : List ℕ) × ReadsRequest bytes head rest × (length head.fields ≤ 64)

-- what bytes are parsed to, of which more may follow: what the head at their front asks, or that there is none so far;
-- else its refusal, or that there is none of at most 64 fields, whatever follows
abbrev pub ParsesHead : List ℕ → Result (Option Head) Refusal → Type 0
ParsesHead bytes (Ok None) = HasNoRequest bytes
ParsesHead bytes (Ok (Some asked)) = (head : RequestHead) × HasHead bytes head × HeadAsks head asked
ParsesHead bytes (Err refusals.Head) = RequestOverflows 64 bytes
ParsesHead bytes (Err why) = (head : RequestHead) × HasHead bytes head × (head_fault head ≡ Some why)
