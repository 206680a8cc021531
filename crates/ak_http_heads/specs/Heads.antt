-- Which bytes are the head of a request, which test it fails first, and what it asks where it fails none.
use Rattle.std.specs.Prelude.{◌≡◌, ℕ, pos, ◌≤◌, Bool, true, false, not, ◌&&◌, ◌||◌, nat_lt, if◌then◌else◌, List, map, length, take, drop, Option, Some, None, is_none, is_some, codes}
use Rattle.std.specs.List.{list_any}
use Rattle.std.specs.Option.{option_map}
use Rattle.std.specs.Str.Parse.{digits_value}
use Rattle.httparse.specs.Grammar.{RequestHead, ReadsRequest, print_request}
use Rattle.httparse.specs.Spans.{name_and_value}
use Rattle.ak_base.specs.Decimals.{is_decimal}
use Rattle.ak_messages.specs.declared.methods.Method.{Method}
use Rattle.ak_messages.specs.declared.requests.Envelope.{Envelope}
use Rattle.ak_messages.specs.Methods.{method_of}
use Rattle.ak_http_texts.specs.declared.refusals.Refusal.{Refusal}
use Rattle.ak_http_texts.specs.declared.refusals.Refusal.TheVariants as refusals
use Rattle.ak_http_heads.specs.declared.heads.Head.{Head}
use Rattle.ak_http_heads.specs.Fields.{is_text, values_of, first_of, host_in, session_in, step_in, base_in, length_in}

-- the bytes begin with this head of HTTP/1.x, which ends within the first 16,384 bytes and has at most 64 fields; the
-- rest follows it
pub record IsHead (bytes : List ℕ) (head : RequestHead) (rest : List ℕ) : Type 0 where
  pub reads : ReadsRequest bytes head rest
  pub size : length (print_request head) ≤ 16_384
  pub fields : length head.fields ≤ 64

-- they begin with none
abbrev pub HasNoHead : List ℕ → Type 0
HasNoHead bytes = (head : RequestHead) (rest : List ℕ) → ¬ (IsHead bytes head rest)

-- the method that a whole target names: `/sync/` and one of the ten names
abbrev pub route_of : List ℕ → Option Method
route_of target = if is_text (take 6 target) (codes "/sync/") then method_of (drop 6 target) else None

-- whether the length of the body is not told, or told in another way
abbrev pub lacks_length : List (List ℕ × List ℕ) → Bool
lacks_length fields =
    is_none (first_of (values_of (codes "content-length") fields))
    || is_some (first_of (values_of (codes "transfer-encoding") fields))

-- whether a value is a decimal number over 268,435,456, however long
abbrev pub is_over_limit : List ℕ → Bool
is_over_limit value = is_decimal value && nat_lt 268_435_456 (digits_value 10 value)

-- the same of a value that may be missing
abbrev pub is_over : Option (List ℕ) → Bool
is_over None = false
is_over (Some value) = is_over_limit value

-- whether the body is too long: the first of the values tells it
abbrev pub is_large : List (List ℕ × List ℕ) → Bool
is_large fields = is_over (first_of (values_of (codes "content-length") fields))

-- whether a content coding is told that is not exactly `identity`
abbrev pub is_compressed : List (List ℕ × List ℕ) → Bool
is_compressed fields =
    list_any (λ value. not (is_text value (codes "identity"))) (values_of (codes "content-encoding") fields)

-- whether a field of the envelope is missing, repeated or not of its form
abbrev pub lacks_envelope : List (List ℕ × List ℕ) → Bool
lacks_envelope fields =
    is_none (host_in fields) || (is_none (session_in fields) || (is_none (step_in fields) || is_none (base_in fields)))

-- whether one of the five fields of a request is missing, repeated or not of its form
abbrev pub lacks_header : List (List ℕ × List ℕ) → Bool
lacks_header fields = lacks_envelope fields || is_none (length_in fields)

-- the envelope that the fields tell
pub record IsEnvelope (fields : List (List ℕ × List ℕ)) (envelope : Envelope) : Type 0 where
  pub host : host_in fields ≡ Some envelope.host.digits
  pub session : session_in fields ≡ Some envelope.session.0
  pub step : step_in fields ≡ Some envelope.step
  pub base : option_map pos (base_in fields) ≡ Some envelope.base

-- what is read of the envelope: the one that the fields tell, or none where one of them is missing or not of its form
abbrev pub ReadsEnvelope : List (List ℕ × List ℕ) → Option Envelope → Type 0
ReadsEnvelope fields None = lacks_envelope fields ≡ true
ReadsEnvelope fields (Some envelope) = (lacks_envelope fields ≡ false) × IsEnvelope fields envelope

-- the first test that a method, a target and fields fail
abbrev pub fault_of : List ℕ → List ℕ → List (List ℕ × List ℕ) → Option Refusal
fault_of method target fields =
    if is_none (route_of target) then Some refusals.Route
    else if not (is_text method (codes "POST")) then Some refusals.Method
    else if lacks_length fields then Some refusals.Length
    else if is_large fields then Some refusals.Large
    else if is_compressed fields then Some refusals.Compressed
    else if lacks_header fields then Some refusals.Headers
    else None

-- the names of a head's fields, each with its value
abbrev pub fields_of : RequestHead → List (List ℕ × List ℕ)
fields_of head = map name_and_value head.fields

-- the first test that a head fails
abbrev pub head_fault : RequestHead → Option Refusal
head_fault head = fault_of head.method head.target (fields_of head)

-- what a method, a target and fields ask that fail no test
pub record Asks (method target : List ℕ) (fields : List (List ℕ × List ℕ)) (asked : Head) : Type 0 where
  pub faultless : fault_of method target fields ≡ None
  pub route : route_of target ≡ Some asked.method
  pub envelope : IsEnvelope fields asked.envelope
  pub length : length_in fields ≡ Some asked.length

-- what a head asks that fails no test
abbrev pub HeadAsks : RequestHead → Head → Type 0
HeadAsks head asked = Asks head.method head.target (fields_of head) asked
