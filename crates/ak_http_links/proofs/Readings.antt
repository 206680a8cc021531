-- What a link asks, from what its head and its body are read as.
use Rattle.std.proofs.Common.{◌≡◌, ℕ, List, ◌++◌, Bool, true, false, cond, Option, None, Some, Result, Ok, Err, sym, ap, ◌∙◌, subst, append_assoc}
use Rattle.httparse.specs.Grammar.{RequestHead, print_request}
use Rattle.ak_http_heads.specs.Heads.{IsHead, fault_of, fields_of, head_fault}
use Rattle.ak_http_heads.specs.Reads.{IsRest, ReadsHeadFrom, RefusesHead}
use Rattle.ak_http_heads.specs.declared.heads.Head.{Head}
use Rattle.ak_http_heads.specs.declared.heads.HeadFault.{HeadFault}
use Rattle.ak_http_heads.specs.declared.heads.HeadFault.TheVariants as heads
use Rattle.ak_http_texts.specs.declared.refusals.Refusal.{Refusal}
use Rattle.ak_http_texts.specs.declared.refusals.Refusal.TheVariants as refusals
use Rattle.ak_messages.specs.declared.requests.Request.{Request}
use Rattle.ak_http_links.specs.LinkReads.{IsDecided, AnswersBody, ReadsBodyFrom, ReadsOrFails, RefusesBytes, of_head}
use Rattle.ak_http_links.specs.declared.requests.RequestFault.{RequestFault}
use Rattle.ak_http_links.specs.declared.requests.RequestFault.TheVariants as faults

-- ---- the refusals that a head's fields may draw

-- a fault of a head's fields
IsOfFields : Option Refusal → Type 0
IsOfFields None = Unit {0}
IsOfFields (Some refusals.Head) = ⊥
IsOfFields (Some refusals.Cut) = ⊥
IsOfFields (Some refusals.Body) = ⊥
IsOfFields (Some refusals.Memory) = ⊥
IsOfFields (Some why) = Unit {0}

record EachIsOfFields : Type 0 where
  none : IsOfFields None
  route : IsOfFields (Some refusals.Route)
  method : IsOfFields (Some refusals.Method)
  length : IsOfFields (Some refusals.Length)
  large : IsOfFields (Some refusals.Large)
  compressed : IsOfFields (Some refusals.Compressed)
  headers : IsOfFields (Some refusals.Headers)

each_is : EachIsOfFields
unfolding IsOfFields
each_is = record { none = tt; route = tt; method = tt; length = tt; large = tt; compressed = tt; headers = tt }

record NoneElse : Type 0 where
  head : IsOfFields (Some refusals.Head) → ⊥
  cut : IsOfFields (Some refusals.Cut) → ⊥
  body : IsOfFields (Some refusals.Body) → ⊥
  memory : IsOfFields (Some refusals.Memory) → ⊥

none_else : NoneElse
unfolding IsOfFields
none_else = record { head = λ h. h; cut = λ h. h; body = λ h. h; memory = λ h. h }

either : (b : Bool) (x y : Option Refusal) → IsOfFields x → IsOfFields y → IsOfFields (cond b x y)
either true x y here there = here
either false x y here there = there

of_fields : (method target : List ℕ) (fields : List (List ℕ × List ℕ)) → IsOfFields (fault_of method target fields)
of_fields method target fields =
    either _ _ _ each_is.route
    (either _ _ _ each_is.method
    (either _ _ _ each_is.length
    (either _ _ _ each_is.large
    (either _ _ _ each_is.compressed
    (either _ _ _ each_is.headers each_is.none)))))

-- ---- a head

-- what is behind a head is a rest
pub behind_head : (bytes behind : List ℕ) (head : RequestHead) → IsHead bytes head behind → IsRest bytes behind
behind_head bytes behind head is = (print_request head, is.reads.1)

-- a refused head is refused bytes
refused_head : (bytes left : List ℕ) (why : Refusal) → RefusesHead bytes left why → RefusesBytes bytes left why
refused_head bytes left refusals.Head told = told
refused_head bytes left refusals.Route told = told
refused_head bytes left refusals.Method told = told
refused_head bytes left refusals.Length told = told
refused_head bytes left refusals.Large told = told
refused_head bytes left refusals.Compressed told = told
refused_head bytes left refusals.Headers told = told
refused_head bytes left refusals.Cut (head, is, fault) = absurd (none_else.cut (subst IsOfFields fault (of_fields head.method head.target (fields_of head))))
refused_head bytes left refusals.Body (head, is, fault) = absurd (none_else.body (subst IsOfFields fault (of_fields head.method head.target (fields_of head))))
refused_head bytes left refusals.Memory (head, is, fault) = absurd (none_else.memory (subst IsOfFields fault (of_fields head.method head.target (fields_of head))))

-- a head that fails a test is refused by it
pub field_refusal : (bytes left : List ℕ) (head : RequestHead) (why : Refusal) → IsHead bytes head left → head_fault head ≡ Some why
    → IsDecided (Err why) × RefusesBytes bytes left why
field_refusal bytes left head refusals.Route is fault = (tt, (head, is, fault))
field_refusal bytes left head refusals.Method is fault = (tt, (head, is, fault))
field_refusal bytes left head refusals.Length is fault = (tt, (head, is, fault))
field_refusal bytes left head refusals.Large is fault = (tt, (head, is, fault))
field_refusal bytes left head refusals.Compressed is fault = (tt, (head, is, fault))
field_refusal bytes left head refusals.Headers is fault = (tt, (head, is, fault))
field_refusal bytes left head refusals.Head is fault = absurd (none_else.head (subst IsOfFields fault (of_fields head.method head.target (fields_of head))))
field_refusal bytes left head refusals.Cut is fault = absurd (none_else.cut (subst IsOfFields fault (of_fields head.method head.target (fields_of head))))
field_refusal bytes left head refusals.Body is fault = absurd (none_else.body (subst IsOfFields fault (of_fields head.method head.target (fields_of head))))
field_refusal bytes left head refusals.Memory is fault = absurd (none_else.memory (subst IsOfFields fault (of_fields head.method head.target (fields_of head))))

pub head_fails : (w0 w1 : Option (List ℕ)) (fault : HeadFault) → ReadsHeadFrom w0 w1 (Err fault) → ReadsOrFails w0 w1 (Err (of_head fault))
head_fails None w1 (heads.Refused why) told = tt
head_fails None w1 heads.Failed told = tt
head_fails None w1 heads.Memory told = tt
head_fails (Some a) None (heads.Refused why) told = told
head_fails (Some a) None heads.Failed told = told
head_fails (Some a) None heads.Memory told = told
head_fails (Some a) (Some b) (heads.Refused why) told = refused_head a b why told
head_fails (Some a) (Some b) heads.Failed told = told
head_fails (Some a) (Some b) heads.Memory told = told

-- ---- a body

-- what is left of what is behind a head is left of all
rest_behind : (bytes behind left : List ℕ) (head : RequestHead) → IsHead bytes head behind → IsRest behind left → IsRest bytes left
rest_behind bytes behind left head is (read, parts) =
    (print_request head ++ read, is.reads.1 ∙ ap (λ l. print_request head ++ l) parts ∙ sym (append_assoc (print_request head) read left))

pub body_fails : (w0 w1 w2 : Option (List ℕ)) (asked : Head) (fault : RequestFault) → ReadsHeadFrom w0 w1 (Ok asked)
    → ReadsBodyFrom asked.length w1 w2 (Err fault) → ReadsOrFails w0 w2 (Err fault)
body_fails None w1 w2 asked (faults.Refused why) told body = tt
body_fails None w1 w2 asked faults.Failed told body = tt
body_fails (Some a) None w2 asked fault told body = absurd told
body_fails (Some a) (Some b) None asked (faults.Refused why) told body = body
body_fails (Some a) (Some b) None asked faults.Failed told body = body
body_fails (Some a) (Some b) (Some c) asked (faults.Refused refusals.Cut) (head, is, asks) (short, none) =
    ((asked, record { head = head; behind = b; is_head = is; asks = asks; short = short }), none)
body_fails (Some a) (Some b) (Some c) asked (faults.Refused refusals.Memory) (head, is, asks) body = rest_behind a b c head is body
body_fails (Some a) (Some b) (Some c) asked faults.Failed (head, is, asks) body = rest_behind a b c head is body
body_fails (Some a) (Some b) (Some c) asked (faults.Refused refusals.Head) told body = absurd body
body_fails (Some a) (Some b) (Some c) asked (faults.Refused refusals.Route) told body = absurd body
body_fails (Some a) (Some b) (Some c) asked (faults.Refused refusals.Method) told body = absurd body
body_fails (Some a) (Some b) (Some c) asked (faults.Refused refusals.Length) told body = absurd body
body_fails (Some a) (Some b) (Some c) asked (faults.Refused refusals.Large) told body = absurd body
body_fails (Some a) (Some b) (Some c) asked (faults.Refused refusals.Compressed) told body = absurd body
body_fails (Some a) (Some b) (Some c) asked (faults.Refused refusals.Headers) told body = absurd body
body_fails (Some a) (Some b) (Some c) asked (faults.Refused refusals.Body) told body = absurd body

-- the head and the body were read, and the body answers this
pub body_answers : (w0 w1 w2 : Option (List ℕ)) (asked : Head) (body : List ℕ) (result : Result Request RequestFault)
    → ReadsHeadFrom w0 w1 (Ok asked) → ReadsBodyFrom asked.length w1 w2 (Ok body) → AnswersBody asked body result → ReadsOrFails w0 w2 result
body_answers None w1 w2 asked body (Ok request) told read answer = tt
body_answers None w1 w2 asked body (Err (faults.Refused why)) told read answer = tt
body_answers None w1 w2 asked body (Err faults.Failed) told read answer = tt
body_answers (Some a) None w2 asked body result told read answer = absurd told
body_answers (Some a) (Some b) None asked body result told read answer = absurd read
body_answers (Some a) (Some b) (Some c) asked body (Ok request) (head, is, asks) (parts, size) answer =
    (asked, body, record { head = head; behind = b; is_head = is; asks = asks; parts = parts; size = size }, answer)
body_answers (Some a) (Some b) (Some c) asked body (Err (faults.Refused refusals.Body)) (head, is, asks) (parts, size) answer =
    (asked, body, record { head = head; behind = b; is_head = is; asks = asks; parts = parts; size = size }, answer)
body_answers (Some a) (Some b) (Some c) asked body (Err (faults.Refused refusals.Memory)) (head, is, asks) (parts, size) answer =
    rest_behind a b c head is (body, parts)
body_answers (Some a) (Some b) (Some c) asked body (Err faults.Failed) told read answer = absurd answer
body_answers (Some a) (Some b) (Some c) asked body (Err (faults.Refused refusals.Head)) told read answer = absurd answer
body_answers (Some a) (Some b) (Some c) asked body (Err (faults.Refused refusals.Route)) told read answer = absurd answer
body_answers (Some a) (Some b) (Some c) asked body (Err (faults.Refused refusals.Method)) told read answer = absurd answer
body_answers (Some a) (Some b) (Some c) asked body (Err (faults.Refused refusals.Length)) told read answer = absurd answer
body_answers (Some a) (Some b) (Some c) asked body (Err (faults.Refused refusals.Large)) told read answer = absurd answer
body_answers (Some a) (Some b) (Some c) asked body (Err (faults.Refused refusals.Compressed)) told read answer = absurd answer
body_answers (Some a) (Some b) (Some c) asked body (Err (faults.Refused refusals.Headers)) told read answer = absurd answer
body_answers (Some a) (Some b) (Some c) asked body (Err (faults.Refused refusals.Cut)) told read answer = absurd answer
