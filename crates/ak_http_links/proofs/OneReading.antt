-- The bytes of a link have one reading.
use Rattle.std.proofs.Common.{◌≡◌, ◌≢◌, ◌<◌, ◌≤◌, ◌∙◌, ℕ, true, false, List, [], ◌++◌, ◌⊎◌, inl, inr, Result, Ok, Err, length, take, drop, refl, sym, ap, subst, arith, take-append-drop}
use Rattle.std.specs.Prelude.{nat_lt}
use Rattle.std.proofs.lemmas.Bool.{ltb-true, ltb-false}
use Rattle.std.proofs.lemmas.List.{append_cancel_left, length-append, length-take-le, take_at}
use Rattle.httparse.specs.Grammar.{RequestHead}
use Rattle.httparse.proofs.GrammarLemmas.{request_unique}
use Rattle.ak_http_heads.proofs.OneReading.{asks_or_refused, one_reading}
use Rattle.ak_http_heads.specs.Heads.{IsHead, HeadAsks}
use Rattle.ak_http_heads.specs.Reads.{RefusesHead}
use Rattle.ak_http_heads.specs.declared.heads.Head.{Head}
use Rattle.ak_http_heads.specs.declared.heads.HeadFault.TheVariants as heads
use Rattle.ak_http_texts.specs.declared.refusals.Refusal.{Refusal}
use Rattle.ak_http_texts.specs.declared.refusals.Refusal.TheVariants as refusals
use Rattle.ak_messages.specs.declared.requests.Request.{Request}
use Rattle.ak_wire.proofs.EachBody.{request_or}
use Rattle.ak_wire.proofs.Exact.{request_one}
use Rattle.ak_wire.proofs.ReadOnly.{request_only}
use Rattle.ak_wire.specs.Requests.{ReadsRequest}
use Rattle.ak_http_links.specs.LinkReads.{IsDecided, IsNoRequest, IsWhole, ReadsBytes}
use Rattle.ak_http_links.proofs.Readings.{field_refusal}

-- ---- what follows a head

-- a body of the length that a head tells, and what is left behind it
record HasBody (asked : Head) (behind body left : List ℕ) : Type 0 where
  parts : behind ≡ body ++ left
  size : length body ≡ asked.length

one_body : (asked : Head) (behind body left other rest : List ℕ) → HasBody asked behind body left → HasBody asked behind other rest
    → (body ≡ other) × (left ≡ rest)
one_body asked behind body left other rest x y =
    let same : body ≡ other =
    sym (take_at body left asked.length x.size) ∙ ap (take asked.length) (sym x.parts ∙ y.parts) ∙ take_at other rest asked.length y.size in
    (same, append_cancel_left body left rest (sym x.parts ∙ y.parts ∙ ap (λ l. l ++ rest) (sym same)))

-- what is behind a head is a request, or ends within the body, or has a body that is no request
Follows : Head → List ℕ → List ℕ → Result Request Refusal → Type 0
Follows asked behind left reading =
    ((request : Request) × (body : List ℕ) × (reading ≡ Ok request) × HasBody asked behind body left
    × ReadsRequest asked.envelope asked.method body request)
    ⊎ (((reading ≡ Err refusals.Cut) × (length behind < asked.length) × (left ≡ []))
    ⊎ ((body : List ℕ) × (reading ≡ Err refusals.Body) × HasBody asked behind body left × IsNoRequest asked.method body))

long_enough : (asked : Head) (behind body left : List ℕ) → HasBody asked behind body left → length behind < asked.length → ⊥
long_enough asked behind body left x short = omega (arith, ap length x.parts, length-append body left, x.size)

Same : List ℕ → List ℕ → Result Request Refusal → Result Request Refusal → Type 0
Same left rest reading other = (reading ≡ other) × (left ≡ rest)

reads_and_refuses : (asked : Head) (behind body left other rest : List ℕ) (request : Request) → HasBody asked behind body left
    → HasBody asked behind other rest → ReadsRequest asked.envelope asked.method body request → IsNoRequest asked.method other → ⊥
reads_and_refuses asked behind body left other rest request x y reads (fault, known, refuses) =
    let same = (one_body asked behind body left other rest x y).0 in
    known (request_only asked.envelope asked.method other request
    (subst (λ b. ReadsRequest asked.envelope asked.method b request) same reads) fault refuses)

follows_one : (asked : Head) (behind left rest : List ℕ) (reading other : Result Request Refusal) → Follows asked behind left reading
    → Follows asked behind rest other → Same left rest reading other
unfolding Follows Same
follows_one asked behind left rest reading other (inl (r, body, is, x, reads)) (inl (s, body', is', y, reads')) =
    let same = one_body asked behind body left body' rest x y in
    let one = request_one asked.envelope asked.method body' r s
    (subst (λ b. ReadsRequest asked.envelope asked.method b r) same.0 reads) reads' in
    (is ∙ ap (λ q. Ok q) one ∙ sym is', same.1)
follows_one asked behind left rest reading other (inl (r, body, is, x, reads)) (inr (inl (is', short, none))) =
    absurd (long_enough asked behind body left x short)
follows_one asked behind left rest reading other (inl (r, body, is, x, reads)) (inr (inr (body', is', y, bad))) =
    absurd (reads_and_refuses asked behind body left body' rest r x y reads bad)
follows_one asked behind left rest reading other (inr (inl (is, short, none))) (inl (s, body', is', y, reads')) =
    absurd (long_enough asked behind body' rest y short)
follows_one asked behind left rest reading other (inr (inl (is, short, none))) (inr (inl (is', short', none'))) =
    (is ∙ sym is', none ∙ sym none')
follows_one asked behind left rest reading other (inr (inl (is, short, none))) (inr (inr (body', is', y, bad))) =
    absurd (long_enough asked behind body' rest y short)
follows_one asked behind left rest reading other (inr (inr (body, is, x, bad))) (inl (s, body', is', y, reads')) =
    absurd (reads_and_refuses asked behind body' rest body left s y x reads' bad)
follows_one asked behind left rest reading other (inr (inr (body, is, x, bad))) (inr (inl (is', short, none))) =
    absurd (long_enough asked behind body left x short)
follows_one asked behind left rest reading other (inr (inr (body, is, x, bad))) (inr (inr (body', is', y, no'))) =
    (is ∙ sym is', (one_body asked behind body left body' rest x y).1)

-- ---- a head, and what follows it

-- a head was refused; or it asks something, and this follows it
Reads : List ℕ → List ℕ → Result Request Refusal → Type 0
Reads bytes left reading =
    ((why : Refusal) × (reading ≡ Err why) × RefusesHead bytes left why)
    ⊎ ((asked : Head) × (head : RequestHead) × (behind : List ℕ) × IsHead bytes head behind × HeadAsks head asked × Follows asked behind left reading)

reads : (bytes left : List ℕ) (reading : Result Request Refusal) → IsDecided reading → ReadsBytes bytes left reading → Reads bytes left reading
unfolding Reads Follows
reads bytes left (Ok request) decided (asked, body, whole, read) =
    inr (
      asked,
      whole.head,
      whole.behind,
      whole.is_head,
      whole.asks,
      inl (request, body, refl, record { parts = whole.parts; size = whole.size }, read),
    )
reads bytes left (Err refusals.Cut) decided ((asked, cut), none) =
    inr (asked, cut.head, cut.behind, cut.is_head, cut.asks, inr (inl (refl, cut.short, none)))
reads bytes left (Err refusals.Body) decided (asked, body, whole, bad) =
    inr (
      asked,
      whole.head,
      whole.behind,
      whole.is_head,
      whole.asks,
      inr (inr (body, refl, record { parts = whole.parts; size = whole.size }, bad)),
    )
reads bytes left (Err refusals.Memory) decided told = absurd decided
reads bytes left (Err refusals.Head) decided told = inl (refusals.Head, refl, told)
reads bytes left (Err refusals.Route) decided told = inl (refusals.Route, refl, told)
reads bytes left (Err refusals.Method) decided told = inl (refusals.Method, refl, told)
reads bytes left (Err refusals.Length) decided told = inl (refusals.Length, refl, told)
reads bytes left (Err refusals.Large) decided told = inl (refusals.Large, refl, told)
reads bytes left (Err refusals.Compressed) decided told = inl (refusals.Compressed, refl, told)
reads bytes left (Err refusals.Headers) decided told = inl (refusals.Headers, refl, told)

SameBut : List ℕ → List ℕ → Result Request Refusal → Result Request Refusal → Type 0
SameBut left rest reading other = (reading ≡ other) × (reading ≢ Err refusals.Head → left ≡ rest)

-- a head is not refused and accepted
not_both : (bytes left behind : List ℕ) (why : Refusal) (asked : Head) (head : RequestHead) → RefusesHead bytes left why
    → IsHead bytes head behind → HeadAsks head asked → ⊥
not_both bytes left behind why asked head refuses is asks =
    let same = (one_reading bytes left behind (Err (heads.Refused why)) (Ok asked) tt tt refuses (head, is, asks)).0 in cc

both_asked : (bytes left rest behind behind' : List ℕ) (asked asked' : Head) (head head' : RequestHead) (reading other : Result Request Refusal)
    → IsHead bytes head behind → IsHead bytes head' behind' → HeadAsks head asked → HeadAsks head' asked'
    → Follows asked behind left reading → Follows asked' behind' rest other → Same left rest reading other
both_asked bytes left rest behind behind' asked asked' head head' reading other is is' asks asks' x y =
    let same = one_reading bytes behind behind' (Ok asked) (Ok asked') tt tt (head, is, asks) (head', is', asks') in
    let one : asked ≡ asked' = cc in
    let at : behind ≡ behind' = (request_unique bytes head head' behind behind' is.reads is'.reads).1 in
    follows_one asked behind left rest reading other x
    (subst (λ (b : List ℕ). Follows asked b rest other) (sym at) (subst (λ (a : Head). Follows a behind' rest other) (sym one) y))

reads_one : (bytes left rest : List ℕ) (reading other : Result Request Refusal) → Reads bytes left reading → Reads bytes rest other
    → SameBut left rest reading other
unfolding Reads Same SameBut
reads_one bytes left rest reading other (inl (why, is, refuses)) (inl (why', is', refuses')) =
    let same = one_reading bytes left rest (Err (heads.Refused why)) (Err (heads.Refused why')) tt tt refuses refuses' in
    let one : why ≡ why' = cc in
    (is ∙ ap (λ w. Err w) one ∙ sym is', λ n. same.1 (λ e. n (is ∙ ap (λ w. Err w) (let w : why ≡ refusals.Head = cc in w))))
reads_one bytes left rest reading other (inl (why, is, refuses)) (inr (asked, head, behind, is_head, asks, follows)) =
    absurd (not_both bytes left behind why asked head refuses is_head asks)
reads_one bytes left rest reading other (inr (asked, head, behind, is_head, asks, follows)) (inl (why, is, refuses)) =
    absurd (not_both bytes rest behind why asked head refuses is_head asks)
reads_one bytes left rest reading other (inr (asked, head, behind, is_head, asks, follows)) (inr (asked', head', behind', is_head', asks', follows')) =
    let same = both_asked bytes left rest behind behind' asked asked' head head' reading other is_head is_head' asks asks' follows follows' in
    (same.0, λ n. same.1)

pub one_link : (bytes left rest : List ℕ) (reading other : Result Request Refusal) → IsDecided reading → IsDecided other
    → ReadsBytes bytes left reading → ReadsBytes bytes rest other → (reading ≡ other) × (reading ≢ Err refusals.Head → left ≡ rest)
unfolding SameBut
one_link bytes left rest reading other decided decided' x y =
    reads_one bytes left rest reading other (reads bytes left reading decided x) (reads bytes rest other decided' y)

-- ---- some reading

-- the length of a body is there, or the bytes end before
enough : (n m : ℕ) → (n ≤ m) ⊎ (m < n)
enough n m =
    elim (nat_lt m n) as (λ t. nat_lt m n ≡ t → (n ≤ m) ⊎ (m < n))
    [ true ↦ λ e. inr (ltb-true m n e) | false ↦ λ e. inl (ltb-false m n e) ] refl

asked_reads : (bytes behind : List ℕ) (head : RequestHead) (asked : Head) → IsHead bytes head behind → HeadAsks head asked
    → (left : List ℕ) × (reading : Result Request Refusal) × IsDecided reading × ReadsBytes bytes left reading
asked_reads bytes behind head asked is asks =
    elim (enough asked.length (length behind)) [
      | inl fits ↦ (let body = take asked.length behind in let left = drop asked.length behind in
          let whole = whole_of bytes behind body left head asked is asks (sym (take-append-drop asked.length behind))
          (length-take-le asked.length behind fits) in
          elim (request_or asked.envelope asked.method body) [
            | inl made ↦ (left, Ok made.0, tt, (asked, body, whole, made.1))
            | inr bad ↦ (left, Err refusals.Body, tt, (asked, body, whole, (bad.0, bad.2, bad.1)))
          ])
      | inr short ↦ (
        [],
        Err refusals.Cut,
        tt,
        ((asked, record { head = head; behind = behind; is_head = is; asks = asks; short = short }), refl),
      )
    ]
  where
    whole_of : (bytes behind body left : List ℕ) (head : RequestHead) (asked : Head) → IsHead bytes head behind → HeadAsks head asked
        → behind ≡ body ++ left → length body ≡ asked.length → IsWhole bytes asked body left
    whole_of bytes behind body left head asked is asks parts size =
        record { head = head; behind = behind; is_head = is; asks = asks; parts = parts; size = size }

pub head_reads : (bytes behind : List ℕ) (head : RequestHead) → IsHead bytes head behind
    → (left : List ℕ) × (reading : Result Request Refusal) × IsDecided reading × ReadsBytes bytes left reading
head_reads bytes behind head is =
    elim (asks_or_refused head) [
      | inl asks ↦ asked_reads bytes behind head asks.0 is asks.1
      | inr refused ↦ (let told = field_refusal bytes behind head refused.0 is refused.1 in (behind, Err refused.0, told.0, told.1))
    ]
