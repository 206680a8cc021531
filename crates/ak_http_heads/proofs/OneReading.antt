-- Bytes have one reading, and a head asks one thing or is refused.
use Rattle.std.proofs.Common.{◌≡◌, ◌≢◌, ◌∙◌, ℕ, List, ◌++◌, length, Bool, true, false, ◌||◌, cond, ◌⊎◌, inl, inr, Option, Some, None, Result, Ok, Err, refl, sym, ap, subst}
use Rattle.std.proofs.Math.Bool.{Bool-set}
use Rattle.std.specs.Cmp.{second_so}
use Rattle.std.specs.Prelude.{ℤ, pos, not, ◌==◌, is_none, codes}
use Rattle.std.specs.Option.{option_map, option_and_then}
use Rattle.httparse.specs.Grammar.{RequestHead}
use Rattle.httparse.proofs.GrammarLemmas.{request_unique, request_prefix_free}
use Rattle.ak_base.specs.declared.keys.HostKey.{HostKey}
use Rattle.ak_base.specs.Keys.{are_lower_hex, is_host_key, host_digits}
use Rattle.ak_http_texts.specs.declared.refusals.Refusal.{Refusal}
use Rattle.ak_http_texts.specs.declared.refusals.Refusal.TheVariants as refusals
use Rattle.ak_http_heads.specs.declared.heads.Head.{Head}
use Rattle.ak_http_heads.specs.declared.heads.HeadFault.{HeadFault}
use Rattle.ak_http_heads.specs.declared.heads.HeadFault.TheVariants as faults
use Rattle.ak_messages.specs.declared.methods.Method.{Method}
use Rattle.ak_messages.specs.declared.requests.Envelope.{Envelope}
use Rattle.ak_http_heads.specs.Fields.{is_text, value_of, host_in, session_in, step_in, base_in, length_in}
use Rattle.ak_http_heads.specs.Heads.{IsHead, HasNoHead, route_of, lacks_length, is_large, is_compressed, lacks_envelope, lacks_header, IsEnvelope, fault_of, fields_of, Asks, HeadAsks, head_fault}
use Rattle.ak_http_heads.specs.Reads.{RefusesHead, ReadsHead, IsReading}

pub one_head : (bytes more : List ℕ) (head other : RequestHead) (rest left : List ℕ) → IsHead bytes head rest → IsHead (bytes ++ more) other left
    → (head ≡ other) × (rest ++ more ≡ left)
one_head bytes more head other rest left is is' = request_prefix_free bytes more head other rest left is.reads is'.reads

-- ---- what a head asks

some_is : {A : Type 0} (o : Option A) (a b : A) → o ≡ Some a → o ≡ Some b → a ≡ b
some_is o a b p q = cc

same_key : (digits other : List ℕ) (lower : are_lower_hex digits ≡ true) (lower' : are_lower_hex other ≡ true) → digits ≡ other
    → ◌≡◌ {A = HostKey} (record { digits = digits; lower_hex = lower }) (record { digits = other; lower_hex = lower' })
same_key digits other lower lower' e =
    let P : List ℕ → Type 0 = λ ds. (h : are_lower_hex ds ≡ true) → ◌≡◌ {A = HostKey} (record { digits = digits; lower_hex = lower }) (record { digits = ds; lower_hex = h }) in
    subst P e (λ h. ap (λ p. record { digits = digits; lower_hex = p }) (Bool-set _ _ lower h)) lower'

same_head : (m m' : Method) (k k' : HostKey) (s s' t t' : ℕ) (b b' : ℤ) (l l' : ℕ) → m ≡ m' → k ≡ k' → s ≡ s' → t ≡ t' → b ≡ b' → l ≡ l'
    → ◌≡◌ {A = Head}
    (record { method = m; envelope = record { host = k; session = record { 0 = s }; step = t; base = b }; length = l })
    (record { method = m'; envelope = record { host = k'; session = record { 0 = s' }; step = t'; base = b' }; length = l' })
same_head m m' k k' s s' t t' b b' l l' pm pk ps pt pb pl = cc

pub one_asked : (head : RequestHead) (asked other : Head) → HeadAsks head asked → HeadAsks head other → asked ≡ other
one_asked head asked other a b =
    same_head _ _ _ _ _ _ _ _ _ _ _ _ (some_is _ _ _ a.route b.route)
    (same_key _ _ asked.envelope.host.lower_hex other.envelope.host.lower_hex (some_is _ _ _ a.envelope.host b.envelope.host))
    (some_is _ _ _ a.envelope.session b.envelope.session) (some_is _ _ _ a.envelope.step b.envelope.step)
    (some_is _ _ _ a.envelope.base b.envelope.base) (some_is _ _ _ a.length b.length)

-- ---- a head without a fault asks something

passes : (b : Bool) (why : Refusal) (later : Option Refusal) → cond b (Some why) later ≡ None → (b ≡ false) × (later ≡ None)
passes true why later e = absurd (cc e)
passes false why later e = (refl, e)

there : {A : Type 0} (o : Option A) → is_none o ≡ false → (a : A) × (o ≡ Some a)
there None h = absurd (cc h)
there (Some a) h = (a, refl)

neither_of : (a b : Bool) → (a || b) ≡ false → (a ≡ false) × (b ≡ false)
neither_of true b h = absurd (cc h)
neither_of false b h = (refl, h)

key_digits : (value : Option (List ℕ)) (digits : List ℕ) → option_and_then host_digits value ≡ Some digits → are_lower_hex digits ≡ true
key_digits None digits e = absurd (cc e)
key_digits (Some text) digits e =
    elim (is_host_key text) as (λ b. is_host_key text ≡ b → cond b (Some text) None ≡ Some digits → are_lower_hex digits ≡ true) [
      | true ↦ λ is same. let text_is : text ≡ digits = cc same in subst (λ d. are_lower_hex d ≡ true) text_is (second_so (length text == 32) _ is)
      | false ↦ λ is same. absurd (cc same)
    ] refl e

envelope_of : (fields : List (List ℕ × List ℕ)) → lacks_envelope fields ≡ false → (envelope : Envelope) × IsEnvelope fields envelope
envelope_of fields h =
    let first = neither_of (is_none (host_in fields)) _ h in
    let second = neither_of (is_none (session_in fields)) _ first.1 in
    let third = neither_of (is_none (step_in fields)) _ second.1 in
    let host = there (host_in fields) first.0 in
    let session = there (session_in fields) second.0 in
    let step = there (step_in fields) third.0 in
    let base = there (base_in fields) third.1 in (
      record {
        host = record { digits = host.0; lower_hex = key_digits (value_of (codes "x-anki-key") fields) host.0 host.1 };
        session = record { 0 = session.0 };
        step = step.0;
        base = pos base.0;
      },
      record { host = host.1; session = session.1; step = step.1; base = ap (λ o. option_map pos o) base.1 },
    )

asked_of : (method target : List ℕ) (fields : List (List ℕ × List ℕ)) → fault_of method target fields ≡ None → (asked : Head) × Asks method target fields asked
asked_of method target fields none =
    let routed = passes (is_none (route_of target)) refusals.Route _ none in
    let posted = passes (not (is_text method (codes "POST"))) refusals.Method _ routed.1 in
    let told = passes (lacks_length fields) refusals.Length _ posted.1 in
    let fits = passes (is_large fields) refusals.Large _ told.1 in
    let plain = passes (is_compressed fields) refusals.Compressed _ fits.1 in
    let whole = passes (lacks_header fields) refusals.Headers None plain.1 in
    let parts = neither_of (lacks_envelope fields) (is_none (length_in fields)) whole.0 in
    let route = there (route_of target) routed.0 in
    let envelope = envelope_of fields parts.0 in
    let length = there (length_in fields) parts.1 in (
      record { method = route.0; envelope = envelope.0; length = length.0 },
      record { faultless = none; route = route.1; envelope = envelope.1; length = length.1 },
    )

pub asks_or_refused : (head : RequestHead) → ((asked : Head) × HeadAsks head asked) ⊎ ((why : Refusal) × (head_fault head ≡ Some why))
asks_or_refused head =
    elim (head_fault head) as (λ f. head_fault head ≡ f → ((asked : Head) × HeadAsks head asked) ⊎ ((why : Refusal) × (head_fault head ≡ Some why))) [
      | None ↦ λ e. inl (asked_of head.method head.target (fields_of head) e)
      | Some why ↦ λ e. inr (why, e)
    ] refl

-- ---- one answer

split : (bytes left : List ℕ) (why : Refusal) → RefusesHead bytes left why
    → ((why ≡ refusals.Head) × HasNoHead bytes) ⊎ ((head : RequestHead) × IsHead bytes head left × (head_fault head ≡ Some why))
split bytes left refusals.Head is = inl (refl, is.0)
split bytes left refusals.Route is = inr is
split bytes left refusals.Method is = inr is
split bytes left refusals.Length is = inr is
split bytes left refusals.Large is = inr is
split bytes left refusals.Compressed is = inr is
split bytes left refusals.Headers is = inr is
split bytes left refusals.Cut is = inr is
split bytes left refusals.Body is = inr is
split bytes left refusals.Memory is = inr is

abbrev Same : List ℕ → List ℕ → Result Head HeadFault → Result Head HeadFault → Type 0
Same left rest answer other = (answer ≡ other) × (answer ≢ Err (faults.Refused refusals.Head) → left ≡ rest)

unlike : (head other : RequestHead) (asked : Head) (why : Refusal) → head ≡ other → HeadAsks head asked → head_fault other ≡ Some why → ⊥
unlike head other asked why same asks fault =
    let none : head_fault other ≡ None = sym (ap head_fault same) ∙ asks.faultless in cc (sym none ∙ fault)

module _ (bytes left rest : List ℕ) where
  both_ask : (a b : Head) → ReadsHead bytes left (Ok a) → ReadsHead bytes rest (Ok b) → Same left rest (Ok a) (Ok b)
  both_ask a b x y =
      let u = request_unique bytes x.0 y.0 left rest x.1.reads y.1.reads in
      (ap (λ h. Ok h) (one_asked x.0 a b x.2 (subst (λ h. HeadAsks h b) (sym u.0) y.2)), λ n. u.1)

  asks_refused : (a : Head) (why : Refusal) → ReadsHead bytes left (Ok a) → RefusesHead bytes rest why → ⊥
  asks_refused a why x y =
      elim (split bytes rest why y) [
        | inl none ↦ none.1 x.0 left x.1
        | inr is ↦ unlike x.0 is.0 a why (request_unique bytes x.0 is.0 left rest x.1.reads is.1.reads).0 x.2 is.2
      ]

  refused_asks : (a : Head) (why : Refusal) → RefusesHead bytes left why → ReadsHead bytes rest (Ok a) → ⊥
  refused_asks a why x y =
      elim (split bytes left why x) [
        | inl none ↦ none.1 y.0 rest y.1
        | inr is ↦ unlike y.0 is.0 a why (request_unique bytes y.0 is.0 rest left y.1.reads is.1.reads).0 y.2 is.2
      ]

  both_refused : (why other : Refusal) → RefusesHead bytes left why → RefusesHead bytes rest other → Same left rest (Err (faults.Refused why)) (Err (faults.Refused other))
  both_refused why other x y =
      elim (split bytes left why x) [
        | inl none ↦ elim (split bytes rest other y) [
          | inl lacks ↦ (ap (λ w. Err (faults.Refused w)) (none.0 ∙ sym lacks.0), λ n. absurd (n (ap (λ w. Err (faults.Refused w)) none.0)))
          | inr is ↦ absurd (none.1 is.0 rest is.1)
        ]
        | inr is ↦ elim (split bytes rest other y) [
          | inl none ↦ absurd (none.1 is.0 left is.1)
          | inr also ↦ (let u = request_unique bytes is.0 also.0 left rest is.1.reads also.1.reads in
              (ap (λ w. Err (faults.Refused w)) (some_is _ _ _ (sym (ap head_fault u.0) ∙ is.2) also.2), λ n. u.1))
        ]
      ]

pub one_reading : (bytes left rest : List ℕ) (answer other : Result Head HeadFault) → IsReading answer → IsReading other
    → ReadsHead bytes left answer → ReadsHead bytes rest other → Same left rest answer other
one_reading bytes left rest (Ok a) (Ok b) p q x y = both_ask bytes left rest a b x y
one_reading bytes left rest (Ok a) (Err (faults.Refused why)) p q x y = absurd (asks_refused bytes left rest a why x y)
one_reading bytes left rest (Ok a) (Err faults.Failed) p q x y = absurd q
one_reading bytes left rest (Ok a) (Err faults.Memory) p q x y = absurd q
one_reading bytes left rest (Err (faults.Refused why)) (Ok b) p q x y = absurd (refused_asks bytes left rest b why x y)
one_reading bytes left rest (Err (faults.Refused why)) (Err (faults.Refused other)) p q x y = both_refused bytes left rest why other x y
one_reading bytes left rest (Err (faults.Refused why)) (Err faults.Failed) p q x y = absurd q
one_reading bytes left rest (Err (faults.Refused why)) (Err faults.Memory) p q x y = absurd q
one_reading bytes left rest (Err faults.Failed) other p q x y = absurd p
one_reading bytes left rest (Err faults.Memory) other p q x y = absurd p
