-- What the parser's answers say of the head at the front of bytes.
use Rattle.std.proofs.Common.{◌≡◌, ◌∙◌, ℕ, ◌<◌, ◌≤◌, List, length, drop, map, Some, Err, sym, ap, arith}
use Rattle.std.proofs.lemmas.List.{length-map}
use Rattle.std.specs.Prelude.{option_copied}
use Rattle.httparse.specs.declared.borrowed.Header.{Header}
use Rattle.httparse.specs.declared.borrowed.Request.{Request}
use Rattle.httparse.specs.Borrowed.{header_parts, AreFields, HoldsSomeRequest}
use Rattle.httparse.specs.Grammar.{RequestHead}
use Rattle.httparse.specs.Spans.{name_and_value, RequestOverflows}
use Rattle.httparse.proofs.GrammarLemmas.{request_prefix_free}
use Rattle.ak_http_texts.specs.declared.refusals.Refusal.{Refusal}
use Rattle.ak_http_texts.specs.declared.refusals.Refusal.TheVariants as refusals
use Rattle.ak_http_heads.specs.Heads.{fault_of, fields_of, head_fault}
use Rattle.ak_http_heads.specs.Reads.{HasHead, ParsesHead}
use Rattle.ak_http_heads.proofs.Faults.{never_head}

-- there are as many headers as fields
counted : (headers : List Header) (head : RequestHead) → AreFields headers head.fields → length headers ≡ length head.fields
counted headers head are = sym (length-map headers header_parts) ∙ ap length are ∙ length-map head.fields name_and_value

-- a head of more fields than 64 is the only one, whatever follows
pub too_many : (bytes : List ℕ) (len : ℕ) (request : Request) → HoldsSomeRequest bytes request len → 64 < length request.headers.now
    → RequestOverflows 64 bytes
too_many bytes len request held many more head rest reads =
    let same = request_prefix_free bytes more held.0 head (drop len bytes) rest held.1.reads reads in
    omega (arith, counted request.headers.now held.0 held.1.fields, ap (λ k. length k.fields) same.0)

-- the head that fails a test is there
refuses : (bytes : List ℕ) (head : RequestHead) (why : Refusal) → HasHead bytes head → head_fault head ≡ Some why → ParsesHead bytes (Err why)
refuses bytes head refusals.Head has fault = absurd (never_head head.method head.target (fields_of head) fault)
refuses bytes head refusals.Route has fault = (head, has, fault)
refuses bytes head refusals.Method has fault = (head, has, fault)
refuses bytes head refusals.Length has fault = (head, has, fault)
refuses bytes head refusals.Large has fault = (head, has, fault)
refuses bytes head refusals.Compressed has fault = (head, has, fault)
refuses bytes head refusals.Headers has fault = (head, has, fault)
refuses bytes head refusals.Cut has fault = (head, has, fault)
refuses bytes head refusals.Body has fault = (head, has, fault)
refuses bytes head refusals.Memory has fault = (head, has, fault)

pub refused : (bytes : List ℕ) (len : ℕ) (request : Request) (why : Refusal) (method target : List ℕ) → HoldsSomeRequest bytes request len
    → option_copied request.method ≡ Some method → option_copied request.path ≡ Some target → length request.headers.now ≤ 64
    → fault_of method target (map header_parts request.headers.now) ≡ Some why → ParsesHead bytes (Err why)
refused bytes len request why method target held is_method is_target few fault =
    let head = held.0 in
    let method_same : method ≡ head.method = cc (held.1.method, is_method) in
    let target_same : target ≡ head.target = cc (held.1.path, is_target) in
    let has : HasHead bytes head = (drop len bytes, held.1.reads, omega (arith, counted request.headers.now head held.1.fields)) in
    let same : fault_of method target (map header_parts request.headers.now) ≡ head_fault head =
    ap (λ m. fault_of m target (map header_parts request.headers.now)) method_same
    ∙ ap (λ t. fault_of head.method t (map header_parts request.headers.now)) target_same
    ∙ ap (λ f. fault_of head.method head.target f) held.1.fields in
    refuses bytes head why has (sym same ∙ fault)
