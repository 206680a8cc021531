-- What each byte that is read says of the head, and of the answer to the bytes that a source has.
use Rattle.std.proofs.Common.{◌≡◌, ◌∙◌, ℕ, ◌+◌, ◌-◌, ◌≤◌, List, [], ◌∷◌, ◌++◌, length, get_or, take, drop, Option, Some, None, Result, Ok, Err, refl, sym, ap, subst, arith, append_assoc, append-nil, length-append, take-append-drop}
use Rattle.std.proofs.Math.Seq.{take-append-add, get_or-append_seam, take-append_seam}
use Rattle.std.proofs.lemmas.List.{take-append-le}
use Rattle.std.proofs.KnownBytes.{Consumes-kept, Consumes-trans}
use Rattle.std.specs.Io.KnownBytes.{Consumes, Keeps, IsAtEnd}
use Rattle.httparse.specs.Grammar.{LineEnd, crlf, lf, print_end, RequestHead, print_request}
use Rattle.ak_http_heads.specs.declared.heads.Head.{Head}
use Rattle.std.specs.Result.{IsErrAnd}
use Rattle.ak_http_heads.specs.declared.heads.HeadFault.{HeadFault}
use Rattle.ak_http_heads.specs.declared.heads.HeadFault.TheVariants as faults
use Rattle.ak_http_texts.specs.declared.refusals.Refusal.{Refusal}
use Rattle.ak_http_texts.specs.declared.refusals.Refusal.TheVariants as refusals
use Rattle.ak_http_heads.specs.Heads.{IsHead, HasNoHead}
use Rattle.ak_http_heads.specs.Reads.{RefusesHead, ReadsHeadFrom, HasHead, ParsesHead, ReadsEnd, TakesByte}

-- ---- a head ends with a line feed

ends : (x f : List ℕ) (last : LineEnd) → (front : List ℕ) × (x ++ (f ++ print_end last) ≡ front ++ 10 ∷ [])
ends x f lf = (x ++ f, sym (append_assoc x f (10 ∷ [])))
ends x f crlf = (x ++ (f ++ 13 ∷ []), ap (λ l. x ++ l) (sym (append_assoc f (13 ∷ []) (10 ∷ []))) ∙ sym (append_assoc x (f ++ 13 ∷ []) (10 ∷ [])))

head_ends : (head : RequestHead) → (front : List ℕ) × (print_request head ≡ front ++ 10 ∷ [])
unfolding print_request
head_ends head = ends _ _ head.last

last_byte : (bytes front : List ℕ) → bytes ≡ front ++ 10 ∷ [] → get_or bytes (length bytes - 1) 0 ≡ 10
last_byte bytes front e =
    let place : length bytes - 1 ≡ length front = omega (arith, ap length e, length-append front (10 ∷ [])) in
    ap (λ k. get_or bytes k 0) place ∙ ap (λ l. get_or l (length front) 0) e ∙ get_or-append_seam front 10 [] 0

-- ---- bytes that grew by one

-- a head of all bytes that is none of the others has them all
all_bytes : (bytes : List ℕ) (head : RequestHead) (rest : List ℕ) → HasNoHead (take (length bytes - 1) bytes) → IsHead bytes head rest → rest ≡ []
all_bytes bytes head [] none is = refl
all_bytes bytes head (byte ∷ others) none is =
    let place : length bytes - 1 ≡ length (print_request head) + length others =
    omega (arith, ap length is.reads.1, length-append (print_request head) (byte ∷ others)) in
    absurd (none head (take (length others) (byte ∷ others)) (record {
      reads = (
        is.reads.0,
        ap (λ k. take k bytes) place ∙ ap (take (length (print_request head) + length others)) is.reads.1
            ∙ take-append-add (print_request head) (byte ∷ others) (length others),
      );
      size = is.size;
      fields = is.fields;
    }))

-- and it ends with a line feed
pub no_line_feed : (bytes : List ℕ) → HasNoHead (take (length bytes - 1) bytes) → (get_or bytes (length bytes - 1) 0 ≡ 10 → ⊥) → HasNoHead bytes
no_line_feed bytes none other head rest is =
    let whole = is.reads.1 ∙ ap (λ l. print_request head ++ l) (all_bytes bytes head rest none is) ∙ append-nil (print_request head) in
    other (last_byte bytes (head_ends head).0 (whole ∙ (head_ends head).1))

-- a head that the parser found at the front
found : (bytes : List ℕ) (head : RequestHead) → length bytes ≤ 16_384 → HasNoHead (take (length bytes - 1) bytes) → HasHead bytes head → IsHead bytes head []
found bytes head small none has =
    let is : IsHead bytes head has.0 = record {
      reads = has.1;
      size = omega (arith, ap length has.1.1, length-append (print_request head) has.0);
      fields = has.2;
    } in
    subst (IsHead bytes head) (all_bytes bytes head has.0 none is) is

pub grown : (bytes : List ℕ) (result : Result (Option Head) Refusal) → length bytes ≤ 16_384 → HasNoHead (take (length bytes - 1) bytes)
    → ParsesHead bytes result → ReadsEnd bytes result
grown bytes (Ok None) small none parses = λ head rest is. parses head rest is.reads
grown bytes (Ok (Some asked)) small none parses = (parses.0, found bytes parses.0 small none parses.1, parses.2)
grown bytes (Err refusals.Head) small none parses = parses
grown bytes (Err refusals.Route) small none parses = (parses.0, found bytes parses.0 small none parses.1, parses.2)
grown bytes (Err refusals.Method) small none parses = (parses.0, found bytes parses.0 small none parses.1, parses.2)
grown bytes (Err refusals.Length) small none parses = (parses.0, found bytes parses.0 small none parses.1, parses.2)
grown bytes (Err refusals.Large) small none parses = (parses.0, found bytes parses.0 small none parses.1, parses.2)
grown bytes (Err refusals.Compressed) small none parses = (parses.0, found bytes parses.0 small none parses.1, parses.2)
grown bytes (Err refusals.Headers) small none parses = (parses.0, found bytes parses.0 small none parses.1, parses.2)
grown bytes (Err refusals.Cut) small none parses = (parses.0, found bytes parses.0 small none parses.1, parses.2)
grown bytes (Err refusals.Body) small none parses = (parses.0, found bytes parses.0 small none parses.1, parses.2)
grown bytes (Err refusals.Memory) small none parses = (parses.0, found bytes parses.0 small none parses.1, parses.2)

-- no head is in no bytes
pub no_bytes : HasNoHead []
no_bytes head rest is = lacks _ _ _ ((head_ends head).1) is.reads.1
  where
    lacks : (front printed rest : List ℕ) → printed ≡ front ++ 10 ∷ [] → [] ≡ printed ++ rest → ⊥
    lacks front printed rest e h = omega (arith, ap length e, ap length h, length-append front (10 ∷ []), length-append printed rest)

-- all but the last byte
pub all_but_last : (front : List ℕ) (byte : ℕ) → take (length (front ++ byte ∷ []) - 1) (front ++ byte ∷ []) ≡ front
all_but_last front byte =
    let place : length (front ++ byte ∷ []) - 1 ≡ length front = omega (arith, length-append front (byte ∷ [])) in
    ap (λ k. take k (front ++ byte ∷ [])) place ∙ take-append_seam front (byte ∷ [])

-- ---- the answer to the bytes that a source had

-- a head of the bytes that were read, in all bytes
extended : (all bytes left : List ℕ) (head : RequestHead) → all ≡ bytes ++ left → IsHead bytes head [] → IsHead all head left
extended all bytes left head e is = record {
  reads = (is.reads.0, e ∙ ap (λ l. l ++ left) (is.reads.1 ∙ append-nil (print_request head)));
  size = is.size;
  fields = is.fields;
}

pub answered : (old new : Option (List ℕ)) (bytes : List ℕ) (asked : Head) → Consumes old new bytes → ReadsEnd bytes (Ok (Some asked)) → ReadsHeadFrom old new (Ok asked)
answered None new bytes asked took read = tt
answered (Some all) None bytes asked took read = absurd took
answered (Some all) (Some left) bytes asked took read = (read.0, extended all bytes left read.0 took read.1, read.2)

no_head_from : (old new : Option (List ℕ)) (bytes : List ℕ) → Consumes old new bytes → ((left : List ℕ) → HasNoHead (bytes ++ left)) → ReadsHeadFrom old new (Err (faults.Refused refusals.Head))
no_head_from None new bytes took none = tt
no_head_from (Some all) None bytes took none = absurd took
no_head_from (Some all) (Some left) bytes took none = ((λ head rest is. none left head rest (subst (λ l. IsHead l head rest) took is)), (bytes, took))

refused_from : (old new : Option (List ℕ)) (bytes : List ℕ) (head : RequestHead) (why : Refusal)
    → ((all left : List ℕ) → IsHead all head left → RefusesHead all left why)
    → Consumes old new bytes → IsHead bytes head [] → ReadsHeadFrom old new (Err (faults.Refused why))
refused_from None new bytes head why refuses took is = tt
refused_from (Some all) None bytes head why refuses took is = absurd took
refused_from (Some all) (Some left) bytes head why refuses took is = refuses all left (extended all bytes left head took is)

pub refused : (old new : Option (List ℕ)) (bytes : List ℕ) (why : Refusal) → Consumes old new bytes → ReadsEnd bytes (Err why) → ReadsHeadFrom old new (Err (faults.Refused why))
refused old new bytes refusals.Head took read =
    no_head_from old new bytes took (λ left head rest is. omega (arith, read left head rest is.reads, is.fields))
refused old new bytes refusals.Route took read = refused_from old new bytes read.0 _ (λ all left is. (read.0, is, read.2)) took read.1
refused old new bytes refusals.Method took read = refused_from old new bytes read.0 _ (λ all left is. (read.0, is, read.2)) took read.1
refused old new bytes refusals.Length took read = refused_from old new bytes read.0 _ (λ all left is. (read.0, is, read.2)) took read.1
refused old new bytes refusals.Large took read = refused_from old new bytes read.0 _ (λ all left is. (read.0, is, read.2)) took read.1
refused old new bytes refusals.Compressed took read = refused_from old new bytes read.0 _ (λ all left is. (read.0, is, read.2)) took read.1
refused old new bytes refusals.Headers took read = refused_from old new bytes read.0 _ (λ all left is. (read.0, is, read.2)) took read.1
refused old new bytes refusals.Cut took read = refused_from old new bytes read.0 _ (λ all left is. (read.0, is, read.2)) took read.1
refused old new bytes refusals.Body took read = refused_from old new bytes read.0 _ (λ all left is. (read.0, is, read.2)) took read.1
refused old new bytes refusals.Memory took read = refused_from old new bytes read.0 _ (λ all left is. (read.0, is, read.2)) took read.1

-- as many bytes as a head may have, and no head
pub full : (old new : Option (List ℕ)) (bytes : List ℕ) → Consumes old new bytes → HasNoHead bytes → 16_384 ≤ length bytes → ReadsHeadFrom old new (Err (faults.Refused refusals.Head))
full old new bytes took none many = no_head_from old new bytes took (λ left head rest is. none head _ (shortened left head rest is))
  where
    shortened : (left : List ℕ) (head : RequestHead) (rest : List ℕ) → IsHead (bytes ++ left) head rest → IsHead bytes head (drop (length (print_request head)) bytes)
    shortened left head rest is =
        let size = length (print_request head) in
        let short : size ≤ length bytes = omega (arith, is.size, many) in
        let front : take size bytes ≡ print_request head =
        sym (take-append-le size bytes left short) ∙ ap (take size) is.reads.1 ∙ take-append_seam (print_request head) rest in
        record {
          reads = (is.reads.0, sym (take-append-drop size bytes) ∙ ap (λ l. l ++ drop size bytes) front);
          size = is.size;
          fields = is.fields;
        }

-- the end of the input, and no head
pub ended : (old now new : Option (List ℕ)) (bytes : List ℕ) → Consumes old now bytes → Keeps now new → IsAtEnd new → HasNoHead bytes → ReadsHeadFrom old new (Err (faults.Refused refusals.Head))
ended old now new bytes took keeps end none = at_end old new (Consumes-kept old now new bytes took keeps) end
  where
    at_end : (old new : Option (List ℕ)) → Consumes old new bytes → IsAtEnd new → ReadsHeadFrom old new (Err (faults.Refused refusals.Head))
    at_end None new took end = tt
    at_end (Some all) None took end = absurd took
    at_end (Some all) (Some left) took end =
        let same = took ∙ ap (λ l. bytes ++ l) end ∙ append-nil bytes in
        ((λ head rest is. none head rest (subst (λ l. IsHead l head rest) same is)), (bytes, took))

-- the source failed, or memory ran out, after some bytes
pub failed : (old now new : Option (List ℕ)) (bytes : List ℕ) → Consumes old now bytes → Keeps now new → ReadsHeadFrom old new (Err faults.Failed)
failed old now new bytes took keeps = at_failure old new (Consumes-kept old now new bytes took keeps)
  where
    at_failure : (old new : Option (List ℕ)) → Consumes old new bytes → ReadsHeadFrom old new (Err faults.Failed)
    at_failure None new took = tt
    at_failure (Some all) None took = absurd took
    at_failure (Some all) (Some left) took = (bytes, took)

pub out_of_memory : (old new : Option (List ℕ)) (bytes : List ℕ) → Consumes old new bytes → ReadsHeadFrom old new (Err faults.Memory)
out_of_memory None new bytes took = tt
out_of_memory (Some all) None bytes took = absurd took
out_of_memory (Some all) (Some left) bytes took = (bytes, took)

-- a byte more
pub one_more : (old now new : Option (List ℕ)) (bytes : List ℕ) (byte : ℕ) → Consumes old now bytes → TakesByte now new (Some byte) → Consumes old new (bytes ++ byte ∷ [])
one_more old now new bytes byte took taken = Consumes-trans old now new bytes (byte ∷ []) took taken

-- the same of the bytes as they are shown once the byte was put behind them
pub grown_by : (old now new : Option (List ℕ)) (before : List ℕ) (byte : ℕ) (items shown : List ℕ) → Consumes old now before → TakesByte now new (Some byte)
    → items ≡ before ++ byte ∷ [] → shown ≡ items → Consumes old new shown
grown_by old now new before byte items shown took taken pushed is =
    subst (Consumes old new) (sym pushed ∙ sym is) (one_more old now new before byte took taken)

-- the same of an answer that is told to be that memory ran out
pub no_memory : (old new : Option (List ℕ)) (bytes : List ℕ) (result : Result Head HeadFault) → Consumes old new bytes
    → IsErrAnd result (λ fault. fault ≡ faults.Memory) → ReadsHeadFrom old new result
no_memory old new bytes (Ok asked) took told = absurd told
no_memory old new bytes (Err fault) took told = subst (λ f. ReadsHeadFrom old new (Err f)) (sym told) (out_of_memory old new bytes took)
