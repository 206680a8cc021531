-- What each byte that is read says of the head of an answer, and of what the bytes of a link are read as.
use Rattle.std.proofs.Common.{◌≡◌, ◌∙◌, ◌⊎◌, inl, inr, ℕ, ◌+◌, ◌-◌, ◌≤◌, List, [], ◌∷◌, ◌++◌, length, get_or, take, drop, Option, Some, None, Ok, Err, refl, sym, ap, subst, arith, append_assoc, append-nil, length-append, take-append-drop}
use Rattle.std.proofs.Math.Seq.{take-append-add, get_or-append_seam, take-append_seam}
use Rattle.std.proofs.lemmas.List.{take-append-le}
use Rattle.std.proofs.KnownBytes.{Consumes-kept}
use Rattle.std.specs.Io.KnownBytes.{Consumes, Keeps, IsAtEnd}
use Rattle.httparse.specs.Grammar.{LineEnd, crlf, lf, print_end, ResponseHead, print_response}
use Rattle.ak_http_wires.specs.AnswerHeads.{IsAnswerHead, HasNoAnswerHead, HasNoLength, HasAnswerHead, ParsesAnswerHead, ReadsAnswerEnd, ReadsAnswerHeadFrom}
use Rattle.ak_http_wires.specs.declared.answer_heads.AnswerHead.{AnswerHead}
use Rattle.ak_http_wires.specs.declared.answer_heads.Front.{Front}
use Rattle.ak_http_wires.specs.declared.answer_heads.Front.TheVariants as fronts
use Rattle.ak_http_wires.specs.declared.answers.AnswerFault.{AnswerFault}
use Rattle.ak_http_wires.specs.declared.answers.AnswerFault.TheVariants as faults

-- ---- a head ends with a line feed

ends : (x f : List ℕ) (last : LineEnd) → (front : List ℕ) × (x ++ (f ++ print_end last) ≡ front ++ 10 ∷ [])
ends x f lf = (x ++ f, sym (append_assoc x f (10 ∷ [])))
ends x f crlf = (x ++ (f ++ 13 ∷ []), ap (λ l. x ++ l) (sym (append_assoc f (13 ∷ []) (10 ∷ []))) ∙ sym (append_assoc x (f ++ 13 ∷ []) (10 ∷ [])))

head_ends : (head : ResponseHead) → (front : List ℕ) × (print_response head ≡ front ++ 10 ∷ [])
unfolding print_response
head_ends head = ends _ _ head.last

last_byte : (bytes front : List ℕ) → bytes ≡ front ++ 10 ∷ [] → get_or bytes (length bytes - 1) 0 ≡ 10
last_byte bytes front e =
    let place : length bytes - 1 ≡ length front = omega (arith, ap length e, length-append front (10 ∷ [])) in
    ap (λ k. get_or bytes k 0) place ∙ ap (λ l. get_or l (length front) 0) e ∙ get_or-append_seam front 10 [] 0

-- ---- bytes that grew by one

-- a head of all bytes that is none of the others has them all
all_bytes : (bytes : List ℕ) (head : ResponseHead) (rest : List ℕ) → HasNoAnswerHead (take (length bytes - 1) bytes) → IsAnswerHead bytes head rest
    → rest ≡ []
all_bytes bytes head [] none is = refl
all_bytes bytes head (byte ∷ others) none is =
    let place : length bytes - 1 ≡ length (print_response head) + length others =
    omega (arith, ap length is.reads.1, length-append (print_response head) (byte ∷ others)) in
    absurd (none head (take (length others) (byte ∷ others)) (record {
      reads = (
        is.reads.0,
        ap (λ k. take k bytes) place ∙ ap (take (length (print_response head) + length others)) is.reads.1
            ∙ take-append-add (print_response head) (byte ∷ others) (length others),
      );
      size = is.size;
      fields = is.fields;
    }))

-- and it ends with a line feed
pub no_line_feed : (bytes : List ℕ) → HasNoAnswerHead (take (length bytes - 1) bytes) → (get_or bytes (length bytes - 1) 0 ≡ 10 → ⊥)
    → HasNoAnswerHead bytes
no_line_feed bytes none other head rest is =
    let whole = is.reads.1 ∙ ap (λ l. print_response head ++ l) (all_bytes bytes head rest none is) ∙ append-nil (print_response head) in
    other (last_byte bytes (head_ends head).0 (whole ∙ (head_ends head).1))

-- a head that the parser found at the front
found : (bytes : List ℕ) (head : ResponseHead) → length bytes ≤ 16_384 → HasNoAnswerHead (take (length bytes - 1) bytes) → HasAnswerHead bytes head
    → IsAnswerHead bytes head []
found bytes head small none has =
    let is : IsAnswerHead bytes head has.0 = record {
      reads = has.1;
      size = omega (arith, ap length has.1.1, length-append (print_response head) has.0);
      fields = has.2;
    } in
    subst (IsAnswerHead bytes head) (all_bytes bytes head has.0 none is) is

pub grown : (bytes : List ℕ) (result : Front) → length bytes ≤ 16_384 → HasNoAnswerHead (take (length bytes - 1) bytes)
    → ParsesAnswerHead bytes result → ReadsAnswerEnd bytes result
grown bytes fronts.Open small none parses = λ head rest is. parses head rest is.reads
grown bytes (fronts.Head told) small none parses = (parses.0, found bytes parses.0 small none parses.1, parses.2)
grown bytes fronts.Unreadable small none parses = parses

-- no head is in no bytes
pub no_bytes : HasNoAnswerHead []
no_bytes head rest is = lacks _ _ _ ((head_ends head).1) is.reads.1
  where
    lacks : (front printed rest : List ℕ) → printed ≡ front ++ 10 ∷ [] → [] ≡ printed ++ rest → ⊥
    lacks front printed rest e h = omega (arith, ap length e, ap length h, length-append front (10 ∷ []), length-append printed rest)

-- ---- what the bytes of a link are read as

-- a head of the bytes that were read, in all bytes
extended : (all bytes left : List ℕ) (head : ResponseHead) → all ≡ bytes ++ left → IsAnswerHead bytes head [] → IsAnswerHead all head left
extended all bytes left head e is = record {
  reads = (is.reads.0, e ∙ ap (λ l. l ++ left) (is.reads.1 ∙ append-nil (print_response head)));
  size = is.size;
  fields = is.fields;
}

pub answered : (old new : Option (List ℕ)) (bytes : List ℕ) (told : AnswerHead) → Consumes old new bytes → ReadsAnswerEnd bytes (fronts.Head told)
    → ReadsAnswerHeadFrom old new (Ok told)
answered None new bytes told took read = tt
answered (Some all) None bytes told took read = absurd took
answered (Some all) (Some left) bytes told took read = (read.0, extended all bytes left read.0 took read.1, read.2)

-- there is no length, whatever is left
pub unreadable : (old new : Option (List ℕ)) (bytes : List ℕ) → Consumes old new bytes → ((left : List ℕ) → HasNoLength (bytes ++ left))
    → ReadsAnswerHeadFrom old new (Err faults.Unreadable)
unreadable None new bytes took none = tt
unreadable (Some all) None bytes took none = absurd took
unreadable (Some all) (Some left) bytes took none = λ head rest is. none left head rest (subst (λ l. IsAnswerHead l head rest) took is)

-- as many bytes as a head may have, and no head
pub full : (old new : Option (List ℕ)) (bytes : List ℕ) → Consumes old new bytes → HasNoAnswerHead bytes → 16_384 ≤ length bytes
    → ReadsAnswerHeadFrom old new (Err faults.Unreadable)
full old new bytes took none many = unreadable old new bytes took (λ left head rest is. absurd (none head _ (shortened left head rest is)))
  where
    shortened : (left : List ℕ) (head : ResponseHead) (rest : List ℕ) → IsAnswerHead (bytes ++ left) head rest
        → IsAnswerHead bytes head (drop (length (print_response head)) bytes)
    shortened left head rest is =
        let size = length (print_response head) in
        let short : size ≤ length bytes = omega (arith, is.size, many) in
        let front : take size bytes ≡ print_response head =
        sym (take-append-le size bytes left short) ∙ ap (take size) is.reads.1 ∙ take-append_seam (print_response head) rest in
        record {
          reads = (is.reads.0, sym (take-append-drop size bytes) ∙ ap (λ l. l ++ drop size bytes) front);
          size = is.size;
          fields = is.fields;
        }

-- the end of the input, and no head
pub ended : (old now new : Option (List ℕ)) (bytes : List ℕ) → Consumes old now bytes → Keeps now new → IsAtEnd new → HasNoAnswerHead bytes
    → ReadsAnswerHeadFrom old new (Err faults.Unreadable)
ended old now new bytes took keeps end none = at_end old new (Consumes-kept old now new bytes took keeps) end
  where
    at_end : (old new : Option (List ℕ)) → Consumes old new bytes → IsAtEnd new → ReadsAnswerHeadFrom old new (Err faults.Unreadable)
    at_end None new took end = tt
    at_end (Some all) None took end = absurd took
    at_end (Some all) (Some left) took end =
        let same = took ∙ ap (λ l. bytes ++ l) end ∙ append-nil bytes in
        λ head rest is. absurd (none head rest (subst (λ l. IsAnswerHead l head rest) same is))

-- nothing is said where the link failed, or memory ran out
pub nothing_said : (old new : Option (List ℕ)) (bytes : List ℕ) (fault : AnswerFault) → Consumes old new bytes → (fault ≡ faults.Failed) ⊎ (fault ≡ faults.Memory)
    → ReadsAnswerHeadFrom old new (Err fault)
nothing_said None new bytes fault took is = tt
nothing_said (Some all) None bytes fault took is = absurd took
nothing_said (Some all) (Some left) bytes faults.Failed took is = tt
nothing_said (Some all) (Some left) bytes faults.Memory took is = tt
nothing_said (Some all) (Some left) bytes faults.Unreadable took (inl is) = absurd (cc is)
nothing_said (Some all) (Some left) bytes faults.Unreadable took (inr is) = absurd (cc is)
