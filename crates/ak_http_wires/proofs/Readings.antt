-- What an answer is read as, from what its head and its body are read as.
use Rattle.std.proofs.Common.{◌≡◌, ℕ, ◌<◌, List, ◌++◌, take, Option, None, Some, Result, Ok, Err, length, sym, ap, ◌∙◌, subst, arith}
use Rattle.std.proofs.Math.Seq.{take-append_seam}
use Rattle.std.proofs.lemmas.List.{length-append}
use Rattle.std.specs.Result.{IsErrAnd}
use Rattle.httparse.specs.Grammar.{ResponseHead, status_code}
use Rattle.httparse.proofs.GrammarLemmas.{response_unique}
use Rattle.ak_messages.specs.declared.methods.Method.{Method}
use Rattle.ak_messages.specs.declared.replies.Reply.{Reply}
use Rattle.ak_wire.specs.Faults.{AtMostOne}
use Rattle.ak_wire.proofs.Exact.{reply_one}
use Rattle.ak_wire.proofs.ReadOnly.{reply_only}
use Rattle.ak_wire.specs.Replies.{ReadsReply, RefusesReply}
use Rattle.ak_wire.specs.declared.wire_faults.WireFault.{WireFault}
use Rattle.ak_wire.specs.declared.wire_faults.WireFault.TheVariants as wires
use Rattle.ak_http_wires.specs.AnswerHeads.{IsAnswerHead, ReadsAnswerHeadFrom, Tells, told_length}
use Rattle.ak_http_wires.specs.Answers.{IsAnswer, HasNoReading, ReadsAnswerFrom, ReadsBodyFrom, fault_of}
use Rattle.ak_http_wires.specs.declared.answer_heads.AnswerHead.{AnswerHead}
use Rattle.ak_http_wires.specs.declared.answers.AnswerFault.{AnswerFault}
use Rattle.ak_http_wires.specs.declared.answers.AnswerFault.TheVariants as faults

-- ---- two fronts of one list

-- fronts of one length are equal
same_front : (a b x y : List ℕ) → a ++ x ≡ b ++ y → length a ≡ length b → a ≡ b
same_front a b x y e n = sym (take-append_seam a x) ∙ ap (take (length a)) e ∙ ap (λ k. take k (b ++ y)) n ∙ take-append_seam b y

-- ---- one reading

-- the body that a head tells
body_of : (bytes behind : List ℕ) (head : ResponseHead) (method : Method) (reply : Reply) → IsAnswerHead bytes head behind
    → IsAnswer method bytes reply → (body : List ℕ) × (rest : List ℕ) × (behind ≡ body ++ rest) × (told_length head ≡ Some (length body))
    × ReadsReply method (status_code head) body reply
body_of bytes behind head method reply is answer =
    let same = response_unique bytes answer.head head answer.behind behind answer.is_head.reads is.reads in (
      answer.body,
      answer.rest,
      sym same.1 ∙ answer.parts,
      ap told_length (sym same.0) ∙ answer.size,
      subst (λ (h : ResponseHead). ReadsReply method (status_code h) answer.body reply) same.0 answer.reads,
    )

pub one_reply : (method : Method) (bytes : List ℕ) → AtMostOne (IsAnswer method bytes)
one_reply method bytes a b first second =
    let other = body_of bytes first.behind first.head method b first.is_head second in
    let sizes : Some (length first.body) ≡ Some (length other.0) = sym first.size ∙ other.3 in
    let same : first.body ≡ other.0 = same_front first.body other.0 first.rest other.1 (sym first.parts ∙ other.2) (cc sizes) in
    reply_one method (status_code first.head) first.body a b first.reads
    (subst (λ l. ReadsReply method (status_code first.head) l b) (sym same) other.4)

-- ---- what is not read

-- a head without a length
no_length : (bytes : List ℕ) (method : Method) → ((head : ResponseHead) (rest : List ℕ) → IsAnswerHead bytes head rest → told_length head ≡ None)
    → HasNoReading method bytes
no_length bytes method none reply answer = absurd (cc (sym (none answer.head answer.behind answer.is_head) ∙ answer.size))

pub head_fails : (method : Method) (w0 w1 : Option (List ℕ)) (fault : AnswerFault) → ReadsAnswerHeadFrom w0 w1 (Err fault)
    → ReadsAnswerFrom method w0 (Err fault)
head_fails method None w1 fault told = tt
head_fails method (Some a) None fault told = absurd told
head_fails method (Some a) (Some b) faults.Unreadable told = no_length a method told
head_fails method (Some a) (Some b) faults.Failed told = tt
head_fails method (Some a) (Some b) faults.Memory told = tt

-- a body that ends too soon
too_short : (bytes behind : List ℕ) (head : ResponseHead) (told : AnswerHead) (method : Method) → IsAnswerHead bytes head behind
    → Tells head told → length behind < told.length → HasNoReading method bytes
too_short bytes behind head told method is tells short reply answer =
    let other = body_of bytes behind head method reply is answer in
    let sizes : Some told.length ≡ Some (length other.0) = sym tells.length ∙ other.3 in
    let size : told.length ≡ length other.0 = cc sizes in
    omega (arith, size, short, ap length other.2, length-append other.0 other.1)

pub body_fails : (method : Method) (w0 w1 : Option (List ℕ)) (told : AnswerHead) (fault : AnswerFault) → ReadsAnswerHeadFrom w0 w1 (Ok told)
    → ReadsBodyFrom told.length w1 (Err fault) → ReadsAnswerFrom method w0 (Err fault)
body_fails method None w1 told fault head body = tt
body_fails method (Some a) None told fault head body = absurd head
body_fails method (Some a) (Some b) told faults.Unreadable head body = too_short a b head.0 told method head.1 head.2 body
body_fails method (Some a) (Some b) told faults.Failed head body = tt
body_fails method (Some a) (Some b) told faults.Memory head body = tt

-- the same of an answer that is told to be this fault
pub body_fails_so : (method : Method) (w0 w1 : Option (List ℕ)) (told : AnswerHead) (fault : AnswerFault) (result : Result Reply AnswerFault)
    → ReadsAnswerHeadFrom w0 w1 (Ok told) → ReadsBodyFrom told.length w1 (Err fault) → IsErrAnd result (λ end. end ≡ fault)
    → ReadsAnswerFrom method w0 result
body_fails_so method w0 w1 told fault (Ok reply) head body is = absurd is
body_fails_so method w0 w1 told fault (Err end) head body is =
    subst (λ e. ReadsAnswerFrom method w0 (Err e)) (sym is) (body_fails method w0 w1 told fault head body)

-- a body that is no reply
no_reply : (bytes behind : List ℕ) (head : ResponseHead) (told : AnswerHead) (body rest : List ℕ) (method : Method) → IsAnswerHead bytes head behind
    → Tells head told → behind ≡ body ++ rest → length body ≡ told.length
    → ((reply : Reply) → ReadsReply method told.status body reply → ⊥) → HasNoReading method bytes
no_reply bytes behind head told body rest method is tells parts size none reply answer =
    let other = body_of bytes behind head method reply is answer in
    let sizes : Some told.length ≡ Some (length other.0) = sym tells.length ∙ other.3 in
    let long : told.length ≡ length other.0 = cc sizes in
    let same : other.0 ≡ body = same_front other.0 body other.1 rest (sym other.2 ∙ parts) (sym long ∙ sym size) in
    none reply (subst (λ l. ReadsReply method told.status l reply) same
    (subst (λ n. ReadsReply method n other.0 reply) (sym tells.status) other.4))

pub body_unread : (method : Method) (w0 w1 : Option (List ℕ)) (told : AnswerHead) (body : List ℕ) → ReadsAnswerHeadFrom w0 w1 (Ok told)
    → ReadsBodyFrom told.length w1 (Ok body) → ((reply : Reply) → ReadsReply method told.status body reply → ⊥)
    → ReadsAnswerFrom method w0 (Err faults.Unreadable)
body_unread method None w1 told body head read none = tt
body_unread method (Some a) None told body head read none = absurd head
body_unread method (Some a) (Some b) told body head read none =
    no_reply a b head.0 told body read.0 method head.1 head.2 read.1 read.2 none

memory_out : (method : Method) (w : Option (List ℕ)) → ReadsAnswerFrom method w (Err faults.Memory)
memory_out method None = tt
memory_out method (Some a) = tt

pub body_refused : (method : Method) (w0 w1 : Option (List ℕ)) (told : AnswerHead) (body : List ℕ) (fault : WireFault)
    → ReadsAnswerHeadFrom w0 w1 (Ok told) → ReadsBodyFrom told.length w1 (Ok body) → RefusesReply method told.status body fault
    → ReadsAnswerFrom method w0 (Err (fault_of fault))
body_refused method w0 w1 told body (wires.Json fault) head read refuses =
    body_unread method w0 w1 told body head read (λ reply is. unlike (reply_only method told.status body reply is _ refuses))
  where
    unlike : wires.Json fault ≡ wires.Memory → ⊥
    unlike e = cc e
body_refused method w0 w1 told body (wires.TooManyRows entries) head read refuses =
    body_unread method w0 w1 told body head read (λ reply is. unlike (reply_only method told.status body reply is _ refuses))
  where
    unlike : wires.TooManyRows entries ≡ wires.Memory → ⊥
    unlike e = cc e
body_refused method w0 w1 told body (wires.RowOrder table) head read refuses =
    body_unread method w0 w1 told body head read (λ reply is. unlike (reply_only method told.status body reply is _ refuses))
  where
    unlike : wires.RowOrder table ≡ wires.Memory → ⊥
    unlike e = cc e
body_refused method w0 w1 told body wires.Memory head read refuses = memory_out method w0

-- the same of a body as it is shown, and of the fault that is told
pub refused_so : (method : Method) (w0 w1 : Option (List ℕ)) (told : AnswerHead) (body shown : List ℕ) (fault : WireFault) (end : AnswerFault)
    → ReadsAnswerHeadFrom w0 w1 (Ok told) → ReadsBodyFrom told.length w1 (Ok body) → shown ≡ body
    → RefusesReply method told.status shown fault → end ≡ fault_of fault → ReadsAnswerFrom method w0 (Err end)
refused_so method w0 w1 told body shown fault end head read same refuses is =
    subst (λ e. ReadsAnswerFrom method w0 (Err e)) (sym is)
    (body_refused method w0 w1 told body fault head read (subst (λ l. RefusesReply method told.status l fault) same refuses))

-- ---- what is read

pub body_read : (method : Method) (w0 w1 : Option (List ℕ)) (told : AnswerHead) (body : List ℕ) (reply : Reply) → ReadsAnswerHeadFrom w0 w1 (Ok told)
    → ReadsBodyFrom told.length w1 (Ok body) → ReadsReply method told.status body reply → ReadsAnswerFrom method w0 (Ok reply)
body_read method None w1 told body reply head read is = tt
body_read method (Some a) None told body reply head read is = absurd head
body_read method (Some a) (Some b) told body reply head read is = record {
  head = head.0;
  behind = b;
  body = body;
  rest = read.0;
  is_head = head.1;
  parts = read.1;
  size = head.2.length ∙ ap (λ n. Some n) (sym read.2);
  reads = subst (λ n. ReadsReply method n body reply) head.2.status is;
}
