-- What a serving may be: its cases, split once.
use Rattle.std.specs.Cmp.{signed_Decides, first_so, second_so}
use Rattle.std.specs.Ordering.{int_eq}
use Rattle.std.specs.Prelude.{◌≤◌, ◌≡◌, ◌≢◌, ℕ, ℤ, ◌+◌, ◌==◌, nat_le, if◌then◌else◌, Bool, true, false, Option, Some, None}
use Rattle.std.proofs.Common.{refl, sym, subst, arith}
use Rattle.std.proofs.lemmas.Bool.{eqb-true}
use Rattle.std.proofs.lemmas.Option.{same_Some}
use Rattle.ak_messages.specs.declared.replies.Reply.{Reply}
use Rattle.ak_messages.specs.declared.requests.Request.{Request}
use Rattle.ak_protocol.specs.Accounts.{SessionState, KeptReply, AccountState, last_step, is_repeat, repeated, given_again, session_of}
use Rattle.ak_session.specs.Contents.{refusal, ends}
use Rattle.ak_protocol.specs.Lawful.{IsNext}
use Rattle.ak_protocol.specs.Replies.{Refusal, PastBase, NoSession, WrongStep, Objected, keeper_failed, out_of_memory}
use Rattle.ak_session.specs.Objections.{Objection}
use Rattle.ak_session.specs.Requests.{is_meta, asks_commit}
use Rattle.ak_protocol.specs.Serving.{Setback, Undisturbed, KeeperFault, OutOfMemory, Served, unchanged, refuses, struck, begun, went_on, ended, finished, by_refusal, has_next_step, by_session, by_repeat, served}

-- what is to be shown of each case without a setback
pub record QuietCases (s : AccountState) (request : Request) (now : ℤ) (P : Served → Type 0) : Type 0 where
  pub begins : is_meta request.ask ≡ true → P (begun s request now)
  pub repeats : (kept : KeptReply) → s.kept ≡ Some kept → is_repeat kept request ≡ true → is_meta request.ask ≡ false → P (unchanged s (given_again s.committed kept))
  pub refuses_it : (why : Refusal) → P (refuses s why)
  pub goes_on : (session : SessionState) → IsNext s session request → asks_commit request.ask ≡ false → ends s.committed session.accepted request ≡ false → P (went_on s session request)
  pub stops : (session : SessionState) → IsNext s session request → asks_commit request.ask ≡ false → P (ended s session request)
  pub finishes : (session : SessionState) → IsNext s session request → asks_commit request.ask ≡ true → P (finished s session request now)

-- what is to be shown of each case, so that it holds of every serving
pub record Cases (s : AccountState) (request : Request) (now : ℤ) (P : Served → Type 0) : Type 0 where
  pub strikes : (reply : Reply) → reply.status ≢ 200 → P (struck s request reply)
  pub begins : is_meta request.ask ≡ true → P (begun s request now)
  pub repeats : (kept : KeptReply) → s.kept ≡ Some kept → is_repeat kept request ≡ true → is_meta request.ask ≡ false → P (unchanged s (given_again s.committed kept))
  pub refuses_it : (why : Refusal) → P (refuses s why)
  pub goes_on : (session : SessionState) → IsNext s session request → asks_commit request.ask ≡ false → ends s.committed session.accepted request ≡ false → P (went_on s session request)
  pub stops : (session : SessionState) → IsNext s session request → asks_commit request.ask ≡ false → P (ended s session request)
  pub finishes : (session : SessionState) → IsNext s session request → asks_commit request.ask ≡ true → P (finished s session request now)

-- ---- what the tests tell
pub not_none : {A : Type 0} {x : A} → Some x ≡ None → ⊥
not_none is = grind (arith, is)

pub repeated_is : (o : Option KeptReply) (request : Request) (kept : KeptReply) → repeated o request ≡ Some kept → (o ≡ Some kept) × (is_repeat kept request ≡ true)
repeated_is None request kept is = absurd (not_none (sym is))
repeated_is (Some k) request kept is =
    elim (is_repeat k request) as (λ b. is_repeat k request ≡ b → (if b then Some k else None) ≡ Some kept → (Some k ≡ Some kept) × (is_repeat kept request ≡ true)) [
      | true ↦ λ e is. (is, subst (λ (x : KeptReply). is_repeat x request ≡ true) (same_Some k kept is) e)
      | false ↦ λ e is. absurd (not_none (sym is))
    ] refl is

pub session_is : (o : Option SessionState) (key : ℕ) (session : SessionState) → session_of o key ≡ Some session → (o ≡ Some session) × (session.key ≡ key)
session_is None key session is = absurd (not_none (sym is))
session_is (Some l) key session is =
    elim (l.key == key) as (λ b. (l.key == key) ≡ b → (if b then Some l else None) ≡ Some session → (Some l ≡ Some session) × (session.key ≡ key)) [
      | true ↦ λ e is. (is, subst (λ (x : SessionState). x.key ≡ key) (same_Some l session is) (eqb-true l.key key e))
      | false ↦ λ e is. absurd (not_none (sym is))
    ] refl is

at_most : (n m : ℕ) → nat_le n m ≡ true → n ≤ m
at_most n m is = grind (arith, is)

-- ---- the cases
split : (P : Served → Type 0) (b : Bool) (x y : Served) → (b ≡ true → P x) → (b ≡ false → P y) → P (if b then x else y)
split P true x y so other = so refl
split P false x y so other = other refl

at_refusal : (s : AccountState) (request : Request) (now : ℤ) (P : Served → Type 0) → QuietCases s request now P
    → (why : Option Objection) (session : SessionState) → refusal s.committed session.accepted request ≡ why
    → (refusal s.committed session.accepted request ≡ None → IsNext s session request) → P (by_refusal why s session request now)
at_refusal s request now P c (Some why) session is next = c.refuses_it (Objected why (last_step session) s.committed.head.usn)
at_refusal s request now P c None session is next =
    split P (asks_commit request.ask) _ _ (c.finishes session (next is))
    (λ plain. split P (ends s.committed session.accepted request) _ _ (λ _. c.stops session (next is) plain) (c.goes_on session (next is) plain))

at_session : (s : AccountState) (request : Request) (now : ℤ) (P : Served → Type 0) → QuietCases s request now P
    → is_meta request.ask ≡ false → request.base ≡ s.committed.head.moment
    → (live : Option SessionState) → session_of s.live request.session.0 ≡ live → P (by_session live s request now)
at_session s request now P c later base None is = c.refuses_it NoSession
at_session s request now P c later base (Some session) is =
    let own = session_is s.live request.session.0 session is in
    split P (has_next_step session request) _ _
    (λ next. at_refusal s request now P c (refusal s.committed session.accepted request) session refl (λ allowed. record {
      live = own.0;
      key = own.1;
      step = eqb-true request.step (last_step session + 1) (first_so (request.step == last_step session + 1) (nat_le request.step 9_223_372_036_854_775_807) next);
      base = base;
      later = later;
      in_range = at_most request.step 9_223_372_036_854_775_807 (second_so (request.step == last_step session + 1) (nat_le request.step 9_223_372_036_854_775_807) next);
      allowed = allowed;
    }))
    (λ _. c.refuses_it (WrongStep (last_step session)))

at_repeat : (s : AccountState) (request : Request) (now : ℤ) (P : Served → Type 0) → QuietCases s request now P
    → is_meta request.ask ≡ false → (kept : Option KeptReply) → repeated s.kept request ≡ kept → P (by_repeat kept s request now)
at_repeat s request now P c later (Some kept) is = let own = repeated_is s.kept request kept is in c.repeats kept own.0 own.1 later
at_repeat s request now P c later None is =
    split P (int_eq request.base s.committed.head.moment) _ _
    (λ same. at_session s request now P c later ((signed_Decides request.base s.committed.head.moment).0 same) (session_of s.live request.session.0) refl)
    (λ _. c.refuses_it (PastBase s.committed.head.moment))

-- what holds in each case without a setback holds of a serving without one
pub by_quiet : (s : AccountState) (request : Request) (now : ℤ) (P : Served → Type 0) → QuietCases s request now P → P (served s request now Undisturbed)
by_quiet s request now P c =
    split P (is_meta request.ask) _ _ c.begins (λ later. at_repeat s request now P c later (repeated s.kept request) refl)

-- what holds in each case holds of every serving
pub by_cases : (s : AccountState) (request : Request) (now : ℤ) (P : Served → Type 0) → Cases s request now P → (setback : Setback) → P (served s request now setback)
by_cases s request now P c KeeperFault = c.strikes keeper_failed (λ is. grind (arith, is))
by_cases s request now P c OutOfMemory = c.strikes out_of_memory (λ is. grind (arith, is))
by_cases s request now P c Undisturbed = by_quiet s request now P (record {
  begins = c.begins;
  repeats = c.repeats;
  refuses_it = c.refuses_it;
  goes_on = c.goes_on;
  stops = c.stops;
  finishes = c.finishes;
})
