-- The kept reply is of a step that its session has had, so that what is next is no repeat.
use Rattle.std.specs.Cmp.{first_so, second_so}
use Rattle.std.specs.Prelude.{◌≡◌, ◌≤◌, ℕ, ℤ, ◌+◌, ◌==◌, ◌&&◌, if◌then◌else◌, true, false, List, [], ◌∷◌, length, Option, Some, None, IfSome, ⊤}
use Rattle.std.proofs.Common.{refl, sym, subst, ◌∙◌, arith}
use Rattle.std.proofs.lemmas.Bool.{eqb-true}
use Rattle.std.proofs.lemmas.List.{length-append}
use Rattle.ak_messages.specs.declared.requests.Request.{Request}
use Rattle.ak_session.specs.Requests.{asked_method, is_meta, same_method}
use Rattle.ak_protocol.specs.Accounts.{SessionState, KeptReply, AccountState, is_repeat, repeated}
use Rattle.ak_protocol.specs.Kept.{HasPastReply}
use Rattle.ak_protocol.specs.Lawful.{IsNext}
use Rattle.ak_protocol.specs.Logs.{Event, View, Asked, World, world_next, world_after}
use Rattle.ak_protocol.specs.Serving.{Setback, served}
use Rattle.ak_protocol.proofs.Cases.{by_cases}

-- without a session nothing is to be shown
no_session : (o : Option KeptReply) → IfSome o (λ kept. ⊤)
no_session None = tt
no_session (Some kept) = tt

pub past_served : (s : AccountState) (request : Request) (now : ℤ) → HasPastReply s → (setback : Setback) → HasPastReply (served s request now setback).next
past_served s request now past = by_cases s request now (λ it. HasPastReply it.next) (record {
  strikes = λ reply failed. no_session (if is_meta request.ask then None else s.kept);
  begins = λ _. tt;
  repeats = λ kept is repeat later. past;
  refuses_it = λ why. past;
  goes_on = λ session next none goes is. up session.accepted request.step next.step (length-append session.accepted (request ∷ []));
  stops = λ session next none. tt;
  finishes = λ session next is_commit. tt;
})
  where
    up : {n : ℕ} (accepted : List Request) (step : ℕ) → step ≡ length accepted + 1 → n ≡ length accepted + 1 → step ≤ n
    up accepted step is long = omega (arith, is, long)

pub replies_are_past : (w : World) (events : List Event) → HasPastReply w.state → HasPastReply (world_after w events).state
replies_are_past w [] past = past
replies_are_past w (View host ∷ events) past = replies_are_past (world_next w (View host)) events (no_session w.state.kept)
replies_are_past w (Asked request now setback ∷ events) past =
    replies_are_past (world_next w (Asked request now setback)) events (past_served w.state request now past setback)

-- ---- what is next is no repeat
no_repeat : (o : Option KeptReply) (s : AccountState) (session : SessionState) (request : Request) → IsNext s session request
    → IfSome o (λ kept. kept.key ≡ session.key → kept.step ≤ length session.accepted) → repeated o request ≡ None
no_repeat None s session request next past = refl
no_repeat (Some kept) s session request next past =
    elim (is_repeat kept request) as (λ b. is_repeat kept request ≡ b → (if b then Some kept else None) ≡ None) [
      | true ↦ λ repeat. absurd (too_late repeat)
      | false ↦ λ _. refl
    ] refl
  where
    too_late : is_repeat kept request ≡ true → ⊥
    too_late repeat =
        let both = first_so ((kept.key == request.session.0) && (kept.step == request.step)) (same_method kept.method (asked_method request.ask)) repeat in
        let key = eqb-true kept.key request.session.0 (first_so (kept.key == request.session.0) (kept.step == request.step) both) in
        let step = eqb-true kept.step request.step (second_so (kept.key == request.session.0) (kept.step == request.step) both) in
        let low = past (key ∙ sym next.key) in
        let is = next.step in
        omega (arith, step, low, is)

pub next_is_no_repeat : (s : AccountState) (session : SessionState) (request : Request) → HasPastReply s → IsNext s session request → repeated s.kept request ≡ None
next_is_no_repeat s session request past next =
    no_repeat s.kept s session request next
    (subst (λ (live : Option SessionState). IfSome s.kept (λ kept. IfSome live (λ l. kept.key ≡ l.key → kept.step ≤ length l.accepted))) next.live past)
