-- The list of a live session is one that it accepts from the committed collection.
use Rattle.std.specs.Prelude.{◌≡◌, ℕ, ℤ, false, List, [], ◌∷◌, ◌++◌, Option, IfSome, ◌⊎◌}
use Rattle.std.proofs.Common.{refl, sym, ap, subst, ◌∙◌, inl, inr}
use Rattle.ak_keep.specs.Collections.{Collection}
use Rattle.ak_messages.specs.declared.requests.Request.{Request}
use Rattle.ak_protocol.specs.Accounts.{SessionState, AccountState}
use Rattle.ak_session.specs.Contents.{ends}
use Rattle.ak_protocol.specs.Lawful.{IsNext, IsAccepted, AreAccepted, HasLawfulSession}
use Rattle.ak_protocol.specs.Logs.{Event, View, Asked, World, world_next, world_after}
use Rattle.ak_session.specs.Requests.{asks_commit}
use Rattle.ak_protocol.specs.Serving.{Setback, served}
use Rattle.ak_protocol.proofs.Cases.{by_cases}
use Rattle.ak_protocol.proofs.Replies.{first_of}
use Rattle.ak_protocol.proofs.Sessions.{nothing_asked}

abbrev rest_of : List Request → List Request
rest_of [] = []
rest_of (request ∷ requests) = requests

-- a place of a list with one more at its end: the end, or a place of the list
place_of : (accepted before : List Request) (last request : Request) (after : List Request) → before ++ request ∷ after ≡ accepted ++ last ∷ []
    → (before ≡ accepted) × (request ≡ last) ⊎ ((after' : List Request) × (before ++ request ∷ after' ≡ accepted))
place_of [] [] last request after is = inl (refl, ap (first_of last) is)
place_of [] (b ∷ before) last request after is = absurd (nothing_asked before request after (ap rest_of is))
place_of (a ∷ accepted) [] last request after is = inr (accepted, ap (λ (r : Request). r ∷ accepted) (ap (first_of last) is))
place_of (a ∷ accepted) (b ∷ before) last request after is =
    elim (place_of accepted before last request after (ap rest_of is)) as (λ _. (b ∷ before ≡ a ∷ accepted) × (request ≡ last) ⊎ ((after' : List Request) × (b ∷ (before ++ request ∷ after') ≡ a ∷ accepted))) [
      | inl end ↦ inl (ap (λ (r : Request). r ∷ before) (ap (first_of last) is) ∙ ap (λ (l : List Request). a ∷ l) end.0, end.1)
      | inr place ↦ inr (place.0, ap (λ (r : Request). r ∷ (before ++ request ∷ place.0)) (ap (first_of last) is) ∙ ap (λ (l : List Request). a ∷ l) place.1)
    ]

accepted_more : (key : ℕ) (committed : Collection) (accepted : List Request) (last : Request) → AreAccepted key committed accepted → IsAccepted key committed accepted last
    → AreAccepted key committed (accepted ++ last ∷ [])
accepted_more key committed accepted last all one before request after is = by_place (place_of accepted before last request after is)
  where
    by_place : (before ≡ accepted) × (request ≡ last) ⊎ ((after' : List Request) × (before ++ request ∷ after' ≡ accepted)) → IsAccepted key committed before request
    by_place (inl end) = subst (λ (l : List Request). IsAccepted key committed l request) (sym end.0) (subst (IsAccepted key committed accepted) (sym end.1) one)
    by_place (inr place) = all before request place.0 place.1

is_accepted : (s : AccountState) (session : SessionState) (request : Request) → IsNext s session request → asks_commit request.ask ≡ false
    → ends s.committed session.accepted request ≡ false → IsAccepted session.key s.committed session.accepted request
is_accepted s session request next stays goes = record {
  own = sym next.key;
  step = next.step;
  in_range = next.in_range;
  base = next.base;
  later = next.later;
  stays = stays;
  allowed = next.allowed;
  goes_on = goes;
}

-- a serving keeps the session lawful
pub lawful_by_request : (s : AccountState) (request : Request) (now : ℤ) → HasLawfulSession s → (setback : Setback) → HasLawfulSession (served s request now setback).next
lawful_by_request s request now lawful = by_cases s request now (λ it. HasLawfulSession it.next) (record {
  strikes = λ reply failed. tt;
  begins = λ _ before r after is. absurd (nothing_asked before r after is);
  repeats = λ kept is repeat later. lawful;
  refuses_it = λ why. lawful;
  goes_on = λ session next none goes.
      accepted_more session.key s.committed session.accepted request
      (subst (λ (o : Option SessionState). IfSome o (λ session. AreAccepted session.key s.committed session.accepted)) next.live lawful) (is_accepted s session request next none goes);
  stops = λ session next none. tt;
  finishes = λ session next commits. tt;
})

-- so does a log
pub sessions_stay_lawful : (w : World) (events : List Event) → HasLawfulSession w.state → HasLawfulSession (world_after w events).state
sessions_stay_lawful w [] lawful = lawful
sessions_stay_lawful w (View host ∷ events) lawful = sessions_stay_lawful (world_next w (View host)) events tt
sessions_stay_lawful w (Asked request now setback ∷ events) lawful =
    sessions_stay_lawful (world_next w (Asked request now setback)) events (lawful_by_request w.state request now lawful setback)
