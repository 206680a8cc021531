-- Requests that are served one after the other, one more or one less.
use Rattle.std.proofs.Common.{◌≡◌, ◌<◌, ◌+◌, ℕ, ℤ, List, [], ◌∷◌, length, drop, get_or, Ok, Err, refl, sym, ap, subst, ◌∙◌, inr, arith}
use Rattle.ak_base.specs.declared.errors.Memory.{Memory}
use Rattle.ak_lab_wires.proofs.Named.{from_place}
use Rattle.ak_io.specs.Arrivals.{IsClockMoment}
use Rattle.ak_lab_wires.specs.Servings.{ServesAgain, ServesFront, named_from, requests_in, with_line}
use Rattle.ak_sync_in_memory.specs.Betweens.{ActEnd}
use Rattle.ak_sync_in_memory.specs.Entries.{LoggedState}
use Rattle.ak_sync_in_memory.specs.LoggedServers.{IsServed}
use Rattle.ak_sync_in_memory.specs.declared.logs.Entry.{Entry}
use Rattle.ak_messages.specs.declared.replies.Reply.{Reply}
use Rattle.ak_messages.specs.declared.requests.Request.{Request}

pub front_more : (requests : List Request) (place : ℕ) (request : Request) (at : ℤ) (old mid new : LoggedState) (reply : Reply) (came : ActEnd)
    → place < length requests → request ≡ get_or requests place request → IsServed old mid request at reply
    → ServesFront (drop (place + 1) requests) at mid new came → ServesFront (drop place requests) at old new came
front_more requests place request at old mid new reply came within is served front =
    subst (λ (l : List Request). ServesFront l at old new came) (sym (from_place requests place request within is)) (record {
      served = request ∷ front.served;
      left = front.left;
      parts = ap (λ (l : List Request). request ∷ l) front.parts;
      replies = reply ∷ front.replies;
      serves = (mid, served, front.serves);
      whole = front.whole;
    })

pub front_short : (requests : List Request) (at : ℤ) (s : LoggedState) (end : Memory) → ServesFront requests at s s (Err end)
front_short requests at s end = record {
  served = [];
  left = requests;
  parts = refl;
  replies = [];
  serves = (refl, refl);
  whole = λ is. absurd (grind (arith, is));
}

pub front_ended : (requests : List Request) (at : ℤ) (s : LoggedState) → requests ≡ [] → ServesFront requests at s s (Ok tt)
front_ended requests at s none = subst (λ (l : List Request). ServesFront l at s s (Ok tt)) (sym none) (record {
  served = [];
  left = [];
  parts = refl;
  replies = [];
  serves = (refl, refl);
  whole = λ is. refl;
})

-- memory ran out for the next
pub served_short : (requests : List Request) (place : ℕ) (at : ℤ) (s t : LoggedState) (end : Memory) → t ≡ s → ServesFront (drop place requests) at s t (Err end)
served_short requests place at s t end same =
    subst (λ (x : LoggedState). ServesFront (drop place requests) at s x (Err end)) (sym same) (front_short (drop place requests) at s end)

-- the requests that a log names were served, with a line of their own
pub serves_again : (from count line : ℕ) (at : ℤ) (old new : LoggedState) (came : ActEnd) (entries : List Entry) (requests : List Request) → entries ≡ old.entries
    → requests ≡ named_from from count (requests_in entries) → IsClockMoment at
    → (reached : LoggedState) × ServesFront requests at (with_line line old) reached came × (new ≡ with_line old.line reached)
    → ServesAgain from count line at old new came
serves_again from count line at old new came entries requests are named clock (reached, front, back) = inr (record {
  clock = clock;
  reached = reached;
  front = subst (λ (l : List Request). ServesFront l at (with_line line old) reached came)
      (named ∙ ap (λ (l : List Entry). named_from from count (requests_in l)) are) front;
  back = back;
})
