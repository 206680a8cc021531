-- The next card ends with all lists.
use Rattle.std.proofs.Common.{◌≡◌, ◌↔◌, Bool, true, false, ℕ, ℤ, List, [], ◌∷◌, Option, Some, None, slice_get, refl, ap₂, ◌∙◌}
use Rattle.std.specs.Option.{option_or}
use Rattle.ak_queue.specs.Nexts.{IsEmpty, first_if, is_time_for_new, next_of}
use Rattle.ak_queue.specs.declared.nexts.Mixing.{Mixing}
use Rattle.ak_queue.specs.declared.day_queues.DayQueue.{DayQueue}

neither : (a b : Option ℤ) → option_or a b ≡ None → (a ≡ None) × (b ≡ None)
neither None b h = (refl, h)
neither (Some x) b h = absurd (cc)

no_first : (ids : List ℤ) → slice_get ids 0 ≡ None → ids ≡ []
no_first [] h = refl
no_first (id ∷ ids) h = absurd (cc)

pub none_first : (comes : Bool) → first_if comes [] ≡ None
none_first true = refl
none_first false = refl

all_empty : (mixing : Mixing) (done : ℕ) (q : DayQueue) → next_of mixing done q ≡ None → IsEmpty q
all_empty mixing done q h =
    let a = neither (slice_get q.learning 0) _ h in
    let b = neither (first_if (is_time_for_new mixing.spread done q) q.new_cards) _ a.1 in
    let c = neither (first_if mixing.day_learn_first q.day_learning) _ b.1 in
    let d = neither (slice_get q.reviews 0) _ c.1 in
    let e = neither (slice_get q.day_learning 0) _ d.1 in
    let f = neither (slice_get q.new_cards 0) _ e.1 in
    let g = neither (slice_get q.soon 0) None f.1 in
    record {
      learning = no_first q.learning a.0;
      soon = no_first q.soon g.0;
      new_cards = no_first q.new_cards f.0;
      day_learning = no_first q.day_learning e.0;
      reviews = no_first q.reviews d.0;
    }

none : (mixing : Mixing) (done : ℕ) → next_of mixing done (record { learning = []; soon = []; new_cards = []; day_learning = []; reviews = [] }) ≡ None
none mixing done =
    ap₂ (λ a b. option_or a (option_or b None)) (none_first (is_time_for_new mixing.spread done (record { learning = []; soon = []; new_cards = []; day_learning = []; reviews = [] }))) (none_first mixing.day_learn_first)

-- there is no next card exactly where all lists are empty
pub ends : (mixing : Mixing) (done : ℕ) (q : DayQueue) → (next_of mixing done q ≡ None) ↔ IsEmpty q
ends mixing done q = (
  all_empty mixing done q,
  λ (e : IsEmpty q).
      (λ i. next_of mixing done (record { learning = e.learning i; soon = e.soon i; new_cards = e.new_cards i; day_learning = e.day_learning i; reviews = e.reviews i })) ∙ none mixing done,
)
