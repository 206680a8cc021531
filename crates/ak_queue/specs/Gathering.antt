-- What is gathered of the cards that wait.
use Rattle.std.specs.Prelude.{◌≡◌, ◌⊎◌, ◌≤◌, ◌+ℤ◌, ℕ, ℤ, pos, Bool, true, int_lt, if◌then◌else◌, List, [], ◌∷◌, length, take, Option, Some}
use Rattle.std.specs.List.{AllByRecursion, filter_map}
use Rattle.std.specs.declared.cmp.Ordering.TheVariants.{Less}
use Rattle.ak_base.specs.declared.cards.Card.{Card}
use Rattle.ak_keep.specs.QueueWalks.{is_to_come}
use Rattle.ak_keep.specs.WaitingCards.{IsOneOf, is_due_by, key_of}
use Rattle.ak_keep.specs.declared.queue_walks.QueueWalk.{QueueWalk}
use Rattle.ak_queue.specs.Homes.{Parts}
use Rattle.ak_queue.specs.Lists.{QueueView, due_key, key_under, new_key, is_learning, is_soon, is_day_learning, is_due_review}
use Rattle.ak_queue.specs.Orders.{DueKey, NewKey, put_among, due_cmp, new_cmp}
use Rattle.ak_queue.specs.declared.gathered.Gathered.{Gathered}

-- each of the cards that passes was put in at its place; of the reviews the first are those
pub record Gathers (s : QueueView) (cards : List Card) (old new : Gathered) : Type 0 where
  pub most : new.most ≡ old.most
  pub learning : new.learning.keys ≡ put_among due_cmp old.learning.keys (filter_map (due_key is_learning s) cards)
  pub soon : new.soon.keys ≡ put_among due_cmp old.soon.keys (filter_map (due_key is_soon s) cards)
  pub day_learning : new.day_learning.keys ≡ put_among due_cmp old.day_learning.keys (filter_map (due_key is_day_learning s) cards)
  pub reviews : take old.most new.reviews.keys ≡ take old.most (put_among due_cmp old.reviews.keys (filter_map (due_key is_due_review s) cards))
  pub new_cards : new.new_cards.keys ≡ put_among new_cmp old.new_cards.keys (filter_map (new_key s) cards)

-- a card that is learned today is due by then, if it is due now or soon
pub record IsLastLearning (s : QueueView) (last : Option ℤ) : Type 0 where
  pub now : (due : ℤ) → int_lt due s.day.now ≡ true → is_due_by last due ≡ true
  pub soon : (due : ℤ) → int_lt due (s.day.now +ℤ s.collapse) ≡ true → is_due_by last due ≡ true

-- as many reviews as are looked for were gathered, and this card comes after all that were passed
pub record ComesAfterEnough (over : QueueWalk) (g : Gathered) (passed : List Card) (c : Card) : Type 0 where
  pub queue : over.waiting.queue ≡ pos 2
  pub most : g.most ≤ length g.reviews.keys
  pub after : AllByRecursion (λ d. due_cmp (key_of d) (key_of c) ≡ Less) passed

-- cards that a walk goes over were gathered: all of them, or as many reviews as are looked for, and none is left out that comes before one that was passed
pub record GathersOver (s : QueueView) (held : Card → Type 0) (over : QueueWalk) (old new : Gathered) : Type 0 where
  pub passed : List Card
  pub gathered : Gathers s passed old new
  pub sound : AllByRecursion (λ c. held c × (is_to_come over c ≡ true)) passed
  pub whole : (c : Card) → held c → is_to_come over c ≡ true → IsOneOf passed c ⊎ ComesAfterEnough over new passed c

-- nothing was gathered yet, and so many reviews are looked for
pub record HasNone (looked_for : ℕ) (g : Gathered) : Type 0 where
  pub most : g.most ≡ looked_for
  pub learning : g.learning.keys ≡ []
  pub soon : g.soon.keys ≡ []
  pub day_learning : g.day_learning.keys ≡ []
  pub reviews : g.reviews.keys ≡ []
  pub new_cards : g.new_cards.keys ≡ []

-- those of the cards that pass, in their order, and of the reviews the first of those found
pub record HasAllWith (s : QueueView) (cards : List Card) (found : List DueKey) (g : Gathered) : Type 0 where
  pub learning : g.learning.keys ≡ put_among due_cmp [] (filter_map (due_key is_learning s) cards)
  pub soon : g.soon.keys ≡ put_among due_cmp [] (filter_map (due_key is_soon s) cards)
  pub day_learning : g.day_learning.keys ≡ put_among due_cmp [] (filter_map (due_key is_day_learning s) cards)
  pub reviews : take g.most g.reviews.keys ≡ take g.most found
  pub new_cards : g.new_cards.keys ≡ put_among new_cmp [] (filter_map (new_key s) cards)

-- those of the cards that pass, in their order, but no review yet, if any is looked for
abbrev pub HasAllButReviews : QueueView → List Card → Gathered → Type 0
HasAllButReviews s cards g = HasAllWith s cards [] g

-- those of the cards that pass, in their order, and of the reviews the first
abbrev pub HasAllOf : QueueView → List Card → Gathered → Type 0
HasAllOf s cards g = HasAllWith s cards (put_among due_cmp [] (filter_map (due_key is_due_review s) cards)) g

-- the first of the reviews were added, if all else of the cards was there and no review yet
abbrev pub AddsFirstReviews : QueueView → List Card → Gathered → Gathered → Type 0
AddsFirstReviews s cards old new = HasAllButReviews s cards old → HasAllOf s cards new

-- a card was put in by when it is due, if it passes
abbrev pub PutsDue : Bool → Card → List DueKey → List DueKey → Type 0
PutsDue passes c old new = new ≡ put_among due_cmp old (if passes then (c.due, c.id) ∷ [] else [])

-- the first so many are as if a card was put in by when it is due, if it passes
abbrev pub PutsFirst : ℕ → Bool → Card → List DueKey → List DueKey → Type 0
PutsFirst most passes c old new = take most new ≡ take most (put_among due_cmp old (if passes then (c.due, c.id) ∷ [] else []))

-- a card was put in by the path of its deck, if it is a new one inside
abbrev pub PutsNew : QueueView → Card → List NewKey → List NewKey → Type 0
PutsNew s c old new = new ≡ put_among new_cmp old (filter_map (new_key s) (c ∷ []))

-- a card was put in by this path, if that is in the subtree of the other
abbrev pub PutsUnder : Parts → Parts → Card → List NewKey → List NewKey → Type 0
PutsUnder root home c old new = new ≡ put_among new_cmp old (filter_map (λ (parts : Parts). key_under root c (Some parts)) (home ∷ []))
