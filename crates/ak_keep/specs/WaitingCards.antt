-- The cards of a queue, in the order in which they wait.
use Rattle.std.specs.Prelude.{◌≡◌, ◌⊎◌, ℕ, ℤ, Bool, true, not, ◌&&◌, ◌≤◌, int_lt, Option, Some, None, List, [], ◌∷◌, length, ⊤}
use Rattle.std.specs.List.{AllByRecursion}
use Rattle.std.specs.Ordering.{int_cmp, int_eq, is_lt, ordering_then}
use Rattle.std.specs.declared.cmp.Ordering.{Ordering}
use Rattle.ak_base.specs.declared.cards.Card.{Card}
use Rattle.ak_keep.specs.Collections.{Rows}
use Rattle.ak_keep.specs.Lookups.{card_at}
use Rattle.ak_keep.specs.declared.queue_walks.Waiting.{Waiting}

-- where a card waits in its queue: when it is due, and its id
abbrev pub DueKey : Type 0
DueKey = ℤ × ℤ

-- by due, then by id
abbrev pub due_cmp : DueKey → DueKey → Ordering
due_cmp one other = ordering_then (int_cmp one.0 other.0) (int_cmp one.1 other.1)

-- where this card waits
abbrev pub key_of : Card → DueKey
key_of c = (c.due, c.id)

-- whether a place comes after another, if there is another
abbrev pub comes_after : Option DueKey → DueKey → Bool
comes_after None key = true
comes_after (Some past) key = is_lt (due_cmp past key)

-- whether a due is not over the last one, if there is a last one
abbrev pub is_due_by : Option ℤ → ℤ → Bool
is_due_by None due = true
is_due_by (Some last) due = not (int_lt last due)

-- whether a card is one of those that are asked for
abbrev pub waits : Waiting → Card → Bool
waits w c = int_eq c.queue w.queue && (is_due_by w.last c.due && comes_after w.past (key_of c))

-- a card is one of these
abbrev pub IsOneOf : List Card → Card → Type 0
IsOneOf [] c = ⊥
IsOneOf (d ∷ cards) c = (d ≡ c) ⊎ IsOneOf cards c

-- a card is held under its own id
abbrev pub IsHeld : Rows → Card → Type 0
IsHeld held c = card_at held c.id ≡ Some c

-- each card comes after the one before it, and the first after this place
abbrev pub AscendsAfter : Option DueKey → List Card → Type 0
AscendsAfter past [] = ⊤
AscendsAfter past (c ∷ cards) = (comes_after past (key_of c) ≡ true) × AscendsAfter (Some (key_of c)) cards

-- where the last of the cards waits, or the place that they come after if there is none
abbrev pub last_place : Option DueKey → List Card → Option DueKey
last_place past [] = past
last_place past (c ∷ cards) = last_place (Some (key_of c)) cards

-- the first `limit` of the cards that are asked for among those that are held
pub record IsWaitingPage (held : Card → Type 0) (w : Waiting) (limit : ℕ) (page : List Card) : Type 0 where
  pub sound : AllByRecursion (λ c. held c × (waits w c ≡ true)) page
  pub ascends : AscendsAfter w.past page
  pub fits : length page ≤ limit
  -- one of them that is not among the first comes after a full page
  pub whole : (c : Card) → held c → waits w c ≡ true → IsOneOf page c ⊎ ((length page ≡ limit) × (comes_after (last_place w.past page) (key_of c) ≡ true))
