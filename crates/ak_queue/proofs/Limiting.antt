-- The limits of a deck, and then of others.
use Rattle.std.proofs.Common.{◌≡◌, true, false, cond, List, [], ◌∷◌, ◌++◌, map, filter, refl}
use Rattle.ak_base.specs.Paths.{parts_of}
use Rattle.ak_base.specs.declared.days.Day.{Day}
use Rattle.ak_base.specs.declared.decks.Deck.{Deck}
use Rattle.ak_keep.specs.Collections.{Rows}
use Rattle.ak_queue.specs.Homes.{Parts}
use Rattle.ak_queue.specs.Limits.{all_limits, is_related, limits_of}

-- the limits of the first deck, and then those of the others
pub limits-first : (held : Rows) (day : Day) (root : Parts) (d : Deck) (ds : List Deck) → all_limits held day root (d ∷ ds) ≡ all_limits held day root (d ∷ []) ++ all_limits held day root ds
limits-first held day root d ds =
    elim (is_related root (parts_of d.name)) as (λ b. map (limits_of held day) (cond b (d ∷ others) others) ≡ map (limits_of held day) (cond b (d ∷ []) []) ++ map (limits_of held day) others) [ true ↦ refl | false ↦ refl ]
  where
    others : List Deck
    others = filter (λ (x : Deck). is_related root (parts_of x.name)) ds
