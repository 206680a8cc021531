-- What one pass over the cards gathers for a filtered deck.
use Rattle.std.specs.Prelude.{◌≡◌, List, [], ◌∷◌, map}
use Rattle.std.specs.List.{filter_map}
use Rattle.ak_base.specs.declared.cards.Card.{Card}
use Rattle.ak_base.specs.declared.days.Day.{Day}
use Rattle.ak_base.specs.declared.rows.Row.{Row}
use Rattle.ak_filtered.specs.Candidates.{CardKey, candidate_key, key_cmp}
use Rattle.ak_filtered.specs.Emptyings.{emptied}
use Rattle.ak_filtered.specs.HomeDecks.{filtered_at, flags_of}
use Rattle.ak_filtered.specs.declared.candidates.Sieve.{Sieve}
use Rattle.ak_keep.specs.Collections.{Rows}
use Rattle.ak_keep.specs.Lookups.{as_card}
use Rattle.ak_queue.specs.Orders.{put_among}
use Rattle.ak_search.specs.Trees.{Tree}

-- the sieve knows the decks that are held
abbrev pub SievesBy : Sieve → Rows → Type 0
SievesBy sieve held = flags_of sieve.decks.now ≡ filtered_at held

-- where those of these cards stand that are candidates once the deck was emptied
abbrev pub keys_of : Sieve → Rows → Day → Tree → List Card → List CardKey
keys_of sieve held day tree cards =
    filter_map (candidate_key held day tree sieve.order) (map (emptied sieve.deck (filtered_at held)) cards)

-- each of them was put in at its place
abbrev pub PutsCards : Sieve → Rows → Day → Tree → List Card → List CardKey → List CardKey → Type 0
PutsCards sieve held day tree cards old new = new ≡ put_among key_cmp old (keys_of sieve held day tree cards)

-- a card as it is once the deck was emptied was put in at its place, if it is a candidate
abbrev pub PutsHome : Sieve → Rows → Day → Tree → Card → List CardKey → List CardKey → Type 0
PutsHome sieve held day tree home old new = new ≡ put_among key_cmp old (filter_map (candidate_key held day tree sieve.order) (home ∷ []))

-- each of the cards among these rows
abbrev pub PutsRows : Sieve → Rows → Day → Tree → List Row → List CardKey → List CardKey → Type 0
PutsRows sieve held day tree among old new = PutsCards sieve held day tree (filter_map as_card among) old new
