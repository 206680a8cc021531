-- One card that is put in, if it is a candidate once the deck was emptied.
use Rattle.std.proofs.Common.{◌≡◌, true, false, Bool, ℤ, ◌&&◌, if◌then◌else◌, List, [], ◌∷◌, filter_map, Option, Some, None, IfSome, refl, sym, ap, ◌∙◌}
use Rattle.std.specs.BTreeSet.{insert_key}
use Rattle.std.specs.List.{cons_option}
use Rattle.ak_base.specs.declared.cards.Card.{Card}
use Rattle.ak_base.specs.declared.days.Day.{Day}
use Rattle.ak_filtered.specs.Candidates.{CardKey, candidate_key, is_candidate, key_cmp, key_of, may_move}
use Rattle.ak_filtered.specs.Emptyings.{emptied}
use Rattle.ak_filtered.specs.Gathering.{PutsCards, PutsHome, SievesBy}
use Rattle.ak_filtered.specs.HomeDecks.{DeckFlags, filtered_at, flags_of}
use Rattle.ak_filtered.specs.declared.candidates.Sieve.{Sieve}
use Rattle.ak_keep.specs.Collections.{Holding, Rows}
use Rattle.ak_keep.specs.Marks.{WithMark}
use Rattle.ak_queue.specs.Orders.{put_among}
use Rattle.ak_search.specs.CardFacts.{seen}
use Rattle.ak_search.specs.Holds.{holds}
use Rattle.ak_search.specs.Meanings.{meets}
use Rattle.ak_search.specs.Searching.{SearchStays}
use Rattle.ak_search.specs.Trees.{Tree}
use Rattle.ak_search.specs.declared.searches.Search.{Search}

-- what a card adds that is a candidate or none
abbrev added : Bool → CardKey → List CardKey → List CardKey
added b key old = if b then insert_key key_cmp old key else old

added_is : (b : Bool) (key : CardKey) (old : List CardKey) → added b key old ≡ put_among key_cmp old (cons_option (if b then Some key else None) [])
added_is true key old = refl
added_is false key old = refl

home_put : (s : Sieve) (held : Rows) (day : Day) (tree : Tree) (card : Card) (old new : List CardKey) (b : Bool) → is_candidate held day tree card ≡ b → new ≡ added b (key_of s.order card) old
    → PutsHome s held day tree card old new
home_put s held day tree card old new b candidate is =
    is ∙ added_is b (key_of s.order card) old ∙ sym (ap (λ (x : Bool). put_among key_cmp old (cons_option (if x then Some (key_of s.order card) else None) [])) candidate)

-- a card that may not move
pub not_moved : (told : Option (WithMark Holding)) (s : Sieve) (search : Search) (keys : List CardKey) (card : Card) → may_move (flags_of s.decks.now) card ≡ false
    → IfSome told (λ w. SievesBy s w.current.rows → SearchStays search search w.current.rows (λ day tree. PutsHome s w.current.rows day tree card keys keys))
not_moved None s search keys card stays = tt
not_moved (Some w) s search keys card stays = λ knows day tree by.
    let may : may_move (filtered_at w.current.rows) card ≡ false = ap (λ (f : DeckFlags). may_move f card) (sym knows) ∙ stays in
    (by, home_put s w.current.rows day tree card keys keys false (ap (λ b. b && meets (holds day (seen w.current.rows card)) tree) may) refl)

-- one that may, by whether it meets the search
pub moved_if : (told : Option (WithMark Holding)) (s : Sieve) (old new : Search) (keys more : List CardKey) (card : Card) (does : Bool) → may_move (flags_of s.decks.now) card ≡ true
    → more ≡ (if does then insert_key key_cmp keys (key_of s.order card) else keys)
    → IfSome told (λ w. SearchStays old new w.current.rows (λ day tree. does ≡ meets (holds day (seen w.current.rows card)) tree))
    → IfSome told (λ w. SievesBy s w.current.rows → SearchStays old new w.current.rows (λ day tree. PutsHome s w.current.rows day tree card keys more))
moved_if None s old new keys more card does may is met = tt
moved_if (Some w) s old new keys more card does may is met = λ knows day tree by.
    let answer = met day tree by in
    let free : may_move (filtered_at w.current.rows) card ≡ true = ap (λ (f : DeckFlags). may_move f card) (sym knows) ∙ may in
    (answer.0, home_put s w.current.rows day tree card keys more does (ap (λ b. b && meets (holds day (seen w.current.rows card)) tree) free ∙ sym answer.1) is)

-- the card as it is once the deck was emptied
pub card_put : (told : Option (WithMark Holding)) (s : Sieve) (old new : Search) (keys more : List CardKey) (card home : Card) → home ≡ emptied s.deck (flags_of s.decks.now) card
    → IfSome told (λ w. SievesBy s w.current.rows → SearchStays old new w.current.rows (λ day tree. PutsHome s w.current.rows day tree home keys more))
    → IfSome told (λ w. SievesBy s w.current.rows → SearchStays old new w.current.rows (λ day tree. PutsCards s w.current.rows day tree (card ∷ []) keys more))
card_put None s old new keys more card home is step = tt
card_put (Some w) s old new keys more card home is step = λ knows day tree by.
    let put = step knows day tree by in
    let same : home ≡ emptied s.deck (filtered_at w.current.rows) card = is ∙ ap (λ (f : DeckFlags). emptied s.deck f card) knows in
    (put.0, put.1 ∙ ap (λ (k : Card). put_among key_cmp keys (cons_option (candidate_key w.current.rows day tree s.order k) [])) same)
