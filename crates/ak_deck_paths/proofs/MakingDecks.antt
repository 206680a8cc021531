-- New decks made one by one.
use Rattle.std.specs.Prelude.{◌≡◌, ℕ, ℤ, pos, ◌≤ℤ◌, List, [], ◌∷◌, ◌++◌}
use Rattle.std.proofs.Common.{arith, refl, sym, subst, ◌∙◌}
use Rattle.std.proofs.lemmas.Int.{ints}
use Rattle.std.specs.FinMap.{get}
use Rattle.ak_base.proofs.Resting.{same_proof}
use Rattle.ak_base.specs.Rests.{lacks, deck_keys}
use Rattle.ak_base.specs.declared.decks.Deck.{Deck}
use Rattle.ak_base.specs.declared.names.Name.{Name}
use Rattle.ak_base.specs.declared.names.Table.TheVariants as tables
use Rattle.ak_edit_calls.proofs.FreeIds.{made_once}
use Rattle.ak_edit_calls.specs.NewNames.{first_name}
use Rattle.ak_keep.specs.Collections.{IsId, Rows}
use Rattle.ak_keep.specs.FreeNames.{IsFoundFrom, is_used}
use Rattle.ak_deck_paths.specs.Additions.{id_of_last}
use Rattle.ak_deck_paths.specs.NewDecks.{AreNewDecks, IsNewDeck}

-- ---- one deck
-- a new deck is told by its path and its id
pub one_deck : (path : List ℕ) (id : ℤ) (a b : Deck) → IsNewDeck path id a → IsNewDeck path id b → a ≡ b
one_deck path id a b one other =
    let ids : a.id ≡ b.id = one.id ∙ sym other.id in
    let stamps : a.stamp ≡ b.stamp = one.stamp ∙ sym other.stamp in
    let usns : a.usn ≡ b.usn = one.usn ∙ sym other.usn in
    let names : a.name ≡ b.name = one.name ∙ sym other.name in
    let options : a.options ≡ b.options = one.options ∙ sym other.options in
    let filtered : a.filtered ≡ b.filtered = one.filtered ∙ sym other.filtered in
    let new_today : a.new_today ≡ b.new_today = one.new_today ∙ sym other.new_today in
    let rev_today : a.rev_today ≡ b.rev_today = one.rev_today ∙ sym other.rev_today in
    let rest : a.rest.text ≡ b.rest.text = one.rest ∙ sym other.rest in
    λ i. record {
      id = ids i;
      stamp = stamps i;
      usn = usns i;
      name = names i;
      options = options i;
      filtered = filtered i;
      new_today = new_today i;
      rev_today = rev_today i;
      rest = record { text = rest i; owner = record {}; unknown = same_proof (lacks deck_keys) rest a.rest.unknown b.rest.unknown i };
    }

-- ---- the last one
last-added : (id : ℤ) (decks : List Deck) (deck : Deck) → id_of_last id (decks ++ deck ∷ []) ≡ deck.id
last-added id [] deck = refl
last-added id (first ∷ decks) deck = last-added first.id decks deck

-- a deck that was just made has an id in its range
pub last_in_range : (first name : Name) (path : List ℕ) (decks : List Deck) (deck : Deck) → pos 1 ≤ℤ first.id → IsFoundFrom first name → IsNewDeck path name.id deck
    → IsId (id_of_last (pos 0) (decks ++ deck ∷ []))
last_in_range first name path decks deck low found is =
    subst IsId (sym (last-added (pos 0) decks deck ∙ is.id)) (record { low = grind (arith, ints, low, found.1.low); high = found.1.high })

-- ---- all of them
-- the decks that are made at one moment are told
pub decks_once : (at : ℤ) (paths : List (List ℕ)) (held : Rows) (made other : List Deck) → AreNewDecks at paths held made → AreNewDecks at paths held other → made ≡ other
decks_once at paths held made other = made_once (is_used (get held)) IsNewDeck (first_name tables.Deck at) paths made other one_deck
