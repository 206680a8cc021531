-- The decks that a call makes.
use Rattle.std.specs.Prelude.{◌≡◌, ℕ, ℤ, pos, negsuc, false, List, length, codes}
use Rattle.std.specs.FinMap.{get}
use Rattle.ak_base.specs.declared.decks.Count.{Count}
use Rattle.ak_base.specs.declared.decks.Deck.{Deck}
use Rattle.ak_base.specs.declared.names.Table.TheVariants as tables
use Rattle.ak_edit.specs.Refusals.{Refusal}
use Rattle.ak_edit_calls.specs.NewNames.{AreMadeOf, RefusesIdsFrom, first_name}
use Rattle.ak_keep.specs.Collections.{Holding, Rows}
use Rattle.ak_keep.specs.FreeNames.{is_used}

-- no card of a deck was taken yet
abbrev pub none_taken : Count
none_taken = record { day = pos 0; count = pos 0 }

-- a new deck of this path with this free id, which gets its stamp at the end of its edit
pub record IsNewDeck (path : List ℕ) (free : ℤ) (deck : Deck) : Type 0 where
  pub id : deck.id ≡ free
  pub stamp : deck.stamp ≡ pos 0
  pub usn : deck.usn ≡ negsuc 0
  pub name : deck.name ≡ path
  -- the options with id 1
  pub options : deck.options ≡ pos 1
  pub filtered : deck.filtered ≡ false
  pub new_today : deck.new_today ≡ none_taken
  pub rev_today : deck.rev_today ≡ none_taken
  pub rest : deck.rest.text ≡ codes "{}"

-- a new deck for each of these paths, in their order, made at this moment
abbrev pub AreNewDecks : ℤ → List (List ℕ) → Rows → List Deck → Type 0
AreNewDecks at paths held decks = AreMadeOf (is_used (get held)) IsNewDeck (first_name tables.Deck at) paths decks

-- the same in what is held
abbrev pub AreNewIn : ℤ → List (List ℕ) → List Deck → Holding → Type 0
AreNewIn at paths decks h = AreNewDecks at paths h.rows decks

-- there are too few free ids for decks of these paths
abbrev pub RefusesIds : ℤ → List (List ℕ) → Rows → Refusal
RefusesIds at paths held = RefusesIdsFrom (first_name tables.Deck at) (length paths) (get held)
