-- Decks as objects.
use Rattle.std.specs.Prelude.{◌≡◌, pos, List, [], ◌∷◌}
use Rattle.std.specs.Ordering.{int_eq}
use Rattle.serde_json.specs.Data.{Data, string}
use Rattle.ak_json.specs.Cells.{integer_at, text_at, count_at}
use Rattle.ak_json.specs.Rests.{rest_text, object_json}
use Rattle.ak_json.specs.Written.{integer, bit, pair}
use Rattle.ak_json.specs.Forms.{deck_form}
use Rattle.ak_base.specs.declared.decks.Deck.{Deck}

-- the deck is that of an object of its form
pub record IsDeck (d : Data) (k : Deck) : Type 0 where
  pub id : k.id ≡ integer_at deck_form 0 d
  pub stamp : k.stamp ≡ integer_at deck_form 1 d
  pub usn : k.usn ≡ integer_at deck_form 2 d
  pub name : k.name ≡ text_at deck_form 3 d
  pub options : k.options ≡ integer_at deck_form 4 d
  pub filtered : k.filtered ≡ int_eq (integer_at deck_form 5 d) (pos 1)
  pub new_today : k.new_today ≡ count_at deck_form 6 d
  pub rev_today : k.rev_today ≡ count_at deck_form 7 d
  pub rest : k.rest.text ≡ rest_text deck_form d

-- what is written into the columns of a deck
abbrev pub deck_cells : Deck → List Data
deck_cells k =
    integer k.id ∷ integer k.stamp ∷ integer k.usn ∷ string k.name ∷ integer k.options ∷ bit k.filtered ∷ pair k.new_today ∷ pair k.rev_today ∷ []

-- the object of a deck
abbrev pub deck_json : Deck → Data
deck_json k = object_json deck_form (deck_cells k) k.rest.text
