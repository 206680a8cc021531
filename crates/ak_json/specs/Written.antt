-- What is written for a row.
use Rattle.std.specs.Prelude.{ℤ, pos, Bool, if◌then◌else◌, List, [], ◌∷◌, map}
use Rattle.ak_json.specs.Decimals.{decimal_text}
use Rattle.serde_json.specs.Data.{Data, boolean, number, unsigned, string, array, item, no_items}
use Rattle.serde_json.specs.Find.{of_integer}
use Rattle.serde_json.specs.View.{view, items_of}
use Rattle.ak_json.specs.declared.written.Cell.{Cell}
use Rattle.ak_json.specs.declared.written.Cell.TheVariants as cells
use Rattle.ak_base.specs.declared.decks.Count.{Count}
use Rattle.ak_base.specs.declared.notes.Note.{Note}
use Rattle.ak_base.specs.declared.cards.Card.{Card}
use Rattle.ak_base.specs.declared.reviews.Review.{Review}
use Rattle.ak_base.specs.declared.graves.Grave.{Grave}

-- a whole number
abbrev pub integer : ℤ → Data
integer z = number (of_integer z)

-- thousandths as a decimal text
abbrev pub factor : ℤ → Data
factor permille = string (decimal_text permille)

-- 1 for true, 0 for false
abbrev pub bit : Bool → Data
bit b = integer (if b then pos 1 else pos 0)

-- the day and the number
abbrev pub pair : Count → Data
pair c = array (item (integer c.day) (item (integer c.count) no_items))

-- the array of these numbers
abbrev pub steps_json : List ℤ → Data
steps_json steps = array (items_of (map integer steps))

-- what is written into a column
abbrev pub cell_data : Cell → Data
cell_data (cells.Integer z) = integer z
cell_data (cells.Decimal permille) = factor permille
cell_data (cells.Text t) = string t.now
cell_data (cells.Bool b) = boolean b
cell_data (cells.Bit b) = bit b
cell_data (cells.Pair c) = pair c
cell_data (cells.Place n) = number (unsigned n)
cell_data (cells.Steps steps) = steps_json steps.now
cell_data (cells.Made value) = view value.now

-- what is written into each column
abbrev pub cells_data : List Cell → List Data
cells_data = map cell_data

-- what is written into the columns of a note
unfoldable pub note_cells : Note → List Data
note_cells n =
    integer n.id ∷
    string n.guid ∷
    integer n.mid ∷
    integer n.stamp ∷
    integer n.usn ∷
    string n.tags ∷
    string n.flds ∷
    string n.sfld ∷
    integer n.csum ∷
    integer n.flags ∷
    string n.extra ∷
    []

-- the array of a note
abbrev pub note_json : Note → Data
note_json n = array (items_of (note_cells n))

-- what is written into the columns of a card
unfoldable pub card_cells : Card → List Data
card_cells c =
    integer c.id ∷
    integer c.nid ∷
    integer c.did ∷
    integer c.ord ∷
    integer c.stamp ∷
    integer c.usn ∷
    integer c.kind ∷
    integer c.queue ∷
    integer c.due ∷
    integer c.ivl ∷
    integer c.factor ∷
    integer c.reps ∷
    integer c.lapses ∷
    integer c.left ∷
    integer c.odue ∷
    integer c.odid ∷
    integer c.flags ∷
    string c.extra ∷
    []

-- the array of a card
abbrev pub card_json : Card → Data
card_json c = array (items_of (card_cells c))

-- what is written into the columns of a review
unfoldable pub review_cells : Review → List Data
review_cells r =
    integer r.id ∷
    integer r.cid ∷
    integer r.usn ∷
    integer r.ease ∷
    integer r.ivl ∷
    integer r.last_ivl ∷
    integer r.factor ∷
    integer r.time ∷
    integer r.kind ∷
    []

-- the array of a review
abbrev pub review_json : Review → Data
review_json r = array (items_of (review_cells r))

-- what is written into the columns of a grave
unfoldable pub grave_cells : Grave → List Data
grave_cells g =
    integer g.usn ∷
    integer g.oid ∷
    integer g.kind ∷
    []

-- the array of a grave
abbrev pub grave_json : Grave → Data
grave_json g = array (items_of (grave_cells g))
