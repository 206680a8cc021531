-- What a search that is asked card by card keeps true.
use Rattle.std.specs.Prelude.{◌≡◌, IfSome}
use Rattle.ak_base.specs.declared.cards.Card.{Card}
use Rattle.ak_base.specs.declared.days.Day.{Day}
use Rattle.ak_keep.specs.Collections.{Rows}
use Rattle.ak_search.specs.ByNote.{ask_notes_alone}
use Rattle.ak_search.specs.Grammar.{pieces_in}
use Rattle.ak_search.specs.Passes.{AreLatest, Serves, asked, tested}
use Rattle.ak_search.specs.Trees.{Tree, pieces_of}
use Rattle.ak_search.specs.declared.searches.Search.{Search}

-- it asks what the tree asks on that day, for notes alone if it says so; its answers serve this collection, and what it looked up last
-- and found of a note is of it
pub record SearchesBy (search : Search) (held : Rows) (day : Day) (tree : Tree) : Type 0 where
  pub pieces : pieces_in search.tokens.now ≡ pieces_of tree
  pub on : search.context.day ≡ day
  pub serves : Serves search.context (pieces_in search.tokens.now) held
  pub latest : AreLatest search.latest held
  pub by_note : search.by_note ≡ ask_notes_alone (pieces_in search.tokens.now)
  pub verdict : IfSome search.verdict (λ verdict. (c : Card) → c.nid ≡ verdict.note → asked (pieces_in search.tokens.now) (tested search.context held c) ≡ verdict.does)

-- by whatever it searched, it still does
abbrev pub StillSearches : Search → Search → Rows → Type 0
StillSearches old new held = (day : Day) (tree : Tree) → SearchesBy old held day tree → SearchesBy new held day tree

-- the same, and this is true
abbrev pub SearchStays : Search → Search → Rows → (Day → Tree → Type 0) → Type 0
SearchStays old new held P = (day : Day) (tree : Tree) → SearchesBy old held day tree → SearchesBy new held day tree × P day tree
