-- The collection that is made of a seed.
use Rattle.std.specs.Prelude.{◌≡◌, ℕ, ℤ, pos, false, ◌++◌}
use Rattle.ak_keep.specs.Collections.{Collection, rows_of}
use Rattle.ak_made_collections.specs.MadeLists.{made_rows}
use Rattle.ak_openings.specs.Openings.{IsOpening}
use Rattle.ak_openings.specs.declared.whole_collections.Opening.{Opening}

-- the moment at which the server was opened, in milliseconds
abbrev pub opening_moment : ℤ
opening_moment = pos 1_700_000_000_000

-- a collection of so many notes: that with which a server opens at the moment, with the notes, all of their cards, and four reviews of each
pub record IsMade (seed size : ℕ) (made : Opening) : Type 0 where
  pub opened : Opening
  pub is_opened : IsOpening opening_moment false opened
  pub head : made.head ≡ opened.head
  pub rows_are : made.rows ≡ made_rows seed size ++ opened.rows

-- a whole collection, its rows by name
abbrev pub made_content : Opening → Collection
made_content made = record { rows = rows_of made.rows; head = made.head }
