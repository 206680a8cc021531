-- What a row is called, and what its check answers.
use Rattle.std.specs.Prelude.{◌≡◌, ℤ, pos, Option, Some, None, Result, Ok}
use Rattle.ak_base.specs.Columns.{first_fault}
use Rattle.ak_base.specs.Cards.{card_faults}
use Rattle.ak_base.specs.Decks.{deck_faults}
use Rattle.ak_base.specs.Graves.{grave_faults, grave_table, buried_by}
use Rattle.ak_base.specs.NoteTypes.{note_type_faults}
use Rattle.ak_base.specs.Notes.{note_faults}
use Rattle.ak_base.specs.OptionGroups.{options_faults}
use Rattle.ak_base.specs.Reviews.{review_faults}
use Rattle.ak_base.specs.declared.errors.RowFault.{RowFault}
use Rattle.ak_base.specs.declared.names.Name.{Name}
use Rattle.ak_base.specs.declared.names.Table.TheVariants as tables
use Rattle.ak_base.specs.declared.rows.Row.{Row}
use Rattle.ak_base.specs.declared.rows.Row.TheVariants as rows

-- its table and its id; a grave stands under the id of the row that was deleted
abbrev pub name_of : Row → Name
name_of (rows.Note n) = record { table = tables.Note; id = n.id }
name_of (rows.Card c) = record { table = tables.Card; id = c.id }
name_of (rows.Review r) = record { table = tables.Review; id = r.id }
name_of (rows.NoteType t) = record { table = tables.NoteType; id = t.id }
name_of (rows.Deck d) = record { table = tables.Deck; id = d.id }
name_of (rows.Options o) = record { table = tables.Options; id = o.id }
name_of (rows.Grave g) = record { table = grave_table g.kind; id = g.oid }

-- when it was changed last, in seconds; a review and a grave never change
abbrev pub stamp_of : Row → ℤ
stamp_of (rows.Note n) = n.stamp
stamp_of (rows.Card c) = c.stamp
stamp_of (rows.Review r) = pos 0
stamp_of (rows.NoteType t) = t.stamp
stamp_of (rows.Deck d) = d.stamp
stamp_of (rows.Options o) = o.stamp
stamp_of (rows.Grave g) = pos 0

-- its usn
abbrev pub usn_of : Row → ℤ
usn_of (rows.Note n) = n.usn
usn_of (rows.Card c) = c.usn
usn_of (rows.Review r) = r.usn
usn_of (rows.NoteType t) = t.usn
usn_of (rows.Deck d) = d.usn
usn_of (rows.Options o) = o.usn
usn_of (rows.Grave g) = g.usn

-- the row with another usn
abbrev pub with_usn : Row → ℤ → Row
with_usn (rows.Note n) usn = rows.Note (record n { usn = usn })
with_usn (rows.Card c) usn = rows.Card (record c { usn = usn })
with_usn (rows.Review r) usn = rows.Review (record r { usn = usn })
with_usn (rows.NoteType t) usn = rows.NoteType (record t { usn = usn })
with_usn (rows.Deck d) usn = rows.Deck (record d { usn = usn })
with_usn (rows.Options o) usn = rows.Options (record o { usn = usn })
with_usn (rows.Grave g) usn = rows.Grave (record g { usn = usn })

-- the row with another stamp; a review and a grave have none
abbrev pub with_stamp : Row → ℤ → Row
with_stamp (rows.Note n) stamp = rows.Note (record n { stamp = stamp })
with_stamp (rows.Card c) stamp = rows.Card (record c { stamp = stamp })
with_stamp (rows.Review r) stamp = rows.Review r
with_stamp (rows.NoteType t) stamp = rows.NoteType (record t { stamp = stamp })
with_stamp (rows.Deck d) stamp = rows.Deck (record d { stamp = stamp })
with_stamp (rows.Options o) stamp = rows.Options (record o { stamp = stamp })
with_stamp (rows.Grave g) stamp = rows.Grave g

-- the row with another stamp and another usn
abbrev pub with_stamp_and_usn : Row → ℤ → ℤ → Row
with_stamp_and_usn row stamp usn = with_usn (with_stamp row stamp) usn

-- the name of the row that was deleted, if this is a grave
abbrev pub buried_of : Row → Option Name
buried_of (rows.Grave g) = Some (buried_by g)
buried_of (rows.Note n) = None
buried_of (rows.Card c) = None
buried_of (rows.Review r) = None
buried_of (rows.NoteType t) = None
buried_of (rows.Deck d) = None
buried_of (rows.Options o) = None

-- Ok where every column is in its range, else the first fault
abbrev pub check_of : Row → Result (Unit {0}) RowFault
check_of (rows.Note n) = first_fault (note_faults n)
check_of (rows.Card c) = first_fault (card_faults c)
check_of (rows.Review r) = first_fault (review_faults r)
check_of (rows.NoteType t) = first_fault (note_type_faults t)
check_of (rows.Deck d) = first_fault (deck_faults d)
check_of (rows.Options o) = first_fault (options_faults o)
check_of (rows.Grave g) = first_fault (grave_faults g)

-- a row passes its check: every column is in its range
abbrev pub IsChecked : Row → Type 0
IsChecked row = check_of row ≡ Ok tt
