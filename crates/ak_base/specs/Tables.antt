-- The tables of rows, the tables of their graves, and the stored codes of graves.
use Rattle.std.specs.Prelude.{ℤ, pos, Bool, true, false, if◌then◌else◌, List, [], ◌∷◌, Option, Some, None, option_and_then}
use Rattle.std.specs.Option.{option_map}
use Rattle.std.specs.Ordering.{int_eq}
use Rattle.ak_base.specs.declared.names.Table.{Table}
use Rattle.ak_base.specs.declared.names.Table.TheVariants as tables
use Rattle.ak_base.specs.declared.names.Name.{Name}

-- every table, in the order in which a collection lists them
abbrev pub all_tables : List Table
all_tables =
    tables.Note ∷ tables.Card ∷ tables.Review ∷ tables.NoteType ∷ tables.Deck ∷ tables.Options ∷ tables.NoteGrave ∷ tables.CardGrave ∷ tables.DeckGrave ∷ []

-- whether the rows of a table have stamps: all but reviews and graves
abbrev pub has_stamps : Table → Bool
has_stamps tables.Note = true
has_stamps tables.Card = true
has_stamps tables.NoteType = true
has_stamps tables.Deck = true
has_stamps tables.Options = true
has_stamps tables.Review = false
has_stamps tables.NoteGrave = false
has_stamps tables.CardGrave = false
has_stamps tables.DeckGrave = false

-- the table of the graves that rows of a table leave; the rows of the others leave none
abbrev pub graves_of : Table → Option Table
graves_of tables.Note = Some tables.NoteGrave
graves_of tables.Card = Some tables.CardGrave
graves_of tables.Deck = Some tables.DeckGrave
graves_of tables.Review = None
graves_of tables.NoteType = None
graves_of tables.Options = None
graves_of tables.NoteGrave = None
graves_of tables.CardGrave = None
graves_of tables.DeckGrave = None

-- the table of the rows whose graves stand in a table
abbrev pub buried_in : Table → Option Table
buried_in tables.NoteGrave = Some tables.Note
buried_in tables.CardGrave = Some tables.Card
buried_in tables.DeckGrave = Some tables.Deck
buried_in tables.Note = None
buried_in tables.Card = None
buried_in tables.Deck = None
buried_in tables.Review = None
buried_in tables.NoteType = None
buried_in tables.Options = None

-- the stored code of the graves that rows of a table leave: 0 for cards, 1 for notes, 2 for decks
abbrev pub grave_code : Table → Option ℤ
grave_code tables.Note = Some (pos 1)
grave_code tables.Card = Some (pos 0)
grave_code tables.Deck = Some (pos 2)
grave_code tables.Review = None
grave_code tables.NoteType = None
grave_code tables.Options = None
grave_code tables.NoteGrave = None
grave_code tables.CardGrave = None
grave_code tables.DeckGrave = None

-- the table whose rows leave graves with a stored code
abbrev pub of_grave_code : ℤ → Option Table
of_grave_code code =
    if int_eq code (pos 0) then Some tables.Card else if int_eq code (pos 1) then Some tables.Note else if int_eq code (pos 2) then Some tables.Deck else None

-- the stored code of the graves that a table holds
abbrev pub stored_code : Table → Option ℤ
stored_code table = option_and_then grave_code (buried_in table)

-- the name of the grave that a row of a name leaves
abbrev pub grave_name : Name → Option Name
grave_name name = option_map (λ (graves : Table). record { table = graves; id = name.id }) (graves_of name.table)

-- the name of the row whose grave has a name
abbrev pub buried_name : Name → Option Name
buried_name name = option_map (λ (table : Table). record { table = table; id = name.id }) (buried_in name.table)
