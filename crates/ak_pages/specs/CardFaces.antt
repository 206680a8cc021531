-- What a card is shown with: the fields of its note, what is told of the card, and its template.
use Rattle.std.specs.Prelude.{ℕ, ◌-◌, ℤ, pos, ◌+ℤ◌, length, slice_get, List, [], ◌∷◌, ◌++◌, Option, Some, None, Result, Ok, Err, codes}
use Rattle.std.specs.Option.{option_map_or, unwrap_or}
use Rattle.std.specs.List.{join_by}
use Rattle.ak_base.specs.NoteTexts.{fields_in, tags_in}
use Rattle.ak_base.specs.Paths.{parts_of}
use Rattle.ak_base.specs.declared.cards.Card.{Card}
use Rattle.ak_base.specs.declared.decks.Deck.{Deck}
use Rattle.ak_base.specs.declared.names.Name.{Name}
use Rattle.ak_base.specs.declared.names.Table.TheVariants as tables
use Rattle.ak_base.specs.declared.note_types.CardTemplate.{CardTemplate}
use Rattle.ak_base.specs.declared.note_types.NoteType.{NoteType}
use Rattle.ak_base.specs.declared.notes.Note.{Note}
use Rattle.ak_cardgen.specs.Generation.{pairs}
use Rattle.ak_keep.specs.Collections.{Rows}
use Rattle.ak_keep.specs.Lookups.{card_at, deck_of_card, note_at, note_type_at}
use Rattle.ak_merge.specs.Holdings.{name_in}
use Rattle.ak_pages.specs.declared.shown_cards.ShownCard.{ShownCard}
use Rattle.ak_search.specs.CardFacts.{template_of}
use Rattle.ak_template.specs.declared.faces.Face.{Face}
use Rattle.ak_template.specs.declared.faces.Pair.{Pair}

-- ---- the names that a template may show
-- a name and its value
abbrev pub named : List ℕ → List ℕ → Pair
named name value = record { name = name; value = value }

-- the name of a deck, and nothing if there is none
abbrev pub deck_name : Option Deck → List ℕ
deck_name deck = option_map_or (λ (held : Deck). held.name) deck []

-- the last of some parts
abbrev pub last_part : List (List ℕ) → List ℕ
last_part parts = unwrap_or (slice_get parts (length parts - 1)) []

-- what is told beside the fields, by the tags, the name of the note type, the path of the deck and the name of the template
abbrev pub told_of : List ℕ → List ℕ → List ℕ → List ℕ → List Pair
told_of tags note_type deck template =
    named (codes "Tags") tags
    ∷ named (codes "Type") note_type
    ∷ named (codes "Deck") deck
    ∷ named (codes "Subdeck") (last_part (parts_of deck))
    ∷ named (codes "Card") template
    ∷ []

-- the same of these rows: the tags with one space between, and no deck's path where there is no deck
abbrev pub told_pairs : Note → NoteType → Option Deck → CardTemplate → List Pair
told_pairs note note_type deck template =
    told_of (join_by (λ (tag : List ℕ). tag) (codes " ") (tags_in note.tags)) note_type.name (deck_name deck) template.name

-- a front of the card, with the fields of its note first: one that the note lacks is empty, one too many is not shown
abbrev pub card_face : Card → Note → NoteType → Option Deck → CardTemplate → Face
card_face card note note_type deck template =
    record { fields = pairs note_type.fields (fields_in note.flds) ++ told_pairs note note_type deck template; front = None; number = card.ord +ℤ pos 1 }

-- ---- the rows that a card is shown of: the first that is not held is named
-- the card is shown with its template, which the type may lack
abbrev pub shown_by : Rows → Card → Note → NoteType → Option CardTemplate → Result ShownCard Name
shown_by held card note note_type None = Err (name_in tables.NoteType note_type.id)
shown_by held card note note_type (Some template) =
    Ok (record { face = card_face card note note_type (deck_of_card held card) template; template = template })

-- the same of the type of its note, which may not be held
abbrev pub shown_of_type : Rows → Card → Note → Option NoteType → Result ShownCard Name
shown_of_type held card note None = Err (name_in tables.NoteType note.mid)
shown_of_type held card note (Some note_type) = shown_by held card note note_type (template_of note_type card)

-- the same of its note
abbrev pub shown_of_note : Rows → Card → Option Note → Result ShownCard Name
shown_of_note held card None = Err (name_in tables.Note card.nid)
shown_of_note held card (Some note) = shown_of_type held card note (note_type_at held note.mid)

-- the same of the card of this id
abbrev pub shown_of_card : Rows → ℤ → Option Card → Result ShownCard Name
shown_of_card held id None = Err (name_in tables.Card id)
shown_of_card held id (Some card) = shown_of_note held card (note_at held card.nid)

-- what the card of this id is shown with, or the name of the first row that it needs and that is not held: the card, its note,
-- the note's type, or again that type, if it lacks the card's template
abbrev pub shown_card : Rows → ℤ → Result ShownCard Name
shown_card held id = shown_of_card held id (card_at held id)
