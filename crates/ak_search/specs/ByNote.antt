-- Searches that ask for notes alone: all cards of a note meet one, or none does.
use Rattle.std.specs.Prelude.{ℤ, Bool, true, false, not, if◌then◌else◌, List, Option, Some, None}
use Rattle.std.specs.Ordering.{int_eq}
use Rattle.ak_search.specs.Passes.{some_term}
use Rattle.ak_search.specs.declared.searches.Verdict.{Verdict}
use Rattle.ak_search.specs.declared.terms.Term.{Term}
use Rattle.ak_search.specs.declared.terms.Term.TheVariants as terms
use Rattle.ak_search.specs.declared.tokens.Piece.{Piece}

-- whether a term asks of a card for its note, the type of that and its id, and for nothing else
abbrev pub asks_note_alone : Term → Bool
asks_note_alone (terms.Contains pattern) = true
asks_note_alone (terms.Word pattern) = true
asks_note_alone (terms.Field name pattern) = true
asks_note_alone (terms.Tag pattern) = true
asks_note_alone terms.Untagged = true
asks_note_alone (terms.NoteType pattern) = true
asks_note_alone (terms.Edited days) = true
asks_note_alone (terms.NoteIds ids) = true
asks_note_alone term = false

-- whether each term of pieces asks for no more
abbrev pub ask_notes_alone : List Piece → Bool
ask_notes_alone ps = not (some_term (λ (term : Term). not (asks_note_alone term)) ps)

-- what was found of a card of the note
abbrev pub verdict_of : ℤ → Bool → Verdict
verdict_of note does = record { note = note; does = does }

-- what is known of the cards of a note by what was found last
abbrev pub known_of : Option Verdict → ℤ → Option Bool
known_of None note = None
known_of (Some verdict) note = if int_eq verdict.note note then Some verdict.does else None
