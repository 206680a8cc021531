-- The text that a note is sorted by.
use Rattle.std.specs.Prelude.{ℕ, ℤ, pos, negsuc, List, []}
use Rattle.std.specs.List.{slice_index_or}
use Rattle.ak_base.specs.declared.note_types.NoteType.{NoteType}
use Rattle.ak_filters.specs.Strips.{stripped}

-- the field at a place, counted from 0; an empty text, if there is none
abbrev pub field_at : ℤ → List (List ℕ) → List ℕ
field_at (pos place) fields = slice_index_or fields place []
field_at (negsuc before) fields = []

-- the stripped text of the field at `sortf`
abbrev pub sort_text_of : NoteType → List (List ℕ) → List ℕ
sort_text_of note_type fields = stripped (field_at note_type.sortf fields)
