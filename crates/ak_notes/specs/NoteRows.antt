-- What a note has of the texts that it is given.
use Rattle.std.specs.Prelude.{ℕ, ℤ, pos, negsuc, ◌+◌, ◌/◌, ◌%◌, nat_lt, if◌then◌else◌, List, [], ◌∷◌, ◌++◌}
use Rattle.std.specs.Fmt.{signed_decimal}
use Rattle.std.specs.List.{join_with_byte}
use Rattle.ak_base.specs.declared.note_types.NoteType.{NoteType}
use Rattle.ak_base.specs.declared.notes.Note.{Note}
use Rattle.ak_cardgen.specs.Checksums.{checksum}
use Rattle.ak_cardgen.specs.SortTexts.{field_at, sort_text_of}
use Rattle.ak_edit_calls.specs.NoteTags.{stored_tags}

-- ---- fields
-- the texts, each after this byte
abbrev pub led_by : ℕ → List (List ℕ) → List ℕ
led_by byte [] = []
led_by byte (text ∷ texts) = byte ∷ text ++ led_by byte texts

-- ---- the row
-- the note with these fields, as one of this type: its tags stay
abbrev pub with_fields : NoteType → List (List ℕ) → Note → Note
with_fields note_type fields note = record note {
  flds = join_with_byte 31 fields;
  sfld = sort_text_of note_type fields;
  csum = checksum (field_at (pos 0) fields);
}

-- the note with these fields and tags, as one of this type
abbrev pub with_texts : NoteType → List (List ℕ) → List (List ℕ) → Note → Note
with_texts note_type fields tags note = record (with_fields note_type fields note) { tags = stored_tags tags }

-- ---- a new one
-- a hexadecimal digit, in lower case
abbrev pub hex_digit : ℕ → ℕ
hex_digit digit = if nat_lt digit 10 then 48 + digit else 87 + digit

-- the last four hexadecimal digits of a number
abbrev pub last_four_digits : ℕ → List ℕ
last_four_digits word =
    hex_digit (word / 4096 % 16) ∷ hex_digit (word / 256 % 16) ∷ hex_digit (word / 16 % 16) ∷ hex_digit (word % 16) ∷ []

-- what a note is called that is given no name: its id, `-`, and the last four hexadecimal digits of a word of chance
abbrev pub made_guid : ℤ → ℕ → List ℕ
made_guid id chance = signed_decimal id ++ 45 ∷ last_four_digits chance

-- a note of this id and this type without texts, which gets its stamp at the end of its edit
abbrev pub blank_note : ℤ → ℤ → List ℕ → Note
blank_note id note_type guid = record {
  id = id;
  guid = guid;
  mid = note_type;
  stamp = pos 0;
  usn = negsuc 0;
  tags = [];
  flds = [];
  sfld = [];
  csum = pos 0;
  flags = pos 0;
  extra = [];
}
