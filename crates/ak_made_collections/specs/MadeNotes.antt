-- The notes that are made of a seed, each by its number, which counts from 0.
use Rattle.std.specs.Prelude.{ℕ, ℤ, pos, ◌+◌, ◌%◌, ◌==◌, if◌then◌else◌, List, [], ◌∷◌, ◌++◌, codes, decimal}
use Rattle.ak_base.specs.declared.notes.Note.{Note}
use Rattle.ak_cardgen.specs.Checksums.{checksum}
use Rattle.ak_made_collections.specs.RowIds.{made_id, made_stamp}
use Rattle.ak_made_collections.specs.RowNumbers.{words_before_note}
use Rattle.ak_made_collections.specs.SeedWords.{nth_word}
use Rattle.ak_notes.specs.NoteRows.{made_guid}

-- its first field
abbrev pub front_of : ℕ → List ℕ
front_of number = codes "front " ++ decimal number

-- its second field
abbrev pub back_of : ℕ → ℕ → List ℕ
back_of seed number = codes "back " ++ decimal (nth_word seed (words_before_note number) % 1_000)

-- the type of the notes with one card is 1, and that of the others is 3
abbrev pub type_of : ℕ → ℤ
type_of number = if number % 3 == 0 then pos 1 else pos 3

-- a note, as the server has it
abbrev pub made_note : ℕ → ℕ → Note
made_note seed number = record {
  id = made_id number;
  guid = made_guid (made_id number) (nth_word seed (words_before_note number + 1));
  mid = type_of number;
  stamp = made_stamp;
  usn = pos 0;
  tags = [];
  flds = front_of number ++ 31 ∷ back_of seed number;
  sfld = front_of number;
  csum = checksum (front_of number);
  flags = pos 0;
  extra = [];
}
