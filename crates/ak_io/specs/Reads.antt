-- Why a line was not read, and what the steps of reading one do.
use Rattle.std.specs.Prelude.{◌≡◌, ℕ, ◌+◌, ◌<◌, true, false, if◌then◌else◌, List, [], ◌++◌, length, Result, Option, Some, None, ⊤}
use Rattle.std.specs.Option.{option_map}
use Rattle.ak_faults.specs.Causes.{Health, HasCauseOf}
use Rattle.ak_io.specs.Lines.{lines_within, has_feed, behind, first_size}
use Rattle.ak_io.specs.declared.lines.Line.{Line}
use Rattle.ak_io.specs.declared.lines.Line.TheVariants.{Whole, TooLong, PastInput}
use Rattle.ak_io.specs.declared.readers.Part.{Part}
use Rattle.ak_io.specs.declared.readers.Piece.{Piece}
use Rattle.ak_io.specs.declared.readers.Piece.TheVariants as pieces
use Rattle.ak_io.specs.declared.readers.ReadFault.{ReadFault}
use Rattle.ak_io.specs.declared.readers.ReadFault.TheVariants.{Failed}

-- the count never falls, and it rose where the source refused
abbrev pub ReadCause : {T : Type 0} → Health → Health → Result T ReadFault → Type 0
ReadCause before now result = HasCauseOf Failed before now result

-- what is kept of a line, as it is taken
abbrev pub line_of : Part → Line
line_of part = if part.is_long then TooLong else Whole part.bytes.items

-- a step took what is ahead of the first line, with its line feed or all, and this is the room that is left; or the
-- first line does not fit the room
abbrev pub TakesPiece : List ℕ → List ℕ → ℕ → Piece → Type 0
TakesPiece old new room (pieces.Ended left) = (has_feed old ≡ true) × (new ≡ behind old) × (first_size old + left ≡ room)
TakesPiece old new room (pieces.More left) = (has_feed old ≡ false) × (new ≡ []) × (length old + left ≡ room)
TakesPiece old new room pieces.Past = room < first_size old

-- whether a step took something
abbrev pub IsTaken : Piece → Type 0
IsTaken (pieces.Ended left) = ⊤
IsTaken (pieces.More left) = ⊤
IsTaken pieces.Past = ⊥

-- the lines of the bytes ahead and then those left, where they are told
abbrev pub lines_ahead : ℕ → List ℕ → Option (List ℕ) → Option (List Line)
lines_ahead room ahead left = option_map (λ bytes. lines_within room (ahead ++ bytes)) left

-- the room after a line was read
abbrev pub Spends : ℕ → ℕ → Option Line → Type 0
Spends room left None = left ≡ room
Spends room left (Some PastInput) = left ≡ 0
Spends room left (Some line) = left < room
