-- The lines of an input, each with its place in the limits of a line and of an input.
use Rattle.std.specs.Prelude.{◌≡◌, ℕ, ◌+◌, ◌-◌, ◌^◌, ◌<◌, ◌≤◌, min, Bool, ◌==◌, nat_lt, if◌then◌else◌, List, [], ◌∷◌, ◌++◌, length, take, map, Option, Some, None, ⊤}
use Rattle.std.specs.List.{count_by, list_any}
use Rattle.std.specs.Option.{option_map}
use Rattle.ak_io.specs.declared.lines.Line.{Line}
use Rattle.ak_io.specs.declared.lines.Line.TheVariants.{Whole, TooLong, PastInput}

abbrev pub is_line_feed : ℕ → Bool
is_line_feed byte = byte == 10

-- the lines with a byte in front of the first
abbrev pub begun_with : ℕ → List (List ℕ) → List (List ℕ)
begun_with byte [] = (byte ∷ []) ∷ []
begun_with byte (line ∷ lines) = (byte ∷ line) ∷ lines

-- the lines of a text, without their line feeds; the last may lack its own
abbrev pub lines_of : List ℕ → List (List ℕ)
lines_of [] = []
lines_of (byte ∷ bytes) = if is_line_feed byte then [] ∷ lines_of bytes else begun_with byte (lines_of bytes)

-- those of them that a line feed ends
abbrev pub ended_lines : List ℕ → List (List ℕ)
ended_lines bytes = take (count_by is_line_feed bytes) (lines_of bytes)

-- a line as it is taken
abbrev pub as_read : List ℕ → Line
as_read line = if nat_lt 1_048_576 (length line) then TooLong else Whole line

-- the lines of an input that may hold `room` bytes. Of a longer one: the lines that end within them, and then the
-- line that holds the first byte past them.
abbrev pub lines_within : ℕ → List ℕ → List Line
lines_within room bytes =
    if nat_lt room (length bytes) then map as_read (ended_lines (take room bytes)) ++ PastInput ∷ []
    else map as_read (lines_of bytes)

-- a reader of lines: the bytes that it read from its source and has not taken yet, how many bytes the input may
-- hold from them on, and how many lines were taken
pub record Reading : Type 0 where
  pub ahead : List ℕ
  pub room : ℕ
  pub number : ℕ

-- the lines that are still to be taken, where the source tells what is left
abbrev pub lines_left : Reading → Option (List ℕ) → Option (List Line)
lines_left reading left = option_map (λ bytes. lines_within reading.room (reading.ahead ++ bytes)) left

-- of the lines that were to be taken, where they are told, one was taken, or there was none. The line past the
-- input's limit is the last
abbrev pub Takes : Option (List Line) → Option (List Line) → Option Line → Type 0
Takes None new got = ⊤
Takes (Some lines) new None = lines ≡ []
Takes (Some lines) new (Some PastInput) = lines ≡ PastInput ∷ []
Takes (Some lines) new (Some line) = (rest : List Line) × (new ≡ Some rest) × (lines ≡ line ∷ rest)

-- ---- the same, from the front of the bytes

-- whether there is a line feed
abbrev pub has_feed : List ℕ → Bool
has_feed bytes = list_any is_line_feed bytes

-- the bytes before the first line feed, or all
abbrev pub first_line : List ℕ → List ℕ
first_line [] = []
first_line (byte ∷ bytes) = if is_line_feed byte then [] else byte ∷ first_line bytes

-- the bytes behind the first line feed
abbrev pub behind : List ℕ → List ℕ
behind [] = []
behind (byte ∷ bytes) = if is_line_feed byte then bytes else behind bytes

-- how many bytes the first line has, its line feed with it
abbrev pub first_size : List ℕ → ℕ
first_size [] = 0
first_size (byte ∷ bytes) = if is_line_feed byte then 1 else first_size bytes + 1

-- what a reader did to its number and its room: a line that was taken is counted, and its bytes are gone from the
-- room; the line past the input's limit leaves no room
abbrev pub Counts : Reading → Reading → Option Line → Type 0
Counts old new None = (new.number ≡ old.number) × (new.room ≡ old.room)
Counts old new (Some PastInput) = (new.number ≡ min (old.number + 1) (2 ^ 64 - 1)) × (new.room ≡ 0)
Counts old new (Some line) = (new.number ≡ old.number + 1) × (new.number ≤ 1_073_741_824) × (new.room < old.room)
