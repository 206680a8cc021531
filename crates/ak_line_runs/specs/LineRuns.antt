-- What a run of lines does and prints, by how its lines end.
use Rattle.std.specs.Prelude.{◌≡◌, ◌⊎◌, ⊤, ℕ, ◌+◌, List, [], ◌∷◌, ◌++◌, length, Option, Some, None, IfSome, Result, Ok, Err}
use Rattle.std.specs.Io.KnownBytes.{Appends}
use Rattle.std.specs.Option.{option_map}
use Rattle.ak_io.specs.Lines.{lines_within}
use Rattle.ak_io.specs.Scripts.{refusal_bytes, written_lines}
use Rattle.ak_io.specs.declared.lines.Line.{Line}
use Rattle.ak_line_runs.specs.declared.command_ends.CommandEnd.{CommandEnd}
use Rattle.ak_line_runs.specs.declared.command_ends.CommandEnd.TheVariants as ends
use Rattle.ak_line_runs.specs.declared.line_stops.LineStop.{LineStop}
use Rattle.ak_line_runs.specs.declared.line_stops.LineStop.TheVariants as stops

-- ---- how a line ends
-- it is accepted and prints these lines, or is refused by this text; or the keeper failed, or memory ran out
pub data Outcome : Type 0 where
  Accepted : List (List ℕ) → Outcome
  Refused : List ℕ → Outcome
  Failed : Outcome
  OutOfMemory : Outcome

-- what a line came to, by what it prints or why it stops
abbrev pub came_to : Result (List (List ℕ)) LineStop → Outcome
came_to (Ok printed) = Accepted printed
came_to (Err (stops.Refused why)) = Refused why
came_to (Err stops.Failed) = Failed
came_to (Err stops.Memory) = OutOfMemory

-- a kind of runs: how the line of a number ends, from what the run is before it to what it is after it
abbrev pub RunKind : Type 0 → Type 1
RunKind S = (number : ℕ) (line : Line) (s t : S) (outcome : Outcome) → Type 0

-- ---- lines that go
-- lines go one after another, the first of them with this number, and print what each prints
abbrev pub AllGo : {S : Type 0} → RunKind S → ℕ → List Line → S → S → List (List ℕ) → Type 0
AllGo Ends number [] s t printed = (t ≡ s) × (printed ≡ [])
AllGo {S} Ends number (line ∷ lines) s t printed =
    (mid : S) × (first : List (List ℕ)) × (others : List (List ℕ))
    × Ends number line s mid (Accepted first) × AllGo Ends (number + 1) lines mid t others × (printed ≡ first ++ others)

-- ---- the line at which a run stops
-- this is the first of the lines that are left, if they are told
abbrev pub IsNext : Option (List Line) → Line → Type 0
IsNext None line = ⊤
IsNext (Some []) line = ⊥
IsNext (Some (first ∷ more)) line = first ≡ line

-- the next line, of this number, ends so
abbrev pub NextEnds : {S : Type 0} → RunKind S → Option (List Line) → ℕ → S → S → Outcome → Type 0
NextEnds Ends left number s t outcome = (line : Line) × IsNext left line × Ends number line s t outcome

-- these bytes are a front of those
abbrev pub IsPart : List ℕ → List ℕ → Type 0
IsPart part whole = (rest : List ℕ) × (whole ≡ part ++ rest)

-- how a run stops, of which these lines are left and the next has this number: what it was before and is after it, and
-- what it wrote of the line at which it stopped
abbrev pub Stops : {S : Type 0} → RunKind S → CommandEnd → Option (List Line) → ℕ → S → S → List ℕ → Type 0
-- no line is left
Stops Ends ends.Done left number s t more = IfSome left (λ lines. lines ≡ []) × (t ≡ s) × (more ≡ [])
-- the next line is refused, and that is written
Stops Ends ends.Refused left number s t more =
    (why : List ℕ) × NextEnds Ends left number s t (Refused why) × (more ≡ refusal_bytes number why)
-- the next line was not read
Stops Ends ends.ReadFailed left number s t more = (t ≡ s) × (more ≡ [])
-- the next line is accepted or refused, and a part of what it prints is written
Stops Ends ends.WriteFailed left number s t more =
    ((printed : List (List ℕ)) × NextEnds Ends left number s t (Accepted printed) × IsPart more (written_lines printed))
    ⊎ ((why : List ℕ) × NextEnds Ends left number s t (Refused why) × IsPart more (refusal_bytes number why))
-- the keeper failed in the next line
Stops Ends ends.KeeperFailed left number s t more = NextEnds Ends left number s t Failed × (more ≡ [])
-- memory ran out before the next line was read, in it, or for the text of its refusal: never after it was accepted
Stops Ends ends.Memory left number s t more = (more ≡ [])
    × ((t ≡ s) ⊎ NextEnds Ends left number s t OutOfMemory ⊎ (why : List ℕ) × NextEnds Ends left number s t (Refused why))

-- ---- the run
-- all lines, if they are told, are those that went and those that are left
abbrev pub AreLines : Option (List Line) → List Line → Option (List Line) → Type 0
AreLines None gone left = ⊤
AreLines (Some all) gone None = ⊥
AreLines (Some all) gone (Some left) = all ≡ gone ++ left

-- a run of lines that ends so, from what it was to what it is after it, and what is written before and after it
pub record IsLineRun {S : Type 0} (Ends : RunKind S) (end : CommandEnd) (all : Option (List Line)) (before after : S)
    (old new : Option (List ℕ)) : Type 0 where
  -- the lines that went, those that were left, what the run was between them, and what was printed by then
  pub gone : List Line
  pub left : Option (List Line)
  pub reached : S
  pub printed : List (List ℕ)
  -- what was written of the line at which it stopped
  pub more : List ℕ
  pub lines : AreLines all gone left
  pub goes : AllGo Ends 1 gone before reached printed
  pub stops : Stops Ends end left (length gone + 1) reached after more
  pub written : Appends old new (written_lines printed ++ more)

-- the lines of an input that holds at most so many bytes
abbrev pub input_lines : Option (List ℕ) → Option (List Line)
input_lines left = option_map (lines_within 1_073_741_824) left
