-- How a line of a run ends: a line of the input, by what the run was before it and is after it.
use Rattle.std.specs.Prelude.{◌≡◌, ◌≢◌, ◌⊎◌, ℕ, Bool, true, false, ◌==◌, ◌||◌, List, [], ◌∷◌, Option, Some, None, Result, Ok, Err, codes}
use Rattle.std.specs.List.{starts_with}
use Rattle.ak_any_lines.specs.AnyEnds.{AppliesToAny, EndsAnyLine}
use Rattle.ak_desk_language.specs.AnyLines.{SaysAnyLine}
use Rattle.ak_desk_language.specs.declared.any_lines.AnyLine.{AnyLine}
use Rattle.ak_desk_lines.specs.declared.turns.Turn.{Turn}
use Rattle.ak_desk_runs.specs.RunStates.{LineState, RunState, state_in}
use Rattle.ak_desk_texts.specs.AnswerTexts.{answer_text}
use Rattle.ak_desk_texts.specs.FaultTexts.{refusal_text}
use Rattle.ak_desk_texts.specs.declared.answers.DeskAnswer.{DeskAnswer}
use Rattle.ak_desk_texts.specs.declared.line_refusals.LineRefusal.{LineRefusal}
use Rattle.ak_desk_texts.specs.declared.line_refusals.LineRefusal.TheVariants as refusals
use Rattle.ak_edit.specs.declared.desk_faults.DeskFault.TheVariants as desks
use Rattle.ak_io.specs.Arrivals.{GivesNext, IsClockMoment}
use Rattle.ak_io.specs.declared.lines.Line.{Line}
use Rattle.ak_io.specs.declared.lines.Line.TheVariants.{Whole, TooLong, PastInput}
use Rattle.ak_line_runs.specs.AcceptedAnswers.{done_after}
use Rattle.ak_line_runs.specs.LineRuns.{Accepted, Failed, OutOfMemory, Outcome, Refused, RunKind}
use Rattle.ak_line_runs.specs.LineTexts.{SaysNoLine, is_skipped_line, text_in, textless}

-- ---- what a line takes
-- whether a line takes a word of chance: it begins with `note` or `answer`
abbrev pub takes_word : Line → Bool
takes_word (Whole bytes) = starts_with ◌==◌ bytes (codes "note") || starts_with ◌==◌ bytes (codes "answer")
takes_word TooLong = false
takes_word PastInput = false

-- the word of chance that a line is given: the next one to come if it takes one, and else 0
abbrev pub GivesWord : Bool → Option (List ℕ) → Option (List ℕ) → ℕ → Type 0
GivesWord true old new word = GivesNext old new word
GivesWord false old new word = (new ≡ old) × (word ≡ 0)

-- a line takes the next moment to come, and its word of chance; it is told how many answers were accepted before
pub record TakesTurn (line : Line) (s t : RunState) (turn : Turn) : Type 0 where
  pub moment : GivesNext s.moments t.moments turn.at
  pub range : IsClockMoment turn.at
  pub word : GivesWord (takes_word line) s.words t.words turn.chance
  pub done : turn.done ≡ s.work.done

-- ---- what a line does
-- this line of the desk ended so there
pub record EndsAtDesk (said : AnyLine) (turn : Turn) (s t : LineState) (result : Result DeskAnswer LineRefusal) : Type 0 where
  pub ends : EndsAnyLine said turn (state_in s) (state_in t) result
  pub filters : AppliesToAny said s.keeping s.filters t.filters result
  pub done : t.done ≡ done_after result s.done

-- the line has a text that says a line of the desk, which ended so there
abbrev pub AtDesk : Line → Turn → LineState → LineState → Result DeskAnswer LineRefusal → Type 0
AtDesk line turn s t result =
    (text : List ℕ) × (said : AnyLine) × (text_in line ≡ Some text) × SaysAnyLine text said
    × EndsAtDesk said turn s t result

-- the line has no text, or it says no line of the desk, and this is why
abbrev pub SaysNothing : Line → List ℕ → Type 0
SaysNothing line why =
    (text_in line ≡ None) × (why ≡ textless line) ⊎ (text : List ℕ) × (text_in line ≡ Some text) × SaysNoLine text why

-- what a line that is not skipped comes to in its turn. What says nothing leaves all as it was
abbrev pub ComesTo : Line → Turn → LineState → LineState → Outcome → Type 0
ComesTo line turn s t (Accepted printed) =
    (answer : DeskAnswer) × AtDesk line turn s t (Ok answer) × (printed ≡ answer_text answer ∷ [])
ComesTo line turn s t (Refused why) =
    (t ≡ s) × SaysNothing line why
    ⊎ (refusal : LineRefusal) × AtDesk line turn s t (Err refusal) × (refusal_text refusal ≡ Some why)
ComesTo line turn s t Failed = AtDesk line turn s t (Err (refusals.Desk desks.Failed))
-- memory runs out before the desk is reached, at it, or for the text of its refusal
ComesTo line turn s t OutOfMemory =
    (t ≡ s) ⊎ (refusal : LineRefusal) × (refusal ≢ refusals.Desk desks.Failed) × AtDesk line turn s t (Err refusal)

-- a line is skipped: it changes nothing and prints nothing
abbrev pub IsSkipped : Line → RunState → RunState → Outcome → Type 0
IsSkipped line s t outcome = (is_skipped_line line ≡ true) × (t ≡ s) × (outcome ≡ Accepted [])

-- a line that is not skipped has its turn, and comes to this in it
abbrev pub HasTurn : Line → RunState → RunState → Outcome → Type 0
HasTurn line s t outcome =
    (is_skipped_line line ≡ false) × (turn : Turn) × TakesTurn line s t turn × ComesTo line turn s.work t.work outcome

-- how a line ends
abbrev pub EndsAs : Line → RunState → RunState → Outcome → Type 0
EndsAs line s t outcome = IsSkipped line s t outcome ⊎ HasTurn line s t outcome

-- the same of a line of a number, whatever that is
abbrev pub DeskEnds : RunKind RunState
DeskEnds number line s t outcome = EndsAs line s t outcome
