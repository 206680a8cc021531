-- The text of a line, and why a line is refused that has none, or that says no line of the desk.
use Rattle.std.specs.Prelude.{◌≡◌, ℕ, Bool, false, if◌then◌else◌, List, Option, Some, None, codes}
use Rattle.std.specs.Str.{is_utf8}
use Rattle.ak_desk_language.specs.AnyLines.{RefusesAnyLine}
use Rattle.ak_desk_language.specs.DeskLines.{is_skipped}
use Rattle.ak_desk_language.specs.declared.line_faults.LineFault.{LineFault}
use Rattle.ak_desk_texts.specs.FaultTexts.{line_fault_text}
use Rattle.ak_io.specs.declared.lines.Line.{Line}
use Rattle.ak_io.specs.declared.lines.Line.TheVariants.{Whole, TooLong, PastInput}

-- the text of a line, if it has one: it is not too long, not past what an input holds, and UTF-8
abbrev pub text_in : Line → Option (List ℕ)
text_in (Whole bytes) = if is_utf8 bytes then Some bytes else None
text_in TooLong = None
text_in PastInput = None

-- whether a text is skipped, if there is one: it is empty or begins with `#`
abbrev pub skips : Option (List ℕ) → Bool
skips None = false
skips (Some text) = is_skipped text

-- whether a line is skipped
abbrev pub is_skipped_line : Line → Bool
is_skipped_line line = skips (text_in line)

-- why a line without a text is refused
abbrev pub textless : Line → List ℕ
textless (Whole bytes) = codes "not text"
textless TooLong = codes "long line"
textless PastInput = codes "long input"

-- the text says no line of the desk, and this is why
abbrev pub SaysNoLine : List ℕ → List ℕ → Type 0
SaysNoLine text why = (fault : LineFault) × RefusesAnyLine text fault × (line_fault_text fault ≡ Some why)
