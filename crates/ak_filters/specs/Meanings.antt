-- What a filter of a field's text is, as plain data.
use Rattle.std.specs.Prelude.{ℕ, ◌+◌, ◌-◌, ◌^◌, ◌==◌, if◌then◌else◌, min, List, [], ◌++◌, length, codes}
use Rattle.std.specs.Fmt.{decimal}
use Rattle.ak_filters.specs.Strips.{stripped}
use Rattle.ak_filters.specs.Readings.{readings_shown}
use Rattle.ak_filters.specs.declared.readings.ReadingPart.TheVariants as parts

-- strips, hides behind a link of the page, shows the bases of readings, their insides or both, or wraps in a text before and one after
pub data Form : Type 0 where
  Strip : Form
  Hint : Form
  Kanji : Form
  Kana : Form
  Furigana : Form
  Wrap : List ℕ → List ℕ → Form

-- the turn is how many times it was applied; at the last u64 it stays
pub record Meaning : Type 0 where
  pub name : List ℕ
  pub form : Form
  pub turn : ℕ

-- the text of a form at a turn, for the text that it is applied to
abbrev pub formed : Form → ℕ → List ℕ → List ℕ
formed Strip turn text = stripped text
formed Hint turn text = if length text == 0 then [] else codes "<a class=hint id=hint" ++ (decimal turn ++ (codes ">" ++ (text ++ codes "</a>")))
formed Kanji turn text = readings_shown parts.Base text
formed Kana turn text = readings_shown parts.Inside text
formed Furigana turn text = readings_shown parts.Ruby text
formed (Wrap before after) turn text = before ++ (text ++ after)

-- the text that the filter makes next of this one
abbrev pub filtered : Meaning → List ℕ → List ℕ
filtered meaning text = formed meaning.form meaning.turn text

-- the filter after it was applied once more
abbrev pub turned : Meaning → Meaning
turned meaning = record meaning { turn = min (meaning.turn + 1) (2 ^ 64 - 1) }
