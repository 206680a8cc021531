-- What lines of the desk say, those about filtered decks too, and why others are refused.
use Rattle.std.specs.Prelude.{◌≡◌, ◌⊎◌, ⊤, ℕ, ℤ, pos, List, ◌++◌, codes}
use Rattle.std.specs.Fmt.{signed_decimal}
use Rattle.ak_base.specs.Heads.{IsWithin}
use Rattle.ak_desk_language.specs.Contents.{InJson, RefusesJson}
use Rattle.ak_desk_language.specs.DeskLines.{AreSameLines, HasNoForm, IsInRange, RefusesEnd, SaysLine}
use Rattle.ak_desk_language.specs.Faults.{OrMemory}
use Rattle.ak_desk_language.specs.FilterPlans.{IsFilterPlan, RefusesFilterPlan}
use Rattle.ak_desk_language.specs.declared.any_lines.AnyLine.{AnyLine}
use Rattle.ak_desk_language.specs.declared.any_lines.AnyLine.TheVariants as lines
use Rattle.ak_desk_language.specs.declared.line_faults.LineFault.{LineFault}
use Rattle.ak_desk_language.specs.declared.line_faults.LineFault.TheVariants as faults

-- ---- what a line says
-- the text is the word `filter`, a space and this
abbrev pub IsFilterOf : List ℕ → List ℕ → Type 0
IsFilterOf text json = text ≡ codes "filter " ++ json

-- the text is this word with its space, and the number of a deck: whether it is an id is not asked here
pub record IsOfDeck (word text : List ℕ) (deck : ℤ) : Type 0 where
  pub is : text ≡ word ++ signed_decimal deck
  pub within : IsWithin (pos 0) (pos 9_223_372_036_854_775_807) deck

-- the text says this line
abbrev pub SaysAnyLine : List ℕ → AnyLine → Type 0
SaysAnyLine text (lines.Single line) = SaysLine text line
SaysAnyLine text (lines.Filter name search limit order) =
    (json : List ℕ) × IsFilterOf text json × InJson json (λ d. IsFilterPlan d name search limit order)
SaysAnyLine text (lines.Build deck) = IsOfDeck (codes "build ") text deck
SaysAnyLine text (lines.Empty deck) = IsOfDeck (codes "empty ") text deck

-- the numbers that a call of the desk wants in a range are in it
abbrev pub IsAnyInRange : AnyLine → Type 0
IsAnyInRange (lines.Single line) = IsInRange line
IsAnyInRange line = ⊤

-- two lines are the same: of searches, if they have the same pieces
abbrev pub AreSameAnyLines : AnyLine → AnyLine → Type 0
AreSameAnyLines (lines.Single a) (lines.Single b) = AreSameLines a b
AreSameAnyLines a b = a ≡ b

-- ---- why a text says no line
-- the text has the form of no line
pub record HasNoFormAtAll (text : List ℕ) : Type 0 where
  pub single : HasNoForm text
  pub filter : (json : List ℕ) → IsFilterOf text json → ⊥
  pub build : (deck : ℤ) → IsOfDeck (codes "build ") text deck → ⊥
  pub empty : (deck : ℤ) → IsOfDeck (codes "empty ") text deck → ⊥

-- the text begins with `filter`, and what follows has this fault
abbrev pub RefusesFilterLine : List ℕ → LineFault → Type 0
RefusesFilterLine text fault = (json : List ℕ) × IsFilterOf text json × RefusesJson RefusesFilterPlan json fault

-- the text has no form, or the text at its end has a fault; or memory was out
abbrev pub RefusesAnyLine : List ℕ → LineFault → Type 0
RefusesAnyLine text =
    OrMemory (λ fault. ((fault ≡ faults.BadLine) × HasNoFormAtAll text) ⊎ RefusesFilterLine text fault ⊎ RefusesEnd text fault)
