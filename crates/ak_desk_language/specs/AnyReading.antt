-- How a line about filtered decks is found: by its first word.
use Rattle.std.specs.Prelude.{◌≡◌, ℕ, if◌then◌else◌, List, Option, Some, None, option_map, codes}
use Rattle.std.specs.Option.{MatchOption}
use Rattle.ak_base.specs.Cuts.{has, front, behind}
use Rattle.ak_desk_language.specs.Contents.{InJson, RefusesJson}
use Rattle.ak_desk_language.specs.DeskLines.{RefusesLine, SaysLine}
use Rattle.ak_desk_language.specs.Faults.{OrMemory}
use Rattle.ak_desk_language.specs.FilterPlans.{IsFilterPlan, RefusesFilterPlan}
use Rattle.ak_desk_language.specs.Reading.{number_in}
use Rattle.ak_search.specs.Terms.{is_word}
use Rattle.ak_desk_language.specs.Verbs.{any_id}
use Rattle.ak_desk_language.specs.declared.any_lines.AnyLine.{AnyLine}
use Rattle.ak_desk_language.specs.declared.any_lines.AnyLine.TheVariants as lines
use Rattle.ak_desk_language.specs.declared.line_faults.LineFault.{LineFault}
use Rattle.ak_desk_language.specs.declared.line_faults.LineFault.TheVariants as faults
use Rattle.ak_desk_language.specs.declared.verbs.FilteredVerb.{FilteredVerb}
use Rattle.ak_desk_language.specs.declared.verbs.FilteredVerb.TheVariants as verbs

-- the verb of a word that begins a line about filtered decks
abbrev pub filtered_verb_of : List ℕ → Option FilteredVerb
filtered_verb_of word =
    if is_word word (codes "filter") then Some verbs.Filter
    else if is_word word (codes "build") then Some verbs.Build
    else if is_word word (codes "empty") then Some verbs.Empty
    else None

-- the verb with which a text begins, and what follows the space after it
abbrev pub filtered_words : List ℕ → Option (FilteredVerb × List ℕ)
filtered_words text =
    if has (codes " ") text
    then option_map (λ verb. (verb, behind (codes " ") text)) (filtered_verb_of (front (codes " ") text))
    else None

-- what follows the verb means this line
abbrev pub ReadsFiltered : FilteredVerb → List ℕ → AnyLine → Type 0
ReadsFiltered verbs.Filter text (lines.Filter name search limit order) =
    InJson text (λ d. IsFilterPlan d name search limit order)
ReadsFiltered verbs.Build text (lines.Build deck) = number_in any_id text ≡ Some deck
ReadsFiltered verbs.Empty text (lines.Empty deck) = number_in any_id text ≡ Some deck
ReadsFiltered verb text line = ⊥

-- what follows the verb has this fault
abbrev pub RefusesAfter : FilteredVerb → List ℕ → LineFault → Type 0
RefusesAfter verbs.Filter text fault = RefusesJson RefusesFilterPlan text fault
RefusesAfter verbs.Build text fault = (number_in any_id text ≡ None) × (fault ≡ faults.BadLine)
RefusesAfter verbs.Empty text fault = (number_in any_id text ≡ None) × (fault ≡ faults.BadLine)

-- the same, or memory was out
abbrev pub RefusesFiltered : FilteredVerb → List ℕ → LineFault → Type 0
RefusesFiltered verb text = OrMemory (RefusesAfter verb text)

-- ---- all lines
-- the text says this line, which is one call
abbrev pub ReadsSingle : List ℕ → AnyLine → Type 0
ReadsSingle text (lines.Single line) = SaysLine text line
ReadsSingle text line = ⊥

-- what the text says by its first word is this line
abbrev pub ReadsAny : List ℕ → AnyLine → Type 0
ReadsAny text line = MatchOption (filtered_words text) (ReadsSingle text line) (λ p. ReadsFiltered p.0 p.1 line)

-- what the text says by its first word is no line, and this is why
abbrev pub RefusesAny : List ℕ → LineFault → Type 0
RefusesAny text fault = MatchOption (filtered_words text) (RefusesLine text fault) (λ p. RefusesFiltered p.0 p.1 fault)
