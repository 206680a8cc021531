-- How the form of a line is found: word by word.
use Rattle.std.specs.Prelude.{◌≡◌, ℕ, nat_lt, ℤ, pos, Bool, true, false, ◌==◌, if◌then◌else◌, List, [], ◌∷◌, Option, Some, None, option_and_then, option_map, codes}
use Rattle.std.specs.List.{slice_split}
use Rattle.std.specs.Option.{MatchOption, option_or}
use Rattle.ak_base.specs.Cuts.{has, front, behind}
use Rattle.ak_base.specs.Decimals.{number_of}
use Rattle.ak_desk_language.specs.declared.desk_lines.DeskLine.{DeskLine}
use Rattle.ak_desk_language.specs.declared.line_faults.LineFault.{LineFault}
use Rattle.ak_desk_language.specs.declared.line_faults.LineFault.TheVariants as faults
use Rattle.ak_desk_language.specs.declared.verbs.Verb.{Verb}
use Rattle.ak_desk_language.specs.declared.verbs.Verb.TheVariants as verbs
use Rattle.ak_desk_language.specs.Contents.{RefusesContent}
use Rattle.ak_desk_language.specs.DeskLines.{MeansLine}
use Rattle.ak_desk_language.specs.Faults.{OrMemory}
use Rattle.ak_desk_language.specs.LineForms.{LineForm, Tail, Nothing, Ids, AnyText, end_text}
use Rattle.ak_desk_language.specs.Verbs.{Range, any_id, ranges_of, Ending, AtOnce, WithIds, WithSide, WithText, ending_of, content_of}
use Rattle.ak_search.specs.Terms.{is_word}

-- ---- verbs by their words
-- a verb of studying and looking, by its word
abbrev pub study_verb_of : List ℕ → Option Verb
study_verb_of word =
    if is_word word (codes "answer") then Some verbs.Answer
    else if is_word word (codes "next") then Some verbs.Next
    else if is_word word (codes "counts") then Some verbs.Counts
    else if is_word word (codes "find") then Some verbs.Find
    else if is_word word (codes "page") then Some verbs.Page
    else if is_word word (codes "mute") then Some verbs.Mute
    else if is_word word (codes "suspend") then Some verbs.Suspend
    else if is_word word (codes "unsuspend") then Some verbs.Unsuspend
    else if is_word word (codes "bury") then Some verbs.Bury
    else if is_word word (codes "flag") then Some verbs.Flag
    else None

-- a verb of decks and options, or else one of those
abbrev pub deck_verb_of : List ℕ → Option Verb
deck_verb_of word =
    if is_word word (codes "drop") then Some verbs.Drop
    else if is_word word (codes "rename") then Some verbs.Rename
    else if is_word word (codes "move") then Some verbs.Move
    else if is_word word (codes "adopt") then Some verbs.Adopt
    else if is_word word (codes "spread") then Some verbs.Spread
    else if is_word word (codes "deck") then Some verbs.Deck
    else if is_word word (codes "options") then Some verbs.Options
    else if is_word word (codes "unoptions") then Some verbs.Unoptions
    else study_verb_of word

-- the verb of a word that arguments follow
abbrev pub verb_of : List ℕ → Option Verb
verb_of word =
    if is_word word (codes "note") then Some verbs.Note
    else if is_word word (codes "fields") then Some verbs.Fields
    else if is_word word (codes "tags") then Some verbs.Tags
    else if is_word word (codes "delete") then Some verbs.Delete
    else if is_word word (codes "type") then Some verbs.Type
    else if is_word word (codes "retype") then Some verbs.Retype
    else if is_word word (codes "untype") then Some verbs.Untype
    else deck_verb_of word

-- the verb of a word that stands alone
abbrev pub lone_verb_of : List ℕ → Option Verb
lone_verb_of word =
    if is_word word (codes "undo") then Some verbs.Undo
    else if is_word word (codes "check") then Some verbs.Check
    else None

-- the verb of a word after `allow`
abbrev pub allowed_verb_of : List ℕ → Option Verb
allowed_verb_of word =
    if is_word word (codes "retype") then Some verbs.Retype
    else if is_word word (codes "untype") then Some verbs.Untype
    else if is_word word (codes "unoptions") then Some verbs.Unoptions
    else None

-- ---- arguments
-- the number of a text of decimal digits, if it is in the range
abbrev pub number_in : Range → List ℕ → Option ℤ
number_in range text = option_and_then (λ n. if nat_lt n range.0 then None else Some (pos n)) (number_of range.1 text)

-- the number before the first space, and what follows that space
abbrev pub next_number : Range → List ℕ → Option (ℤ × List ℕ)
next_number range text =
    if has (codes " ") text
    then option_map (λ n. (n, behind (codes " ") text)) (number_in range (front (codes " ") text))
    else None

-- the numbers of words; none, if one is no number
abbrev pub numbers_of : List (List ℕ) → Option (List ℤ)
numbers_of [] = Some []
numbers_of (word ∷ words) = option_and_then (λ n. option_map (λ ns. n ∷ ns) (numbers_of words)) (number_in any_id word)

-- the numbers between spaces
abbrev pub ids_of : List ℕ → Option (List ℤ)
ids_of text = numbers_of (slice_split (λ byte. byte == 32) text)

-- the numbers of a line, and what stands after them
pub record Arguments : Type 0 where
  pub numbers : List ℤ
  pub tail : Tail

-- no numbers, and this
abbrev pub only : Tail → Arguments
only tail = record { numbers = []; tail = tail }

-- one number more in front
abbrev pub with_number : ℤ → Arguments → Arguments
with_number n a = record { numbers = n ∷ a.numbers; tail = a.tail }

-- the word `front` or `back`
abbrev pub side_of : List ℕ → Option Arguments
side_of text =
    if is_word text (codes "front") then Some (only (AnyText (codes "front")))
    else if is_word text (codes "back") then Some (only (AnyText (codes "back")))
    else None

-- what stands after the numbers
abbrev pub ending_in : Ending → List ℕ → Option Arguments
ending_in AtOnce text = None
ending_in WithIds text = option_map (λ ids. only (Ids ids)) (ids_of text)
ending_in WithSide text = side_of text
ending_in WithText text = Some (only (AnyText text))

-- numbers that are followed by more
abbrev pub arguments_before : List Range → Ending → List ℕ → Option Arguments
arguments_before [] ending text = ending_in ending text
arguments_before (range ∷ ranges) ending text =
    option_and_then (λ p. option_map (with_number p.0) (arguments_before ranges ending p.1)) (next_number range text)

-- numbers of which the last ends the line
abbrev pub arguments_alone : List Range → List ℕ → Option Arguments
arguments_alone [] text = None
arguments_alone (range ∷ []) text = option_map (λ n. with_number n (only Nothing)) (number_in range text)
arguments_alone (range ∷ second ∷ ranges) text =
    option_and_then (λ p. option_map (with_number p.0) (arguments_alone (second ∷ ranges) p.1)) (next_number range text)

-- the arguments in a text, after the space behind the verb
abbrev pub arguments_in : List Range → Ending → List ℕ → Option Arguments
arguments_in ranges AtOnce text = arguments_alone ranges text
arguments_in ranges WithIds text = arguments_before ranges WithIds text
arguments_in ranges WithSide text = arguments_before ranges WithSide text
arguments_in ranges WithText text = arguments_before ranges WithText text

-- ---- lines
-- a line of these parts
abbrev pub line_form : Bool → Verb → Arguments → LineForm
line_form allow verb a = record { allow = allow; verb = verb; numbers = a.numbers; tail = a.tail }

-- of a verb and the text of its arguments
abbrev pub verb_form : Bool → Verb → List ℕ → Option LineForm
verb_form allow verb text = option_map (line_form allow verb) (arguments_in (ranges_of verb) (ending_of verb) text)

-- of a verb alone
abbrev pub lone_form : List ℕ → Option LineForm
lone_form text = option_map (λ verb. line_form false verb (only Nothing)) (lone_verb_of text)

-- of the word after `allow`, and of what follows the space after that
abbrev pub allowed_words_form : List ℕ → List ℕ → Option LineForm
allowed_words_form word rest = option_and_then (λ verb. verb_form true verb rest) (allowed_verb_of word)

-- of what follows `allow`
abbrev pub allowed_form : List ℕ → Option LineForm
allowed_form text =
    if has (codes " ") text then allowed_words_form (front (codes " ") text) (behind (codes " ") text) else None

-- of a word and what follows the space after it
abbrev pub words_form : List ℕ → List ℕ → Option LineForm
words_form word rest =
    if is_word word (codes "allow")
    then allowed_form rest
    else option_and_then (λ verb. verb_form false verb rest) (verb_of word)

-- of a line
abbrev pub form_of : List ℕ → Option LineForm
form_of text =
    if has (codes " ") text then words_form (front (codes " ") text) (behind (codes " ") text) else lone_form text

-- the form is there, and it means this line
abbrev pub ReadsForm : Option LineForm → DeskLine → Type 0
ReadsForm form line = MatchOption form ⊥ (λ f. MeansLine f line)

-- the text at the end of the form has this fault
abbrev pub EndFails : LineFault → LineForm → Type 0
EndFails fault f = RefusesContent (content_of f.verb) (end_text f.tail) fault

-- the form is not there, or the text at its end has this fault
abbrev pub RefusesForm : Option LineForm → LineFault → Type 0
RefusesForm form = OrMemory (λ fault. MatchOption form (fault ≡ faults.BadLine) (EndFails fault))
