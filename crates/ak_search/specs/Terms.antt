-- The terms of a search, and how each is written.
use Rattle.std.specs.Prelude.{ℕ, ◌+◌, ◌-◌, ◌^◌, ◌==◌, nat_lt, Bool, true, false, ◌&&◌, if◌then◌else◌, ℤ, pos, ◌-ℤ◌, List, [], ◌∷◌, length, take, drop, Option, Some, None, codes}
use Rattle.std.specs.Option.{option_map, option_and_then}
use Rattle.std.specs.List.{slice_split}
use Rattle.std.specs.Cmp.Lexicographic.{pointwise}
use Rattle.ak_base.specs.Decimals.{number_of}
use Rattle.ak_base.specs.Cuts.{has, front, behind}
use Rattle.ak_search.specs.declared.source_chars.SourceChar.{SourceChar}
use Rattle.ak_search.specs.declared.terms.Term.{Term}
use Rattle.ak_search.specs.declared.terms.Term.TheVariants as terms
use Rattle.ak_search.specs.declared.terms.State.{State}
use Rattle.ak_search.specs.declared.terms.State.TheVariants as states
use Rattle.ak_search.specs.declared.terms.Property.{Property}
use Rattle.ak_search.specs.declared.terms.Property.TheVariants as properties
use Rattle.ak_search.specs.declared.terms.Comparison.{Comparison}
use Rattle.ak_search.specs.declared.terms.Comparison.TheVariants as comparisons
use Rattle.ak_search.specs.declared.prefixes.Prefix.{Prefix}
use Rattle.ak_search.specs.declared.prefixes.Prefix.TheVariants as prefixes
use Rattle.ak_search.specs.Patterns.{pattern_of, anywhere, as_word}
use Rattle.ak_search.specs.SourceChars.{text_of, lowered, until}

-- ---- known words, in lower case

abbrev pub is_word : List ℕ → List ℕ → Bool
is_word text word = pointwise ◌==◌ text word

-- the prefixes whose values are words or numbers, by their names; any other is a field's name
abbrev pub value_prefix_of : List ℕ → Prefix
value_prefix_of name =
    if is_word name (codes "is") then prefixes.InState
    else (if is_word name (codes "prop") then prefixes.Prop
    else (if is_word name (codes "flag") then prefixes.Flag
    else (if is_word name (codes "rated") then prefixes.Rated
    else (if is_word name (codes "added") then prefixes.Added
    else (if is_word name (codes "edited") then prefixes.Edited
    else (if is_word name (codes "nid") then prefixes.NoteIds
    else (if is_word name (codes "cid") then prefixes.CardIds
    else prefixes.Field)))))))

-- the prefix of a name: those whose values are patterns first
abbrev pub prefix_of : List ℕ → Prefix
prefix_of name =
    if is_word name (codes "w") then prefixes.Word
    else (if is_word name (codes "deck") then prefixes.Deck
    else (if is_word name (codes "tag") then prefixes.Tag
    else (if is_word name (codes "note") then prefixes.NoteType
    else (if is_word name (codes "card") then prefixes.Template
    else value_prefix_of name))))

-- the states of buried cards, by their words
abbrev pub buried_state_of : List ℕ → Option State
buried_state_of word =
    if is_word word (codes "buried") then Some states.Buried
    else (if is_word word (codes "buried-manually") then Some states.BuriedManually
    else (if is_word word (codes "buried-sibling") then Some states.BuriedSibling
    else None))

-- the state that `is:` names
abbrev pub state_of : List ℕ → Option State
state_of word =
    if is_word word (codes "new") then Some states.New
    else (if is_word word (codes "learn") then Some states.Learn
    else (if is_word word (codes "review") then Some states.Review
    else (if is_word word (codes "due") then Some states.Due
    else (if is_word word (codes "suspended") then Some states.Suspended
    else buried_state_of word))))

-- the number of a card that `prop:` names
abbrev pub property_of : List ℕ → Option Property
property_of word =
    if is_word word (codes "ivl") then Some properties.Interval
    else (if is_word word (codes "reps") then Some properties.Reps
    else (if is_word word (codes "lapses") then Some properties.Lapses
    else (if is_word word (codes "ease") then Some properties.Ease
    else (if is_word word (codes "due") then Some properties.Due
    else (if is_word word (codes "pos") then Some properties.Position
    else None)))))

-- ---- numbers: decimal, without sign or leading zero

-- a number of at most so much
abbrev pub up_to : ℕ → List ℕ → Option ℤ
up_to most text = option_map pos (number_of most text)

-- any number, at most the last i64
abbrev pub whole : List ℕ → Option ℤ
whole text = up_to (2 ^ 63 - 1) text

-- the number, unless it is 0
abbrev pub not_zero : ℤ → Option ℤ
not_zero (pos n) = if n == 0 then None else Some (pos n)
not_zero n = Some n

-- a number from 1 to the most
abbrev pub from_one : ℕ → List ℕ → Option ℤ
from_one most text = option_and_then not_zero (up_to most text)

-- a number of days: 1 to 100,000
abbrev pub days_of : List ℕ → Option ℤ
days_of text = from_one 100_000 text

-- a number that may have a `-`
abbrev pub signed_of : List ℕ → Option ℤ
signed_of text =
    if has (codes "-") text && (length (front (codes "-") text) == 0) then option_map (λ n. pos 0 -ℤ n) (whole (behind (codes "-") text))
    else whole text

-- numbers, each by its text; none if one is no number
abbrev pub wholes : List (List ℕ) → Option (List ℤ)
wholes [] = Some []
wholes (text ∷ texts) = option_and_then (λ n. option_map (λ ns. n ∷ ns) (wholes texts)) (whole text)

-- ids between commas
abbrev pub ids_of : List ℕ → Option (List ℤ)
ids_of text = wholes (slice_split (λ byte. byte == 44) text)

-- ---- terms with a value

-- only `due` may lie before today
abbrev pub bound_of : Property → List ℕ → Option ℤ
bound_of properties.Interval text = whole text
bound_of properties.Reps text = whole text
bound_of properties.Lapses text = whole text
bound_of properties.Ease text = whole text
bound_of properties.Due text = signed_of text
bound_of properties.Position text = whole text

-- a comparison of the property of this name with a number
abbrev pub compared : Comparison → List ℕ → List ℕ → Option Term
compared comparison name text = option_and_then (λ property. option_map (λ bound. terms.Prop property comparison bound) (bound_of property text)) (property_of name)

-- the name of a property, a comparison, and a number. A comparison of two signs is read before those of one
abbrev pub prop_of : List ℕ → Option Term
prop_of text =
    if has (codes "!=") text then compared comparisons.Differs (front (codes "!=") text) (behind (codes "!=") text)
    else (if has (codes "<=") text then compared comparisons.AtMost (front (codes "<=") text) (behind (codes "<=") text)
    else (if has (codes ">=") text then compared comparisons.AtLeast (front (codes ">=") text) (behind (codes ">=") text)
    else (if has (codes "=") text then compared comparisons.Equal (front (codes "=") text) (behind (codes "=") text)
    else (if has (codes "<") text then compared comparisons.Below (front (codes "<") text) (behind (codes "<") text)
    else (if has (codes ">") text then compared comparisons.Above (front (codes ">") text) (behind (codes ">") text)
    else None)))))

-- days, and an ease from 1 to 4 behind a colon
abbrev pub rated_of : List ℕ → Option Term
rated_of text =
    if has (codes ":") text then option_and_then (λ days. option_map (λ ease. terms.RatedWith days ease) (from_one 4 (behind (codes ":") text))) (days_of (front (codes ":") text))
    else option_map terms.Rated (days_of text)

-- ---- the term that characters are; none, where its value can't be read

-- the tag that a pattern names; `none` is a note without tags
abbrev pub tag_of : List SourceChar → Term
tag_of value = if is_word (lowered value) (codes "none") then terms.Untagged else terms.Tag (pattern_of value)

-- whether a pattern stands behind the prefix
abbrev pub takes_pattern : Prefix → Bool
takes_pattern prefixes.Word = true
takes_pattern prefixes.Deck = true
takes_pattern prefixes.Tag = true
takes_pattern prefixes.NoteType = true
takes_pattern prefixes.Template = true
takes_pattern prefixes.InState = false
takes_pattern prefixes.Prop = false
takes_pattern prefixes.Flag = false
takes_pattern prefixes.Rated = false
takes_pattern prefixes.Added = false
takes_pattern prefixes.Edited = false
takes_pattern prefixes.NoteIds = false
takes_pattern prefixes.CardIds = false
takes_pattern prefixes.Field = true

-- by the prefix, the characters that spell it, and those of the pattern
abbrev pub patterned : Prefix → List SourceChar → List SourceChar → Term
patterned prefixes.Word name value = terms.Word (as_word (pattern_of value))
patterned prefixes.Deck name value = terms.Deck (pattern_of value)
patterned prefixes.Tag name value = tag_of value
patterned prefixes.NoteType name value = terms.NoteType (pattern_of value)
patterned prefixes.Template name value = terms.Template (pattern_of value)
patterned prefix name value = terms.Field (text_of name) (pattern_of value)

-- by the prefix, and the value in lower case: a word or numbers, or ids
abbrev pub plain_valued : Prefix → List ℕ → Option Term
plain_valued prefixes.InState text = option_map terms.InState (state_of text)
plain_valued prefixes.Prop text = prop_of text
plain_valued prefixes.Flag text = option_map terms.Flag (up_to 7 text)
plain_valued prefixes.Rated text = rated_of text
plain_valued prefixes.Added text = option_map terms.Added (days_of text)
plain_valued prefixes.Edited text = option_map terms.Edited (days_of text)
plain_valued prefix text = None

-- a term with a value that is no pattern
abbrev pub valued : Prefix → List ℕ → Option Term
valued prefixes.NoteIds text = option_map terms.NoteIds (ids_of text)
valued prefixes.CardIds text = option_map terms.CardIds (ids_of text)
valued prefix text = plain_valued prefix text

-- a term with a prefix, by the kind of its value
abbrev pub prefixed : Prefix → List SourceChar → List SourceChar → Option Term
prefixed prefix name value = if takes_pattern prefix then Some (patterned prefix name value) else valued prefix (lowered value)

-- a prefix ends at the first bare colon
abbrev pub term_of : List SourceChar → Option Term
term_of source_chars =
    if nat_lt (until 58 source_chars) (length source_chars) then prefixed (prefix_of (lowered (take (until 58 source_chars) source_chars))) (take (until 58 source_chars) source_chars) (drop (until 58 source_chars + 1) source_chars)
    else Some (terms.Contains (anywhere (pattern_of source_chars)))
