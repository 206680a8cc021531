-- The form of a desk line: its words, with one space between.
use Rattle.std.specs.Prelude.{◌≡◌, ◌⊎◌, ℕ, ℤ, pos, Bool, true, if◌then◌else◌, List, [], ◌∷◌, ◌++◌, map, codes, ⊤}
use Rattle.std.specs.Fmt.{signed_decimal}
use Rattle.std.specs.List.{join_with_byte}
use Rattle.ak_base.specs.Heads.{IsWithin}
use Rattle.ak_desk_language.specs.declared.verbs.Verb.{Verb}
use Rattle.ak_desk_language.specs.Verbs.{verb_text, may_allow, Range, any_id, ranges_of, Ending, AtOnce, WithIds, WithSide, WithText, ending_of}

-- what stands after the numbers of a line: nothing, ids, or a text, which may hold spaces and may be empty
pub data Tail : Type 0 where
  Nothing : Tail
  Ids : List ℤ → Tail
  AnyText : List ℕ → Tail

-- a line by its words: whether it begins with `allow`, its verb, its numbers and what stands after them
pub record LineForm : Type 0 where
  pub allow : Bool
  pub verb : Verb
  pub numbers : List ℤ
  pub tail : Tail

-- the words of what stands after the numbers
abbrev pub tail_words : Tail → List (List ℕ)
tail_words Nothing = []
tail_words (Ids ids) = map signed_decimal ids
tail_words (AnyText text) = text ∷ []

-- the word `allow`, or none
abbrev pub allow_words : Bool → List (List ℕ)
allow_words allow = if allow then codes "allow" ∷ [] else []

-- the words of a line in their order
abbrev pub words_of : LineForm → List (List ℕ)
words_of f = allow_words f.allow ++ (verb_text f.verb ∷ (map signed_decimal f.numbers ++ tail_words f.tail))

-- each number is in its range, and there are as many as ranges
abbrev pub AreInRanges : List Range → List ℤ → Type 0
AreInRanges [] [] = ⊤
AreInRanges [] (number ∷ numbers) = ⊥
AreInRanges (range ∷ ranges) [] = ⊥
AreInRanges (range ∷ ranges) (number ∷ numbers) =
    IsWithin (pos range.0) (pos range.1) number × AreInRanges ranges numbers

-- each is a number from 0 to the last one that fits 64 bits with its sign
abbrev pub AreIds : List ℤ → Type 0
AreIds [] = ⊤
AreIds (id ∷ ids) = IsWithin (pos 0) (pos 9_223_372_036_854_775_807) id × AreIds ids

-- there is one at least
abbrev pub HasOne : List ℤ → Type 0
HasOne [] = ⊥
HasOne (id ∷ ids) = ⊤

-- what stands after the numbers is as the verb wants it
abbrev pub EndsAs : Ending → Tail → Type 0
EndsAs AtOnce Nothing = ⊤
EndsAs AtOnce (Ids ids) = ⊥
EndsAs AtOnce (AnyText text) = ⊥
EndsAs WithIds Nothing = ⊥
EndsAs WithIds (Ids ids) = HasOne ids × AreIds ids
EndsAs WithIds (AnyText text) = ⊥
EndsAs WithSide Nothing = ⊥
EndsAs WithSide (Ids ids) = ⊥
EndsAs WithSide (AnyText text) = (text ≡ codes "front") ⊎ (text ≡ codes "back")
EndsAs WithText Nothing = ⊥
EndsAs WithText (Ids ids) = ⊥
EndsAs WithText (AnyText text) = ⊤

-- the text is the words of the form with one space between, and these are as its verb wants them
pub record HasForm (text : List ℕ) (f : LineForm) : Type 0 where
  pub words : text ≡ join_with_byte 32 (words_of f)
  pub allowed : f.allow ≡ true → may_allow f.verb ≡ true
  pub numbers : AreInRanges (ranges_of f.verb) f.numbers
  pub ends : EndsAs (ending_of f.verb) f.tail

-- the text at the end of a line
abbrev pub end_text : Tail → List ℕ
end_text Nothing = []
end_text (Ids ids) = []
end_text (AnyText text) = text
