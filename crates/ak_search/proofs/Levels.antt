-- A pattern goes over a name part by part, and may end at each level.
use Rattle.std.proofs.Common.{◌≡◌, ℕ, Bool, true, false, ◌||◌, List, [], ◌∷◌, ◌++◌, length, codes, refl, ap, sym, ◌∙◌}
use Rattle.std.proofs.Math.Bool.{or-false}
use Rattle.std.proofs.lemmas.Str.{IsUtf8-append, chars-append, chars-nil}
use Rattle.std.specs.List.{list_any}
use Rattle.std.specs.Str.{IsUtf8, chars}
use Rattle.ak_base.specs.Paths.{IsFirstPart, IsOnePart, ancestors_from}
use Rattle.ak_search.specs.declared.patterns.PatternItem.{PatternItem}
use Rattle.ak_search.specs.Holds.{path_matches}
use Rattle.ak_search.specs.Matching.{IsRowAt, falses, advanced, advanced_by, ended}
use Rattle.ak_search.specs.Patterns.{matches}
use Rattle.ak_search.proofs.OnePass.{one_pass}

by_parts : (front back : List ℕ) (row : List Bool) (pattern : List PatternItem) → advanced_by (front ++ back) row pattern ≡ advanced_by back (advanced_by front row pattern) pattern
by_parts [] back row pattern = refl
by_parts (letter ∷ front) back row pattern = by_parts front back (advanced letter false false row pattern) pattern

-- the row before a text
pub row_before : (pattern : List PatternItem) (row : List Bool) → row ≡ true ∷ falses (length pattern) → IsRowAt pattern row []
row_before pattern row is = record { utf8 = ([], (refl, refl)); is = is ∙ ap (λ (cs : List ℕ). advanced_by cs (true ∷ falses (length pattern)) pattern) (sym chars-nil) }

-- one more part was read
pub row_behind : (pattern : List PatternItem) (row new : List Bool) (text part letters : List ℕ) → IsUtf8 part → letters ≡ chars part → new ≡ advanced_by letters row pattern → IsRowAt pattern row text → IsRowAt pattern new (text ++ part)
row_behind pattern row new text part letters utf8 are is at = record {
  utf8 = IsUtf8-append text part at.utf8 utf8;
  is = is
      ∙ ap (λ (cs : List ℕ). advanced_by cs row pattern) are
      ∙ ap (λ (before : List Bool). advanced_by (chars part) before pattern) at.is
      ∙ sym (by_parts (chars text) (chars part) (true ∷ falses (length pattern)) pattern)
      ∙ ap (λ (cs : List ℕ). advanced_by cs (true ∷ falses (length pattern)) pattern) (sym (chars-append text part at.utf8));
}

-- what a row says of the text before it
pub row_matches : (pattern : List PatternItem) (row : List Bool) (text : List ℕ) (may : Bool) → may ≡ ended false row pattern → IsRowAt pattern row text → may ≡ matches pattern text
row_matches pattern row text may is at = is ∙ ap (λ (before : List Bool). ended false before pattern) at.is ∙ one_pass pattern (chars text)

-- the names that end at the parts that are left decide
pub record DecidesFrom (pattern : List PatternItem) (row : List Bool) (rest name : List ℕ) : Type 0 where
  pub above : List ℕ
  pub at : IsRowAt pattern row above
  pub decides : list_any (matches pattern) (ancestors_from 0 above rest) ≡ path_matches pattern name

pub decides_first : (pattern : List PatternItem) (row : List Bool) (name : List ℕ) → row ≡ true ∷ falses (length pattern) → DecidesFrom pattern row name name
decides_first pattern row name is = record { above = []; at = row_before pattern row is; decides = refl }

-- the name up to the next part matches
pub decides_here : (pattern : List PatternItem) (row read : List Bool) (rest level below name : List ℕ) (may : Bool) → IsFirstPart rest level below → may ≡ ended false read pattern → may ≡ true
    → ((text : List ℕ) → IsRowAt pattern row text → IsRowAt pattern read (text ++ level)) → DecidesFrom pattern row rest name → true ≡ path_matches pattern name
decides_here pattern row read rest level below name may first is met on d =
    let here : true ≡ matches pattern (d.above ++ level) = sym met ∙ row_matches pattern read (d.above ++ level) may is (on d.above d.at) in
    ap (λ v. v || list_any (matches pattern) (ancestors_from 0 ((d.above ++ level) ++ codes "::") below)) here
    ∙ sym (ap (list_any (matches pattern)) (first.ancestors d.above)) ∙ d.decides

-- it does not, and the names below decide
pub decides_below : (pattern : List PatternItem) (row read past : List Bool) (rest level below name : List ℕ) (may : Bool) → IsFirstPart rest level below → may ≡ ended false read pattern → may ≡ false
    → ((text : List ℕ) → IsRowAt pattern row text → IsRowAt pattern read (text ++ level)) → ((text : List ℕ) → IsRowAt pattern read text → IsRowAt pattern past (text ++ codes "::"))
    → DecidesFrom pattern row rest name → DecidesFrom pattern past below name
decides_below pattern row read past rest level below name may first is met on over d =
    let here : false ≡ matches pattern (d.above ++ level) = sym met ∙ row_matches pattern read (d.above ++ level) may is (on d.above d.at) in
    record {
      above = (d.above ++ level) ++ codes "::";
      at = over (d.above ++ level) (on d.above d.at);
      decides = ap (λ v. v || list_any (matches pattern) (ancestors_from 0 ((d.above ++ level) ++ codes "::") below)) here
          ∙ sym (ap (list_any (matches pattern)) (first.ancestors d.above)) ∙ d.decides;
    }

-- the whole name decides at last
pub decides_last : (pattern : List PatternItem) (row read : List Bool) (rest name : List ℕ) (may : Bool) → IsOnePart rest → may ≡ ended false read pattern
    → ((text : List ℕ) → IsRowAt pattern row text → IsRowAt pattern read (text ++ rest)) → DecidesFrom pattern row rest name → may ≡ path_matches pattern name
decides_last pattern row read rest name may one is on d =
    row_matches pattern read (d.above ++ rest) may is (on d.above d.at) ∙ sym (or-false (matches pattern (d.above ++ rest)))
    ∙ sym (ap (list_any (matches pattern)) (one.ancestors d.above)) ∙ d.decides

-- a name of one level matches whole
pub matches_whole : (pattern : List PatternItem) (name : List ℕ) → IsOnePart name → matches pattern name ≡ path_matches pattern name
matches_whole pattern name one = sym (or-false (matches pattern name)) ∙ sym (ap (list_any (matches pattern)) (one.ancestors []))
