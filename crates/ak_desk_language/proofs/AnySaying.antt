-- What is read of a text by its first word is what the text says.
use Rattle.std.proofs.Common.{◌≡◌, ℕ, ◌^◌, ◌<◌, ℤ, true, false, if◌then◌else◌, List, ◌∷◌, ◌++◌, Option, Some, None, option_map, Result, Ok, Err, IfOk, IfErr, inl, inr, ◌⊎◌, refl, sym, ap, subst, ◌∙◌, arith}
use Rattle.std.specs.Prelude.{codes}
use Rattle.std.specs.Fmt.{signed_decimal}
use Rattle.std.specs.Cmp.Lexicographic.{bytes_decides}
use Rattle.std.specs.Option.{MatchOption}
use Rattle.std.proofs.lemmas.Option.{none-some, same_Some}
use Rattle.ak_base.specs.Cuts.{has, front, behind}
use Rattle.ak_desk_language.proofs.FormsRead.{form_read}
use Rattle.ak_desk_language.proofs.FormsWritten.{map_some, none_is}
use Rattle.ak_desk_language.proofs.Numerals.{number_read, number_written}
use Rattle.ak_desk_language.proofs.OneLine.{one_line, same_json}
use Rattle.ak_desk_language.proofs.Spaces.{cut_back}
use Rattle.ak_desk_language.specs.AnyLines.{AreSameAnyLines, HasNoFormAtAll, IsOfDeck, RefusesAnyLine, RefusesFilterLine, SaysAnyLine}
use Rattle.ak_desk_language.specs.AnyReading.{ReadsAny, ReadsFiltered, ReadsSingle, RefusesAfter, RefusesAny, RefusesFiltered, filtered_verb_of, filtered_words}
use Rattle.ak_desk_language.specs.Contents.{InJson}
use Rattle.ak_desk_language.specs.DeskLines.{HasNoForm, RefusesEnd, RefusesLine, SaysLine}
use Rattle.ak_desk_language.specs.FilterPlans.{IsFilterPlan}
use Rattle.ak_desk_language.specs.Reading.{form_of, number_in}
use Rattle.ak_search.specs.Terms.{is_word}
use Rattle.ak_desk_language.specs.Verbs.{any_id}
use Rattle.ak_desk_language.specs.declared.any_lines.AnyLine.{AnyLine}
use Rattle.ak_desk_language.specs.declared.any_lines.AnyLine.TheVariants as lines
use Rattle.ak_desk_language.specs.declared.desk_lines.DeskLine.{DeskLine}
use Rattle.ak_desk_language.specs.declared.line_faults.LineFault.{LineFault}
use Rattle.ak_desk_language.specs.declared.line_faults.LineFault.TheVariants as faults
use Rattle.ak_desk_language.specs.declared.verbs.FilteredVerb.{FilteredVerb}
use Rattle.ak_desk_language.specs.declared.verbs.FilteredVerb.TheVariants as verbs

-- ---- first words
-- the word of a verb
abbrev word_text : FilteredVerb → List ℕ
word_text verbs.Filter = codes "filter"
word_text verbs.Build = codes "build"
word_text verbs.Empty = codes "empty"

-- a number that tells verbs apart
abbrev verb_code : FilteredVerb → ℕ
verb_code verbs.Filter = 0
verb_code verbs.Build = 1
verb_code verbs.Empty = 2

-- the word is that of the first verb, or it is read among the others
first_or_other : (word : List ℕ) (first verb : FilteredVerb) (others : Option FilteredVerb) → (others ≡ Some verb → word_text verb ≡ word)
    → (if is_word word (word_text first) then Some first else others) ≡ Some verb → word_text verb ≡ word
first_or_other word first verb others goes =
    elim (is_word word (word_text first)) as (λ b. is_word word (word_text first) ≡ b → (if b then Some first else others) ≡ Some verb → word_text verb ≡ word) [
      | true ↦ λ same is. ap word_text (sym (same_Some first verb is)) ∙ sym ((bytes_decides word (word_text first)).0 same)
      | false ↦ λ _ is. goes is
    ] refl

no_other : (word : List ℕ) (verb : FilteredVerb) → ◌≡◌ {A = Option FilteredVerb} None (Some verb) → word_text verb ≡ word
no_other word verb is = cc

named : (word : List ℕ) (verb : FilteredVerb) → filtered_verb_of word ≡ Some verb → word_text verb ≡ word
named word verb =
    first_or_other word verbs.Filter verb _ (first_or_other word verbs.Build verb _ (first_or_other word verbs.Empty verb None (no_other word verb)))

-- a verb, and what follows the first space of a text
abbrev with_rest : List ℕ → FilteredVerb → FilteredVerb × List ℕ
with_rest text verb = (verb, behind (codes " ") text)

-- a text that begins with a verb is its word, a space and the rest
words_are : (text : List ℕ) (verb : FilteredVerb) (rest : List ℕ) → filtered_words text ≡ Some (verb, rest) → text ≡ word_text verb ++ (32 ∷ rest)
words_are text verb rest h =
    elim (has (codes " ") text) as (λ b. has (codes " ") text ≡ b → (if b then option_map (with_rest text) (filtered_verb_of (front (codes " ") text)) else None) ≡ Some (verb, rest) → text ≡ word_text verb ++ (32 ∷ rest)) [
      | true ↦ λ found g. map_some (with_rest text) (filtered_verb_of (front (codes " ") text)) (verb, rest) g (λ v was same.
          cut_back text found ∙ ap (λ w. w ++ (32 ∷ behind (codes " ") text)) (sym (named (front (codes " ") text) v was))
          ∙ ap (λ (p : FilteredVerb × List ℕ). word_text p.0 ++ (32 ∷ p.1)) same)
      | false ↦ λ _ g. none_is (verb, rest) g
    ] refl h

-- and such a text begins with the verb
words_read : (verb : FilteredVerb) (rest : List ℕ) → filtered_words (word_text verb ++ (32 ∷ rest)) ≡ Some (verb, rest)
words_read verbs.Filter rest = refl
words_read verbs.Build rest = refl
words_read verbs.Empty rest = refl

words_known : (text : List ℕ) (verb : FilteredVerb) (rest : List ℕ) → text ≡ word_text verb ++ (32 ∷ rest) → filtered_words text ≡ Some (verb, rest)
words_known text verb rest is = ap filtered_words is ∙ words_read verb rest

-- it has no form of a line that is one call
formless : (verb : FilteredVerb) (rest : List ℕ) → form_of (word_text verb ++ (32 ∷ rest)) ≡ None
formless verbs.Filter rest = refl
formless verbs.Build rest = refl
formless verbs.Empty rest = refl

no_form : (text : List ℕ) (verb : FilteredVerb) (rest : List ℕ) → text ≡ word_text verb ++ (32 ∷ rest) → HasNoForm text
no_form text verb rest is f form = none-some f (sym (ap form_of is ∙ formless verb rest) ∙ form_read text f form)

-- ---- numbers of decks
id_small : 9_223_372_036_854_775_807 < 2 ^ 64
id_small = omega (arith)

of_deck : (text word rest : List ℕ) (deck : ℤ) → text ≡ word ++ rest → number_in any_id rest ≡ Some deck → IsOfDeck word text deck
of_deck text word rest deck is h =
    let written = number_written 0 9_223_372_036_854_775_807 rest deck id_small h in
    record { is = is ∙ ap (λ xs. word ++ xs) (sym written.0); within = written.1 }

deck_read : (word text : List ℕ) (deck : ℤ) → IsOfDeck word text deck → number_in any_id (signed_decimal deck) ≡ Some deck
deck_read word text deck of = number_read 0 9_223_372_036_854_775_807 deck id_small of.within

-- ---- what is said
single_says : (text : List ℕ) (line : AnyLine) → ReadsSingle text line → SaysAnyLine text line
single_says text (lines.Single line) m = m
single_says text (lines.Filter name search limit order) m = absurd m
single_says text (lines.Build deck) m = absurd m
single_says text (lines.Empty deck) m = absurd m

filtered_says : (text : List ℕ) (verb : FilteredVerb) (rest : List ℕ) (line : AnyLine) → text ≡ word_text verb ++ (32 ∷ rest) → ReadsFiltered verb rest line
    → SaysAnyLine text line
filtered_says text verbs.Filter rest (lines.Filter name search limit order) is m = (rest, is, m)
filtered_says text verbs.Filter rest (lines.Single line) is m = absurd m
filtered_says text verbs.Filter rest (lines.Build deck) is m = absurd m
filtered_says text verbs.Filter rest (lines.Empty deck) is m = absurd m
filtered_says text verbs.Build rest (lines.Build deck) is m = of_deck text (codes "build ") rest deck is m
filtered_says text verbs.Build rest (lines.Single line) is m = absurd m
filtered_says text verbs.Build rest (lines.Filter name search limit order) is m = absurd m
filtered_says text verbs.Build rest (lines.Empty deck) is m = absurd m
filtered_says text verbs.Empty rest (lines.Empty deck) is m = of_deck text (codes "empty ") rest deck is m
filtered_says text verbs.Empty rest (lines.Single line) is m = absurd m
filtered_says text verbs.Empty rest (lines.Filter name search limit order) is m = absurd m
filtered_says text verbs.Empty rest (lines.Build deck) is m = absurd m

says : (text : List ℕ) (line : AnyLine) → ReadsAny text line → SaysAnyLine text line
says text line h =
    elim (filtered_words text) as (λ o. filtered_words text ≡ o → MatchOption o (ReadsSingle text line) (λ p. ReadsFiltered p.0 p.1 line) → SaysAnyLine text line) [
      | None ↦ λ _ m. single_says text line m
      | Some p ↦ λ is m. filtered_says text p.0 p.1 line (words_are text p.0 p.1 is) m
    ] refl h

pub any_says : (text : List ℕ) (r : Result AnyLine LineFault) → IfOk r (ReadsAny text) → IfOk r (SaysAnyLine text)
any_says text (Ok line) h = says text line h
any_says text (Err fault) h = tt

-- ---- what is refused
-- a text without a first word of filtered decks and without a form
none_at_all : (text : List ℕ) → filtered_words text ≡ None → HasNoForm text → HasNoFormAtAll text
none_at_all text none single = record {
  single = single;
  filter = λ json is. none-some (verbs.Filter, json) (sym none ∙ words_known text verbs.Filter json is);
  build = λ deck of. none-some (verbs.Build, signed_decimal deck) (sym none ∙ words_known text verbs.Build (signed_decimal deck) of.is);
  empty = λ deck of. none-some (verbs.Empty, signed_decimal deck) (sym none ∙ words_known text verbs.Empty (signed_decimal deck) of.is);
}

-- what a text of one verb begins with
same_words : (text : List ℕ) (verb other : FilteredVerb) (rest others : List ℕ) → text ≡ word_text verb ++ (32 ∷ rest) → text ≡ word_text other ++ (32 ∷ others)
    → (verb_code verb ≡ verb_code other) × (rest ≡ others)
same_words text verb other rest others is so =
    let pair : ◌≡◌ {A = FilteredVerb × List ℕ} (verb, rest) (other, others) = same_Some (verb, rest) (other, others) (sym (words_known text verb rest is) ∙ words_known text other others so) in
    (ap (λ (p : FilteredVerb × List ℕ). verb_code p.0) pair, ap (λ (p : FilteredVerb × List ℕ). p.1) pair)

-- a text that begins with `build` or `empty`, of which the rest is no number
bad_build : (text rest : List ℕ) → text ≡ word_text verbs.Build ++ (32 ∷ rest) → number_in any_id rest ≡ None → HasNoFormAtAll text
bad_build text rest is none = record {
  single = no_form text verbs.Build rest is;
  filter = λ json so. absurd (omega (arith, (same_words text verbs.Build verbs.Filter rest json is so).0));
  build = λ deck of.
      none-some deck (sym (ap (number_in any_id) (sym (same_words text verbs.Build verbs.Build rest (signed_decimal deck) is of.is).1) ∙ none) ∙ deck_read (codes "build ") text deck of);
  empty = λ deck of. absurd (omega (arith, (same_words text verbs.Build verbs.Empty rest (signed_decimal deck) is of.is).0));
}

bad_empty : (text rest : List ℕ) → text ≡ word_text verbs.Empty ++ (32 ∷ rest) → number_in any_id rest ≡ None → HasNoFormAtAll text
bad_empty text rest is none = record {
  single = no_form text verbs.Empty rest is;
  filter = λ json so. absurd (omega (arith, (same_words text verbs.Empty verbs.Filter rest json is so).0));
  build = λ deck of. absurd (omega (arith, (same_words text verbs.Empty verbs.Build rest (signed_decimal deck) is of.is).0));
  empty = λ deck of.
      none-some deck (sym (ap (number_in any_id) (sym (same_words text verbs.Empty verbs.Empty rest (signed_decimal deck) is of.is).1) ∙ none) ∙ deck_read (codes "empty ") text deck of);
}

-- why a text says no line
abbrev Why : List ℕ → LineFault → Type 0
Why text fault = ((fault ≡ faults.BadLine) × HasNoFormAtAll text) ⊎ RefusesFilterLine text fault ⊎ RefusesEnd text fault

single_why : (text : List ℕ) (fault : LineFault) → filtered_words text ≡ None → ((fault ≡ faults.BadLine) × HasNoForm text) ⊎ RefusesEnd text fault → Why text fault
single_why text fault none (inl (bad, single)) = inl (bad, none_at_all text none single)
single_why text fault none (inr ends) = inr (inr ends)

filtered_why : (text : List ℕ) (verb : FilteredVerb) (rest : List ℕ) (fault : LineFault) → text ≡ word_text verb ++ (32 ∷ rest) → RefusesAfter verb rest fault → Why text fault
filtered_why text verbs.Filter rest fault is m = inr (inl (rest, is, m))
filtered_why text verbs.Build rest fault is m = inl (m.1, bad_build text rest is m.0)
filtered_why text verbs.Empty rest fault is m = inl (m.1, bad_empty text rest is m.0)

single_refused : (text : List ℕ) (fault : LineFault) → filtered_words text ≡ None → RefusesLine text fault → RefusesAnyLine text fault
single_refused text faults.BadLine none h = single_why text faults.BadLine none h
single_refused text (faults.Json fault) none h = single_why text (faults.Json fault) none h
single_refused text (faults.Search fault) none h = single_why text (faults.Search fault) none h
single_refused text faults.Memory none h = tt

filtered_refused : (text : List ℕ) (verb : FilteredVerb) (rest : List ℕ) (fault : LineFault) → text ≡ word_text verb ++ (32 ∷ rest) → RefusesFiltered verb rest fault
    → RefusesAnyLine text fault
filtered_refused text verb rest faults.BadLine is h = filtered_why text verb rest faults.BadLine is h
filtered_refused text verb rest (faults.Json fault) is h = filtered_why text verb rest (faults.Json fault) is h
filtered_refused text verb rest (faults.Search fault) is h = filtered_why text verb rest (faults.Search fault) is h
filtered_refused text verb rest faults.Memory is h = tt

refuses : (text : List ℕ) (fault : LineFault) → RefusesAny text fault → RefusesAnyLine text fault
refuses text fault h =
    elim (filtered_words text) as (λ o. filtered_words text ≡ o → MatchOption o (RefusesLine text fault) (λ p. RefusesFiltered p.0 p.1 fault) → RefusesAnyLine text fault) [
      | None ↦ λ is m. single_refused text fault is m
      | Some p ↦ λ is m. filtered_refused text p.0 p.1 fault (words_are text p.0 p.1 is) m
    ] refl h

pub any_refused : (text : List ℕ) (r : Result AnyLine LineFault) → IfErr r (RefusesAny text) → IfErr r (RefusesAnyLine text)
any_refused text (Ok line) h = tt
any_refused text (Err fault) h = refuses text fault h

-- ---- one line
-- a line of one call does not begin with a verb about filtered decks
single_only : (text : List ℕ) (line : DeskLine) (verb : FilteredVerb) (rest : List ℕ) → SaysLine text line → text ≡ word_text verb ++ (32 ∷ rest) → ⊥
single_only text line verb rest (f, form, means) is = no_form text verb rest is f form

-- a JSON text is this plan
abbrev SaysPlan : List ℕ → List ℕ → ℤ → ℤ → List ℕ → Type 0
SaysPlan name search limit order json = InJson json (λ d. IsFilterPlan d name search limit order)

-- a JSON text is the plan of one line
one_plan : (text : List ℕ) (name1 search1 : List ℕ) (limit1 order1 : ℤ) (name2 search2 : List ℕ) (limit2 order2 : ℤ)
    → SaysAnyLine text (lines.Filter name1 search1 limit1 order1) → SaysAnyLine text (lines.Filter name2 search2 limit2 order2)
    → lines.Filter name1 search1 limit1 order1 ≡ lines.Filter name2 search2 limit2 order2
one_plan text name1 search1 limit1 order1 name2 search2 limit2 order2 (json1, is, m) (json2, so, n) =
    let same : json1 ≡ json2 = (same_words text verbs.Filter verbs.Filter json1 json2 is so).1 in
    same_json json2 _ _ (subst (SaysPlan name1 search1 limit1 order1) same m) n (λ d p q.
    ap (λ (name : List ℕ). lines.Filter name search1 limit1 order1) (same_Some name1 name2 (sym p.name_is ∙ q.name_is))
    ∙ ap (λ (search : List ℕ). lines.Filter name2 search limit1 order1) (same_Some search1 search2 (sym p.search_is ∙ q.search_is))
    ∙ ap (λ (limit : ℤ). lines.Filter name2 search2 limit order1) (same_Some limit1 limit2 (sym p.limit_is ∙ q.limit_is))
    ∙ ap (λ (order : ℤ). lines.Filter name2 search2 limit2 order) (same_Some order1 order2 (sym p.order_is ∙ q.order_is)))

-- two texts of one number
one_deck : (text : List ℕ) (verb : FilteredVerb) (a b : ℤ) (word : List ℕ) → text ≡ word_text verb ++ (32 ∷ signed_decimal a) → text ≡ word_text verb ++ (32 ∷ signed_decimal b)
    → IsOfDeck word text a → IsOfDeck word text b → a ≡ b
one_deck text verb a b word is so m n =
    same_Some a b (sym (deck_read word text a m) ∙ ap (number_in any_id) (same_words text verb verb (signed_decimal a) (signed_decimal b) is so).1 ∙ deck_read word text b n)

-- a text that begins with two verbs
other_verb : {A : Type 0} (text : List ℕ) (verb other : FilteredVerb) (rest others : List ℕ) → (verb_code verb ≡ verb_code other → ⊥)
    → text ≡ word_text verb ++ (32 ∷ rest) → text ≡ word_text other ++ (32 ∷ others) → A
other_verb text verb other rest others differ is so = absurd (differ (same_words text verb other rest others is so).0)

pub one_any_line : (text : List ℕ) (a b : AnyLine) → SaysAnyLine text a → SaysAnyLine text b → AreSameAnyLines a b
one_any_line text (lines.Single a) (lines.Single b) m n = one_line text a b m n
one_any_line text (lines.Single a) (lines.Filter name search limit order) m n = absurd (single_only text a verbs.Filter n.0 m n.1)
one_any_line text (lines.Single a) (lines.Build deck) m n = absurd (single_only text a verbs.Build (signed_decimal deck) m n.is)
one_any_line text (lines.Single a) (lines.Empty deck) m n = absurd (single_only text a verbs.Empty (signed_decimal deck) m n.is)
one_any_line text (lines.Filter name search limit order) (lines.Single b) m n = absurd (single_only text b verbs.Filter m.0 n m.1)
one_any_line text (lines.Build deck) (lines.Single b) m n = absurd (single_only text b verbs.Build (signed_decimal deck) n m.is)
one_any_line text (lines.Empty deck) (lines.Single b) m n = absurd (single_only text b verbs.Empty (signed_decimal deck) n m.is)
one_any_line text (lines.Filter name1 search1 limit1 order1) (lines.Filter name2 search2 limit2 order2) m n =
    one_plan text name1 search1 limit1 order1 name2 search2 limit2 order2 m n
one_any_line text (lines.Filter name search limit order) (lines.Build deck) m n =
    other_verb text verbs.Filter verbs.Build m.0 (signed_decimal deck) (λ is. omega (arith, is)) m.1 n.is
one_any_line text (lines.Filter name search limit order) (lines.Empty deck) m n =
    other_verb text verbs.Filter verbs.Empty m.0 (signed_decimal deck) (λ is. omega (arith, is)) m.1 n.is
one_any_line text (lines.Build deck) (lines.Filter name search limit order) m n =
    other_verb text verbs.Build verbs.Filter (signed_decimal deck) n.0 (λ is. omega (arith, is)) m.is n.1
one_any_line text (lines.Build a) (lines.Build b) m n = ap lines.Build (one_deck text verbs.Build a b (codes "build ") m.is n.is m n)
one_any_line text (lines.Build a) (lines.Empty b) m n =
    other_verb text verbs.Build verbs.Empty (signed_decimal a) (signed_decimal b) (λ is. omega (arith, is)) m.is n.is
one_any_line text (lines.Empty deck) (lines.Filter name search limit order) m n =
    other_verb text verbs.Empty verbs.Filter (signed_decimal deck) n.0 (λ is. omega (arith, is)) m.is n.1
one_any_line text (lines.Empty a) (lines.Build b) m n =
    other_verb text verbs.Empty verbs.Build (signed_decimal a) (signed_decimal b) (λ is. omega (arith, is)) m.is n.is
one_any_line text (lines.Empty a) (lines.Empty b) m n = ap lines.Empty (one_deck text verbs.Empty a b (codes "empty ") m.is n.is m n)
