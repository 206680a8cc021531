-- Words with a space between, cut at the spaces again.
use Rattle.std.proofs.Common.{inl, inr, ◌≡◌, ℕ, ◌==◌, Bool, true, false, ◌||◌, List, [], ◌∷◌, ◌++◌, refl, sym, ap, ◌∙◌, map, codes}
use Rattle.std.proofs.lemmas.Bool.{cases_Bool, ne_eqb}
use Rattle.std.proofs.lemmas.List.{append-nil}
use Rattle.std.proofs.lemmas.List.Folds.{flat_map-map}
use Rattle.std.proofs.lemmas.List.Splits.{slice_split-cons_yes, slice_split-cons_no}
use Rattle.std.specs.List.{AllByRecursion, flat_map, join_by, list_any, onto_first, slice_split}
use Rattle.std.specs.Prelude.{filter, length}
use Rattle.ak_base.specs.NoteTexts.{is_tag, tags_in}
use Rattle.ak_csv.specs.RecordRows.{tags_between}

pub joined_words : {X : Type 0} (f : X → List ℕ) (separator : List ℕ) (xs : List X) → join_by f separator xs ≡ join_by (λ (word : List ℕ). word) separator (map f xs)
joined_words f separator [] = refl
joined_words f separator (x ∷ xs) = ap (λ (rest : List ℕ). f x ++ rest) (sym (flat_map-map (λ (word : List ℕ). separator ++ word) f xs))

abbrev is_space : ℕ → Bool
is_space byte = byte == 32

-- a word has no space
abbrev IsWord : List ℕ → Type 0
IsWord word = list_any is_space word ≡ false

-- a tag is a word that is not empty
pub record IsTag (tag : List ℕ) : Type 0 where
  pub word : IsWord tag
  pub some : is_tag tag ≡ true

or_first : (a b : Bool) → (a || b) ≡ false → a ≡ false
or_first false b e = refl
or_first true b e = cc e

or_second : (a b : Bool) → (a || b) ≡ false → b ≡ false
or_second false b e = e
or_second true b e = cc e

split_at_space : (word rest : List ℕ) → IsWord word → slice_split is_space (word ++ (32 ∷ rest)) ≡ word ∷ slice_split is_space rest
split_at_space [] rest h = slice_split-cons_yes is_space 32 rest refl
split_at_space (byte ∷ word) rest h =
    slice_split-cons_no is_space byte (word ++ (32 ∷ rest)) (or_first _ _ h)
    ∙ ap (onto_first byte) (split_at_space word rest (or_second (is_space byte) _ h))

split_alone : (word : List ℕ) → IsWord word → slice_split is_space word ≡ word ∷ []
split_alone [] h = refl
split_alone (byte ∷ word) h =
    slice_split-cons_no is_space byte word (or_first _ _ h) ∙ ap (onto_first byte) (split_alone word (or_second (is_space byte) _ h))

abbrev led : List (List ℕ) → List ℕ
led words = flat_map (λ (word : List ℕ). codes " " ++ word) words

split_led : (word : List ℕ) (words : List (List ℕ)) → IsWord word → AllByRecursion IsTag words → slice_split is_space (word ++ led words) ≡ word ∷ words
split_led word [] h all = ap (slice_split is_space) (append-nil word) ∙ split_alone word h
split_led word (next ∷ words) h all = split_at_space word (next ++ led words) h ∙ ap (λ others. word ∷ others) (split_led next words all.0.word all.1)

some_length : (word rest : List ℕ) → is_tag word ≡ true → (length (word ++ rest) == 0) ≡ false
some_length [] rest h = cc h
some_length (byte ∷ word) rest h = ne_eqb (length (byte ∷ (word ++ rest))) 0 (λ z. cc z)

-- tags with a space between are cut into the same tags
pub tags_again : (tags : List (List ℕ)) → AllByRecursion IsTag tags → tags_between (join_by (λ (tag : List ℕ). tag) (codes " ") tags) ≡ tags
tags_again [] all = refl
tags_again (tag ∷ tags) all = rw (some_length tag (led tags) all.0.some) (split_led tag tags all.0.word all.1)

-- what stands between spaces has none
words_onto : (byte : ℕ) (words : List (List ℕ)) → is_space byte ≡ false → AllByRecursion IsWord words → AllByRecursion IsWord (onto_first byte words)
words_onto byte [] other all = (rw other refl, tt)
words_onto byte (word ∷ words) other all = (rw other all.0, all.1)

words_cut : (text : List ℕ) → AllByRecursion IsWord (slice_split is_space text)
words_cut [] = (refl, tt)
words_cut (byte ∷ text) = elim (cases_Bool (is_space byte)) [
  | inl is ↦ rw is (refl, words_cut text)
  | inr other ↦ rw other (words_onto byte (slice_split is_space text) other (words_cut text))
]

tags_kept : (words : List (List ℕ)) → AllByRecursion IsWord words → AllByRecursion IsTag (filter is_tag words)
tags_kept [] all = tt
tags_kept (word ∷ words) all = elim (cases_Bool (is_tag word)) [
  | inl is ↦ rw is (record { word = all.0; some = is }, tags_kept words all.1)
  | inr other ↦ rw other (tags_kept words all.1)
]

-- the tags of a note are such
pub are_tags : (tags : List ℕ) → AllByRecursion IsTag (tags_in tags)
are_tags tags = tags_kept (slice_split is_space tags) (words_cut tags)
