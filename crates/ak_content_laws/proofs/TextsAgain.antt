-- Fields and tags are read back as they were given.
use Rattle.std.specs.Prelude.{◌≡◌, ◌==◌, ◌||◌, ℕ, pos, negsuc, Bool, true, false, not, cond, if◌then◌else◌, nat_lt, is_some, List, [], ◌∷◌, ◌++◌, filter, find, length, map, Option, Some, None}
use Rattle.std.specs.Cmp.Lexicographic.{pointwise}
use Rattle.std.specs.List.{AllByRecursion, join_with_byte, list_any, onto_first, slice_split}
use Rattle.std.specs.Option.{option_map, option_or}
use Rattle.std.proofs.Common.{arith, refl, ap, ◌∙◌}
use Rattle.std.proofs.lemmas.List.Splits.{slice_split-cons_no, slice_split-cons_yes}
use Rattle.ak_base.proofs.Optional.{both_none}
use Rattle.ak_base.specs.NoteTexts.{fields_in, is_tag, tags_in}
use Rattle.ak_base.specs.declared.errors.RowFault.TheVariants.{BadCode, TooLong}
use Rattle.ak_base.specs.declared.heads.Tag.{Tag}
use Rattle.ak_edit_calls.specs.NoteTags.{joined_tags, spaced, stored_tags}
use Rattle.ak_merge.proofs.EditFacts.{held_none, true_false}
use Rattle.ak_merge.proofs.TagLaws.{each_taken, tags_are_united}
use Rattle.ak_merge.specs.Holdings.{has_tag, tag_usn}
use Rattle.ak_merge.specs.Tags.{has_name, tags_taken}
use Rattle.ak_notes.specs.GivenTexts.{field_fault, fields_fault, given_fault, is_space_or_less, tag_fault, tags_fault}

-- ---- words between bytes
or_first : (a b : Bool) → (a || b) ≡ false → a ≡ false
or_first true b is = is
or_first false b is = refl

or_second : (a b : Bool) → (a || b) ≡ false → b ≡ false
or_second true b is = true_false is
or_second false b is = is

module _ (byte : ℕ) (own : (byte == byte) ≡ true) where
  abbrev is_it : ℕ → Bool
  is_it other = other == byte

  -- a word without the byte
  abbrev IsWord : List ℕ → Type 0
  IsWord word = list_any is_it word ≡ false

  pub split_at : (word rest : List ℕ) → IsWord word → slice_split is_it (word ++ (byte ∷ rest)) ≡ word ∷ slice_split is_it rest
  split_at [] rest none = slice_split-cons_yes is_it byte rest own
  split_at (other ∷ word) rest none =
      slice_split-cons_no is_it other (word ++ (byte ∷ rest)) (or_first (is_it other) (list_any is_it word) none) ∙ ap (onto_first other) (split_at word rest (or_second (is_it other) (list_any is_it word) none))

  split_alone : (word : List ℕ) → IsWord word → slice_split is_it word ≡ word ∷ []
  split_alone [] none = refl
  split_alone (other ∷ word) none =
      slice_split-cons_no is_it other word (or_first (is_it other) (list_any is_it word) none) ∙ ap (onto_first other) (split_alone word (or_second (is_it other) (list_any is_it word) none))

  -- words that were joined are cut into the same words
  pub split_joined : (word : List ℕ) (words : List (List ℕ)) → AllByRecursion IsWord (word ∷ words) → slice_split is_it (join_with_byte byte (word ∷ words)) ≡ word ∷ words
  split_joined word [] all = split_alone word all.0
  split_joined word (next ∷ words) all = split_at word (join_with_byte byte (next ∷ words)) all.0 ∙ ap (λ (parts : List (List ℕ)). word ∷ parts) (split_joined next words all.1)

-- a test that finds no fault does not hold, and neither do those after it
no_fault : {X : Type 0} (b : Bool) (x : X) (rest : Option X) → (if b then Some x else rest) ≡ None → (b ≡ false) × (rest ≡ None)
no_fault true x rest good = held_none good
no_fault false x rest good = (refl, good)

-- ---- fields
fields_good : (fields : List (List ℕ)) → fields_fault fields ≡ None → AllByRecursion (λ (field : List ℕ). list_any (λ byte. byte == 31) field ≡ false) fields
fields_good [] good = tt
fields_good (field ∷ fields) good =
    let both = both_none (field_fault field) (fields_fault fields) good in
    ((no_fault (list_any (λ byte. byte == 31) field) (BadCode 6 (pos 0)) None both.0).0, fields_good fields both.1)

-- fields that a call accepts, of which there are some, are read back
pub fields_again : (fields tags : List (List ℕ)) → given_fault fields tags ≡ None → (length fields == 0) ≡ false → fields_in (join_with_byte 31 fields) ≡ fields
fields_again [] tags good some = true_false some
fields_again (field ∷ fields) tags good some =
    split_joined 31 refl field fields (fields_good (field ∷ fields) (both_none (tags_fault tags) (fields_fault (field ∷ fields)) good).1)

-- ---- tags
-- a tag that is stored has a name without spaces, and not the empty one
pub record IsStored (name : List ℕ) : Type 0 where
  pub word : list_any (λ byte. byte == 32) name ≡ false
  pub some : is_tag name ≡ true

no_space : (name : List ℕ) → list_any is_space_or_less name ≡ false → list_any (λ byte. byte == 32) name ≡ false
no_space [] none = refl
no_space (byte ∷ name) none =
    let one : is_space_or_less byte ≡ false = or_first (is_space_or_less byte) (list_any is_space_or_less name) none in
    let rest : list_any (λ byte. byte == 32) name ≡ false = no_space name (or_second (is_space_or_less byte) (list_any is_space_or_less name) none) in
    let other : (byte == 32) ≡ false = grind (arith, one) in
    ap (λ (b : Bool). b || list_any (λ byte. byte == 32) name) other ∙ rest

tag_good : (tag : List ℕ) → tag_fault tag ≡ None → IsStored tag
tag_good tag good =
    let some = no_fault (length tag == 0) (BadCode 5 (pos 0)) (if nat_lt 512 (length tag) then Some (TooLong 5 (length tag)) else if list_any is_space_or_less tag then Some (BadCode 5 (pos 0)) else None) good in
    let short = no_fault (nat_lt 512 (length tag)) (TooLong 5 (length tag)) (if list_any is_space_or_less tag then Some (BadCode 5 (pos 0)) else None) some.1 in
    record { word = no_space tag (no_fault (list_any is_space_or_less tag) (BadCode 5 (pos 0)) None short.1).0; some = ap not some.0 }

tags_good : (tags : List (List ℕ)) → tags_fault tags ≡ None → AllByRecursion IsStored tags
tags_good [] good = tt
tags_good (tag ∷ tags) good = let both = both_none (tag_fault tag) (tags_fault tags) good in (tag_good tag both.0, tags_good tags both.1)

-- the words of the stored text are the names, and an empty one at its end
spaced_words : (tags : List Tag) → AllByRecursion (λ (tag : Tag). IsStored tag.name) tags → filter is_tag (slice_split (λ byte. byte == 32) (spaced tags)) ≡ map (λ (tag : Tag). tag.name) tags
spaced_words [] all = refl
spaced_words (tag ∷ tags) all =
    ap (filter is_tag) (split_at 32 refl tag.name (spaced tags) all.0.word)
    ∙ ap (λ (b : Bool). cond b (tag.name ∷ filter is_tag (slice_split (λ byte. byte == 32) (spaced tags))) (filter is_tag (slice_split (λ byte. byte == 32) (spaced tags)))) all.0.some
    ∙ ap (λ (names : List (List ℕ)). tag.name ∷ names) (spaced_words tags all.1)

joined_words : (tags : List Tag) → AllByRecursion (λ (tag : Tag). IsStored tag.name) tags → tags_in (joined_tags tags) ≡ map (λ (tag : Tag). tag.name) tags
joined_words [] all = refl
joined_words (tag ∷ tags) all =
    ap (filter is_tag) (slice_split-cons_yes (λ byte. byte == 32) 32 (spaced (tag ∷ tags)) refl) ∙ spaced_words (tag ∷ tags) all

named_held : (tags : List Tag) (name : List ℕ) → has_name (map (λ (tag : Tag). tag.name) tags) name ≡ has_tag tags name
named_held [] name = refl
named_held (tag ∷ tags) name =
    elim (pointwise ◌==◌ tag.name name) as (λ (b : Bool). (b || has_name (map (λ (tag : Tag). tag.name) tags) name) ≡ is_some (option_map (λ (t : Tag). t.usn) (cond b (Some tag) (find (λ (t : Tag). pointwise ◌==◌ t.name name) tags)))) [
      | true ↦ refl
      | false ↦ named_held tags name
    ]

has_or : (names : List (List ℕ)) (name : List ℕ) → is_some (option_or (tag_usn [] name) (if has_name names name then Some (negsuc 0) else None)) ≡ has_name names name
has_or names name = elim (has_name names name) as (λ (b : Bool). is_some (option_or (tag_usn [] name) (if b then Some (negsuc 0) else None)) ≡ b) [ true ↦ refl | false ↦ refl ]

-- tags that a call accepts are read back as their set
pub tags_again : (fields tags : List (List ℕ)) → given_fault fields tags ≡ None → (name : List ℕ) → has_name (tags_in (stored_tags tags)) name ≡ has_name tags name
tags_again fields tags good name =
    let stored : AllByRecursion (λ (tag : Tag). IsStored tag.name) (tags_taken (negsuc 0) tags []) =
    each_taken (λ (tag : Tag). IsStored tag.name) (negsuc 0) tags [] (tags_good tags (both_none (tags_fault tags) (fields_fault fields) good).0) tt in
    ap (λ (names : List (List ℕ)). has_name names name) (joined_words (tags_taken (negsuc 0) tags []) stored)
    ∙ named_held (tags_taken (negsuc 0) tags []) name
    ∙ ap is_some (tags_are_united (negsuc 0) tags [] name)
    ∙ has_or tags name
