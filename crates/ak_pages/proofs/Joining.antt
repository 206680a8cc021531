-- Words with a separator between, and the last of them, by the words themselves.
use Rattle.std.specs.Prelude.{◌≡◌, ℕ, suc, ◌-◌, length, slice_get, List, [], ◌∷◌, ◌++◌, map, Option, Some, None}
use Rattle.std.specs.List.{join_by}
use Rattle.std.specs.Option.{option_map, unwrap_or}
use Rattle.std.proofs.Common.{refl, sym, ap, ◌∙◌}
use Rattle.std.proofs.lemmas.List.Folds.{flat_map-map}
use Rattle.std.proofs.lemmas.Option.{slice_get-map}
use Rattle.ak_pages.specs.CardFaces.{last_part}

pub joined_words : {X : Type 0} (f : X → List ℕ) (separator : List ℕ) (xs : List X) → join_by f separator xs ≡ join_by (λ (word : List ℕ). word) separator (map f xs)
joined_words f separator [] = refl
joined_words f separator (x ∷ xs) = ap (λ (rest : List ℕ). f x ++ rest) (sym (flat_map-map (λ (word : List ℕ). separator ++ word) f xs))

same_length : {X : Type 0} (f : X → List ℕ) (xs : List X) → length (map f xs) ≡ length xs
same_length f [] = refl
same_length f (x ∷ xs) = ap suc (same_length f xs)

last_of : {X : Type 0} (f : X → List ℕ) (xs : List X) → slice_get (map f xs) (length (map f xs) - 1) ≡ option_map f (slice_get xs (length xs - 1))
last_of f xs = ap (λ (n : ℕ). slice_get (map f xs) (n - 1)) (same_length f xs) ∙ slice_get-map f xs (length xs - 1)

pub last_word : {X : Type 0} (f : X → List ℕ) (xs : List X) (x : X) → slice_get xs (length xs - 1) ≡ Some x → last_part (map f xs) ≡ f x
last_word f xs x there = ap (λ (found : Option (List ℕ)). unwrap_or found []) (last_of f xs ∙ ap (option_map f) there)

pub no_word : {X : Type 0} (f : X → List ℕ) (xs : List X) → slice_get xs (length xs - 1) ≡ None → last_part (map f xs) ≡ []
no_word f xs none = ap (λ (found : Option (List ℕ)). unwrap_or found []) (last_of f xs ∙ ap (option_map f) none)
