-- A status in the place of another, by the counts of three ends.
use Rattle.std.specs.Prelude.{◌≡◌, ◌⊎◌, ℕ}
use Rattle.std.proofs.Common.{◌∙◌, inl, inr}
use Rattle.ak_cli.specs.Programs.{Tells}

-- the last of three is told first
pub tells_first : {A B C : Type 0} (wanted read kept status : ℕ) → (read ≡ wanted) ⊎ (read ≡ 4) × A → (kept ≡ read) ⊎ (kept ≡ 6) × B
    → (status ≡ kept) ⊎ (status ≡ 5) × C → Tells wanted status
tells_first wanted read kept status (inl same) (inl kept_same) (inl is) = inl (is ∙ kept_same ∙ same)
tells_first wanted read kept status (inr (four, rose)) (inl kept_same) (inl is) = inr (inr (inr (is ∙ kept_same ∙ four)))
tells_first wanted read kept status input (inr (six, rose)) (inl is) = inr (inr (inl (is ∙ six)))
tells_first wanted read kept status input keeper (inr (five, rose)) = inr (inl five)

-- the keeper's is told, if the output's is not
pub keeper_told : {C : Type 0} (kept status : ℕ) → kept ≡ 6 → (status ≡ kept) ⊎ (status ≡ 5) × C → (status ≡ 6) ⊎ (status ≡ 5)
keeper_told kept status six (inl is) = inl (is ∙ six)
keeper_told kept status six (inr told) = inr told.0

-- and the input's, if neither is
pub input_told : {B C : Type 0} (read kept status : ℕ) → read ≡ 4 → (kept ≡ read) ⊎ (kept ≡ 6) × B → (status ≡ kept) ⊎ (status ≡ 5) × C
    → (status ≡ 4) ⊎ (status ≡ 5) ⊎ (status ≡ 6)
input_told read kept status four (inl kept_same) (inl is) = inl (is ∙ kept_same ∙ four)
input_told read kept status four (inr told) (inl is) = inr (inr (is ∙ told.0))
input_told read kept status four keeper (inr told) = inr (inl told.0)
