-- The laws of the moments of a disk in memory, which its impl of `Disk` takes.
use Rattle.std.proofs.Common.{ℕ, ◌≤◌, List, [], ◌∷◌, length, refl, inl, inr, arith}
use Rattle.ak_disks.specs.Images.{Event, MayLeave, MayHaveLeft, file_after}

-- the file as it is read may be left
pub leaves_file : (first : List ℕ) (events : List Event) → MayLeave first events (file_after first events)
leaves_file first [] = refl
leaves_file first (event ∷ earlier) = inl refl

-- what may be left now might have been left since any moment
pub counts_now : (first : List ℕ) (events : List Event) (since : ℕ) (image : List ℕ) → MayLeave first events image → MayHaveLeft first events since image
counts_now first [] since image left = left
counts_now first (event ∷ earlier) since image left = inl left

-- since this moment there is no other
pub only_now : (first : List ℕ) (events : List Event) (image : List ℕ) → MayHaveLeft first events (length events) image → MayLeave first events image
only_now first [] image left = left
only_now first (event ∷ earlier) image (inl left) = left
only_now first (event ∷ earlier) image (inr past) = let later : ◌≤◌ (length (event ∷ earlier)) (length earlier) = past.0 in absurd (omega arith)
