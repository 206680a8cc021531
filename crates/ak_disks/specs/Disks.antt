-- What the calls of a disk make of its file, and what a crash between two syncs may make of it.
use Rattle.std.specs.Prelude.{◌≡◌, ◌⊎◌, ◌↔◌, ℕ, ◌+◌, ◌<◌, ◌≤◌, max, List, ◌++◌, length, take, drop, Option, Some, None}

-- the file with these bytes over what stood from this place on
abbrev pub overwritten : ℕ → List ℕ → List ℕ → List ℕ
overwritten place bytes file = take place file ++ bytes ++ drop (place + length bytes) file

-- after a write of so many bytes that a crash cut short, or that was refused: any bytes in its range and past the
-- old end, a length from the old one to the end of the range, and the same bytes elsewhere
pub record IsTorn (place count : ℕ) (old new : List ℕ) : Type 0 where
  pub before : take place new ≡ take place old
  pub behind : drop (place + count) new ≡ drop (place + count) old
  pub no_shorter : length old ≤ length new
  pub no_longer : length new ≤ max (length old) (place + count)

-- after a cut that a crash may have undone, or that was refused: the old length or the new one
abbrev pub IsCutOrWhole : ℕ → List ℕ → List ℕ → Type 0
IsCutOrWhole size old new = (new ≡ old) ⊎ (new ≡ take size old)

-- what a read from this place gives: so many bytes that stand there, at the front of `into`; none, into room for
-- some, exactly where no byte stands at the place
pub record IsRead (file : List ℕ) (place count : ℕ) (into : List ℕ) : Type 0 where
  pub bytes : take count into ≡ take count (drop place file)
  pub ended : 0 < length into → ((count ≡ 0) ↔ (length file ≤ place))

-- neither content is told, or both are, and they are related so
abbrev pub Becomes : (List ℕ → List ℕ → Type 0) → Option (List ℕ) → Option (List ℕ) → Type 0
Becomes step None new = new ≡ None
Becomes step (Some old) new = (file : List ℕ) × (new ≡ Some file) × step old file

-- each image that may be left now comes by the step from one that might have been left before
abbrev pub Follows : (List ℕ → List ℕ → Type 0) → (List ℕ → Type 0) → (List ℕ → Type 0) → Type 0
Follows step old new = (image : List ℕ) → new image → (was : List ℕ) × old was × step was image

-- no image may be left that might not have been left before
abbrev pub NoMore : (List ℕ → Type 0) → (List ℕ → Type 0) → Type 0
NoMore old new = (image : List ℕ) → new image → old image

-- a crash leaves this file and nothing else
abbrev pub Only : (List ℕ → Type 0) → List ℕ → Type 0
Only may_leave file = (image : List ℕ) → may_leave image → image ≡ file

-- time went on: a crash since an earlier moment might have left what it might have left before, or what one may leave now
pub record Elapses (before now : ℕ) (had_left has_left : ℕ → List ℕ → Type 0) (may_leave : List ℕ → Type 0) : Type 0 where
  pub later : before ≤ now
  pub nothing_else : (since : ℕ) (image : List ℕ) → since ≤ before → has_left since image → had_left since image ⊎ may_leave image
  pub keeps : (since : ℕ) (image : List ℕ) → since ≤ before → had_left since image → has_left since image
