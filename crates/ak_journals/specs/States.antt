-- What the file of a journal and its images hold.
use Rattle.std.specs.Prelude.{◌≡◌, ◌⊎◌, ℕ, ◌≤◌, Bool, true, List, [], ◌∷◌, ◌++◌, length, take, Option, Some, None}
use Rattle.ak_disks.specs.Disks.{Only}
use Rattle.ak_journal_forms.specs.Frames.{AreFrames, StandsFor, payloads_in}

-- it stands for these payloads, or for the one under way too
abbrev pub StandsWith : Option (List ℕ) → List (List ℕ) → List ℕ → Type 0
StandsWith None payloads image = StandsFor payloads image
StandsWith (Some payload) payloads image = StandsFor payloads image ⊎ StandsFor (payloads ++ payload ∷ []) image

-- an image has the same front up to the gate, and stands for these payloads, or for the one under way too
pub record IsSpared (under_way : Option (List ℕ)) (payloads : List (List ℕ)) (gate : ℕ) (front image : List ℕ) : Type 0 where
  pub within : gate ≤ length image
  pub same : take gate image ≡ front
  pub stands : StandsWith under_way payloads image

-- the payloads that are kept: those of the frames before the gate
abbrev pub kept_before : ℕ → List ℕ → List (List ℕ)
kept_before gate file = payloads_in (take gate file)

-- the file has whole frames up to the gate; each image has them too. If it is ready, behind them stands a shut gate
-- and nothing else, all of it on the disk.
pub record InOrder (gate : ℕ) (ready : Bool) (under_way : Option (List ℕ)) (may_leave : List ℕ → Type 0) (file : List ℕ) : Type 0 where
  pub within : gate ≤ length file
  pub frames : AreFrames (kept_before gate file) (take gate file)
  pub each : (image : List ℕ) → may_leave image → IsSpared under_way (kept_before gate file) gate (take gate file) image
  pub shut : ready ≡ true → file ≡ take gate file ++ 0 ∷ []
  pub durable : ready ≡ true → Only may_leave file
