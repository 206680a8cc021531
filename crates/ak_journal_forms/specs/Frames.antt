-- The file of a journal: frames, one for each payload, and then a gate that is not open.
use Rattle.std.specs.Prelude.{◌≡◌, ℕ, zero, suc, ◌+◌, ◌<◌, ◌≤◌, ◌==◌, nat_le, ◌&&◌, if◌then◌else◌, List, [], ◌∷◌, ◌++◌, length, take, drop, ⊤}
use Rattle.std.specs.Int.{w64, to_be_bytes, from_be_bytes}

-- ---- a frame
-- a number as 8 bytes, the greatest first
unfoldable pub length_bytes : ℕ → List ℕ
length_bytes number = to_be_bytes w64 number

-- the number that 8 bytes say
unfoldable pub length_said : List ℕ → ℕ
length_said bytes = from_be_bytes w64 bytes

-- a frame is the byte 1, the payload's length as 8 bytes, the greatest first, and the payload
abbrev pub frame_of : List ℕ → List ℕ
frame_of payload = 1 ∷ (length_bytes (length payload) ++ payload)

-- the bytes behind a gate that is still shut: a frame without its gate, and the next gate, shut
abbrev pub behind_gate : List ℕ → List ℕ
behind_gate payload = length_bytes (length payload) ++ payload ++ 0 ∷ []

-- ---- a gate
-- a gate is open if it is the byte 1 and at least 8 bytes follow it; a file that ends in place of a gate has there one
-- that is not open
abbrev pub IsShut : List ℕ → Type 0
IsShut [] = ⊤
IsShut (gate ∷ behind) = gate ≡ 1 → length behind < 8

-- an open gate, behind which 8 bytes say this length
abbrev pub IsOpen : List ℕ → ℕ → Type 0
IsOpen file size = (behind : List ℕ) × (file ≡ 1 ∷ behind) × (8 ≤ length behind) × (size ≡ length_said (take 8 behind))

-- an open gate with a payload that is cut off
abbrev pub IsCutOff : List ℕ → Type 0
IsCutOff file = (size : ℕ) × IsOpen file size × (length file < 9 + size)

-- ---- a file
-- these bytes are whole frames of these payloads and nothing else; the 8 bytes of each say its length
abbrev pub AreFrames : List (List ℕ) → List ℕ → Type 0
AreFrames [] bytes = bytes ≡ []
AreFrames (payload ∷ payloads) bytes =
    (head : List ℕ) × (rest : List ℕ) × (bytes ≡ 1 ∷ (head ++ (payload ++ rest)))
    × (length head ≡ 8) × (length_said head ≡ length payload) × AreFrames payloads rest

-- the file has frames of these payloads up to this gate, which is not open
pub record StandsTo (payloads : List (List ℕ)) (gate : ℕ) (file : List ℕ) : Type 0 where
  pub within : gate ≤ length file
  pub frames : AreFrames payloads (take gate file)
  pub shut : IsShut (drop gate file)

-- the file stands for these payloads: its frames up to the first gate that is not open
abbrev pub StandsFor : List (List ℕ) → List ℕ → Type 0
StandsFor payloads file = (gate : ℕ) × StandsTo payloads gate file

-- frames up to this gate, which is open, and has a payload that is cut off
pub record IsDamagedAt (gate : ℕ) (file : List ℕ) : Type 0 where
  pub payloads : List (List ℕ)
  pub within : gate ≤ length file
  pub frames : AreFrames payloads (take gate file)
  pub cut_off : IsCutOff (drop gate file)

-- how many bytes the frames of these payloads have
abbrev pub frames_length : List (List ℕ) → ℕ
frames_length [] = 0
frames_length (payload ∷ payloads) = 9 + (length payload + frames_length payloads)

-- frames up to this gate, which is open and has this payload behind it, whole
pub record HasPayloadAt (gate : ℕ) (payload : List ℕ) (file : List ℕ) : Type 0 where
  pub payloads : List (List ℕ)
  pub within : gate + (9 + length payload) ≤ length file
  pub frames : AreFrames payloads (take gate file)
  pub with_it : AreFrames (payloads ++ payload ∷ []) (take (gate + (9 + length payload)) file)

-- ---- the payloads of a file
-- the payload behind a gate
abbrev pub payload_behind : List ℕ → List ℕ
payload_behind behind = take (length_said (take 8 behind)) (drop 8 behind)

-- the payloads of so many frames at most, up to the first gate that is not open
abbrev pub payloads_up_to : ℕ → List ℕ → List (List ℕ)
payloads_up_to zero file = []
payloads_up_to (suc most) [] = []
payloads_up_to (suc most) (gate ∷ behind) =
    if gate == 1 && nat_le 8 (length behind) then
    payload_behind behind ∷ payloads_up_to most (drop (length_said (take 8 behind)) (drop 8 behind))
    else []

-- the payloads of the frames of a file, up to the first gate that is not open
abbrev pub payloads_in : List ℕ → List (List ℕ)
payloads_in file = payloads_up_to (length file) file
