-- What a crash between two syncs makes of the end of a journal.
use Rattle.std.proofs.Common.{◌≡◌, ◌≢◌, ℕ, ◌+◌, ◌^◌, ◌<◌, ◌≤◌, List, [], ◌∷◌, ◌++◌, length, take, drop, get_or, sym, ◌∙◌, ap, subst, arith, append_assoc, length-append, length-drop, take-append-drop}
use Rattle.std.proofs.lemmas.List.{take-take, get_or-take, drop_more, length-take-le}
use Rattle.ak_disks.specs.Disks.{IsTorn}
use Rattle.ak_journal_forms.specs.Frames.{length_bytes, frame_of, behind_gate, AreFrames, IsShut, StandsTo}
use Rattle.ak_journal_forms.proofs.Bytes.{length-length_bytes}
use Rattle.ak_journal_forms.proofs.FrameLists.{frames_append, frame_alone, stands}

-- a gate that is not the byte 1 is shut
pub shut_by : (gate : ℕ) (behind : List ℕ) → gate ≢ 1 → IsShut (gate ∷ behind)
shut_by gate behind other is = absurd (other is)

-- a lone byte is no open gate
pub shut_alone : (rest : List ℕ) → length rest ≤ 1 → IsShut rest
shut_alone [] short = tt
shut_alone (gate ∷ behind) short = λ is. omega arith

-- the same frames, and a shut gate
pub stands_again : (payloads : List (List ℕ)) (gate : ℕ) (file image : List ℕ) → StandsTo payloads gate file → take gate image ≡ take gate file → length file ≤ length image → IsShut (drop gate image) → StandsTo payloads gate image
stands_again payloads gate file image was same long shut = record {
  within = omega (arith, was.within, long);
  frames = subst (AreFrames payloads) (sym same) was.frames;
  shut = shut;
}

module _ (gate count : ℕ) (file image : List ℕ) (within : gate < length file) (torn : IsTorn (gate + 1) count file image) where
  -- a write behind a gate keeps the frames before it
  pub front_kept : take gate image ≡ take gate file
  front_kept =
      sym (take-take gate (gate + 1) image (omega arith)) ∙ ap (λ (l : List ℕ). take gate l) torn.before ∙ take-take gate (gate + 1) file (omega arith)

  -- and the gate
  pub gate_kept : get_or image gate 0 ≡ get_or file gate 0
  gate_kept =
      sym (get_or-take (gate + 1) image gate 0 (omega arith)) ∙ ap (λ (l : List ℕ). get_or l gate 0) torn.before ∙ get_or-take (gate + 1) file gate 0 (omega arith)

-- a write behind a gate leaves it shut in every image
pub write_behind : (payloads : List (List ℕ)) (gate count : ℕ) (file image : List ℕ) → StandsTo payloads gate file → gate < length file → get_or file gate 0 ≢ 1 → IsTorn (gate + 1) count file image → StandsTo payloads gate image
write_behind payloads gate count file image was within closed torn =
    let long : length file ≤ length image = torn.no_shorter in
    let split : drop gate image ≡ get_or image gate 0 ∷ drop (gate + 1) image = drop_more image gate 0 (omega (arith, long)) in
    let still : get_or image gate 0 ≢ 1 = λ is. closed (sym (gate_kept gate count file image within torn) ∙ is) in
    stands_again payloads gate file image was (front_kept gate count file image within torn) long
    (subst IsShut (sym split) (shut_by (get_or image gate 0) (drop (gate + 1) image) still))

pub length-behind_gate : (payload : List ℕ) → length (behind_gate payload) ≡ 9 + length payload
length-behind_gate payload =
    omega (arith, length-append (length_bytes (length payload) ++ payload) (0 ∷ []), length-append (length_bytes (length payload)) payload, length-length_bytes (length payload))

module _ (payloads : List (List ℕ)) (payload : List ℕ) (gate : ℕ) (file image : List ℕ) (was : StandsTo payloads gate file) (behind : drop (gate + 1) file ≡ behind_gate payload) (torn : IsTorn gate 1 file image) where
  longer : gate < length file
  longer = omega (arith, ap length behind, length-behind_gate payload, length-drop (gate + 1) file)

  split : drop gate image ≡ get_or image gate 0 ∷ behind_gate payload
  split =
      drop_more image gate 0 (omega (arith, longer, torn.no_shorter)) ∙ ap (λ (l : List ℕ). get_or image gate 0 ∷ l) (torn.behind ∙ behind)

  -- any other byte at the gate leaves it shut
  pub gate_shut : get_or image gate 0 ≢ 1 → StandsTo payloads gate image
  gate_shut other =
      stands_again payloads gate file image was torn.before torn.no_shorter (subst IsShut (sym split) (shut_by (get_or image gate 0) (behind_gate payload) other))

  size : length (take gate file) ≡ gate
  size = length-take-le gate file was.within

  -- the byte 1 opens the payload behind it whole
  whole : get_or image gate 0 ≡ 1 → image ≡ (take gate file ++ frame_of payload) ++ 0 ∷ []
  whole is =
      sym (take-append-drop gate image)
      ∙ ap (λ (l : List ℕ). l ++ drop gate image) torn.before
      ∙ ap (λ (l : List ℕ). take gate file ++ l) (split ∙ ap (λ (b : ℕ). b ∷ behind_gate payload) is)
      ∙ sym (append_assoc (take gate file) (frame_of payload) (0 ∷ []))

  pub gate_open : length payload < 2 ^ 64 → get_or image gate 0 ≡ 1 → StandsTo (payloads ++ payload ∷ []) (gate + (9 + length payload)) image
  gate_open small is =
      let long : length (take gate file ++ frame_of payload) ≡ gate + (9 + length payload) =
      omega (arith, length-append (take gate file) (frame_of payload), size, length-append (length_bytes (length payload)) payload, length-length_bytes (length payload)) in
      subst (StandsTo (payloads ++ payload ∷ []) (gate + (9 + length payload))) (sym (whole is))
      (stands (payloads ++ payload ∷ []) (take gate file ++ frame_of payload) (0 ∷ []) (gate + (9 + length payload)) long
      (frames_append payloads (payload ∷ []) (take gate file) (frame_of payload) was.frames (frame_alone payload small)) (shut_by 0 [] (λ none. omega arith)))

-- a lone byte at the end is no open gate, whichever it is
pub lone_byte : (payloads : List (List ℕ)) (gate : ℕ) (file image : List ℕ) → StandsTo payloads gate file → length file ≡ gate → IsTorn gate 1 file image → StandsTo payloads gate image
lone_byte payloads gate file image was ends torn =
    stands_again payloads gate file image was torn.before torn.no_shorter (shut_alone (drop gate image) (omega (arith, length-drop gate image, torn.no_longer, ends)))
