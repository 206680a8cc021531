-- Where the frames of a file stand.
use Rattle.std.proofs.Common.{◌≡◌, ℕ, ◌+◌, ◌≤◌, List, [], ◌∷◌, ◌++◌, length, take, refl, sym, ◌∙◌, ap, subst, arith, append_assoc, length-append}
use Rattle.std.proofs.lemmas.List.{take-take, length-take-le}
use Rattle.ak_journal_forms.specs.Frames.{AreFrames, HasPayloadAt, StandsTo, frames_length}
use Rattle.ak_journal_forms.proofs.Lists.{take_past}

-- frames have the length that they are said to have
pub frames_size : (payloads : List (List ℕ)) (front : List ℕ) → AreFrames payloads front → length front ≡ frames_length payloads
frames_size [] front none = ap length none
frames_size (payload ∷ payloads) front (head, rest, is, eight, said, others) =
    omega (arith, ap length is, length-append head (payload ++ rest), length-append payload rest, eight, frames_size payloads rest others)

pub gate_place : (payloads : List (List ℕ)) (gate : ℕ) (file : List ℕ) → gate ≤ length file → AreFrames payloads (take gate file) → gate ≡ frames_length payloads
gate_place payloads gate file within frames = sym (length-take-le gate file within) ∙ frames_size payloads (take gate file) frames

-- the first of several frames
pub frames_front : (first then : List (List ℕ)) (bytes : List ℕ) → AreFrames (first ++ then) bytes → AreFrames first (take (frames_length first) bytes)
frames_front [] then bytes frames = refl
frames_front (payload ∷ first) then bytes (head, rest, is, eight, said, others) =
    let long = frames_length first in (
      head,
      take long rest,
      ap (λ (l : List ℕ). take (9 + (length payload + long)) l) is
          ∙ take_past (1 ∷ head) (payload ++ rest) (9 + (length payload + long)) (length payload + long) (omega (arith, eight))
          ∙ ap (λ (l : List ℕ). 1 ∷ (head ++ l)) (take_past payload rest (length payload + long) long refl),
      eight,
      said,
      frames_front first then rest others,
    )

pub length-more : (payloads : List (List ℕ)) (payload : List ℕ) (behind : List (List ℕ)) → frames_length (payloads ++ payload ∷ behind) ≡ frames_length payloads + (9 + (length payload + frames_length behind))
length-more [] payload behind = omega arith
length-more (first ∷ payloads) payload behind = omega (arith, length-more payloads payload behind)

pub payload_at : (before behind : List (List ℕ)) (payload : List ℕ) (gate : ℕ) (file : List ℕ) → StandsTo (before ++ payload ∷ behind) gate file → HasPayloadAt (frames_length before) payload file
payload_at before behind payload gate file so =
    let place = frames_length before in
    let ends = gate_place (before ++ payload ∷ behind) gate file so.within so.frames in
    let whole = length-more before payload behind in
    let last : frames_length (before ++ payload ∷ []) ≡ place + (9 + length payload) = omega (arith, length-more before payload []) in
    let first : AreFrames before (take place (take gate file)) = frames_front before (payload ∷ behind) (take gate file) so.frames in
    let both : AreFrames ((before ++ payload ∷ []) ++ behind) (take gate file) = subst (λ (l : List (List ℕ)). AreFrames l (take gate file)) (sym (append_assoc before (payload ∷ []) behind)) so.frames in
    let more : AreFrames (before ++ payload ∷ []) (take (frames_length (before ++ payload ∷ [])) (take gate file)) = frames_front (before ++ payload ∷ []) behind (take gate file) both in
    record {
      payloads = before;
      within = omega (arith, so.within, ends, whole);
      frames = subst (AreFrames before) (take-take place gate file (omega (arith, ends, whole))) first;
      with_it =
          subst (AreFrames (before ++ payload ∷ [])) (take-take (place + (9 + length payload)) gate file (omega (arith, ends, whole)))
          (subst (λ (n : ℕ). AreFrames (before ++ payload ∷ []) (take n (take gate file))) last more);
    }
