-- Lists of frames, one after the other and before what follows.
use Rattle.std.proofs.Common.{◌≡◌, ℕ, ◌+◌, ◌^◌, ◌<◌, List, [], ◌∷◌, ◌++◌, length, take, refl, sym, ◌∙◌, ap, subst, arith, append_assoc, length-append}
use Rattle.std.proofs.lemmas.List.{append-nil, take_at, drop_at}
use Rattle.ak_journal_forms.specs.Frames.{length_bytes, frame_of, AreFrames, IsShut, StandsTo}
use Rattle.ak_journal_forms.proofs.Bytes.{length-length_bytes, said-length_bytes}
use Rattle.ak_journal_forms.proofs.Lists.{take_past, drop_past}

-- a frame, longer by what follows
moved : (head payload rest more : List ℕ) → (1 ∷ (head ++ (payload ++ rest))) ++ more ≡ 1 ∷ (head ++ (payload ++ (rest ++ more)))
moved head payload rest more =
    ap (λ (l : List ℕ). 1 ∷ l) (append_assoc head (payload ++ rest) more ∙ ap (λ (l : List ℕ). head ++ l) (append_assoc payload rest more))

pub frames_append : (xs ys : List (List ℕ)) (front back : List ℕ) → AreFrames xs front → AreFrames ys back → AreFrames (xs ++ ys) (front ++ back)
frames_append [] ys front back first then = subst (λ (l : List ℕ). AreFrames ys (l ++ back)) (sym first) then
frames_append (x ∷ xs) ys front back (head, rest, is, size, said, others) then =
    (head, rest ++ back, ap (λ (l : List ℕ). l ++ back) is ∙ moved head x rest back, size, said, frames_append xs ys rest back others then)

-- one frame
pub frame_alone : (payload : List ℕ) → length payload < 2 ^ 64 → AreFrames (payload ∷ []) (frame_of payload)
frame_alone payload small = (
  length_bytes (length payload),
  [],
  ap (λ (l : List ℕ). 1 ∷ (length_bytes (length payload) ++ l)) (sym (append-nil payload)),
  length-length_bytes (length payload),
  said-length_bytes (length payload) small,
  refl,
)

-- a file of frames and a shut gate
pub stands : (payloads : List (List ℕ)) (front rest : List ℕ) (gate : ℕ) → length front ≡ gate → AreFrames payloads front → IsShut rest → StandsTo payloads gate (front ++ rest)
stands payloads front rest gate size frames shut = record {
  within = omega (arith, length-append front rest, size);
  frames = subst (AreFrames payloads) (sym (take_at front rest gate size)) frames;
  shut = subst IsShut (sym (drop_at front rest gate size)) shut;
}

-- frames before a file
pub stands_before : (payloads more : List (List ℕ)) (front rest : List ℕ) (gate : ℕ) → AreFrames payloads front → StandsTo more gate rest → StandsTo (payloads ++ more) (length front + gate) (front ++ rest)
stands_before payloads more front rest gate frames behind = record {
  within = omega (arith, length-append front rest, behind.within);
  frames = subst (AreFrames (payloads ++ more)) (sym (take_past front rest (length front + gate) gate refl)) (frames_append payloads more front (take gate rest) frames behind.frames);
  shut = subst IsShut (sym (drop_past front rest (length front + gate) gate refl)) behind.shut;
}
