-- What the steps of a commit and of a mark make of a file in order.
use Rattle.std.proofs.Common.{◌≡◌, ◌≢◌, inl, inr, ⊎_elim, ℕ, ◌+◌, ◌^◌, ◌<◌, ◌≤◌, Bool, true, List, [], ◌∷◌, ◌++◌, length, get_or, take, drop, refl, sym, ◌∙◌, ap, subst, arith, append_assoc, length-append, Option, Some, None}
use Rattle.std.proofs.lemmas.Bool.{cases_eq}
use Rattle.std.proofs.lemmas.List.{append-nil, take_at, drop_at, take_all, drop_all, take-take, get_or_at, length-take-le}
use Rattle.ak_disks.specs.Disks.{IsTorn, Only, overwritten}
use Rattle.ak_disks.proofs.Torn.{torn_whole}
use Rattle.ak_journal_forms.specs.Frames.{AreFrames, StandsTo, StandsFor, behind_gate, frame_of, length_bytes, payloads_in}
use Rattle.ak_journal_forms.proofs.Bytes.{length-length_bytes}
use Rattle.ak_journal_forms.proofs.FrameLists.{frame_alone, frames_append, stands}
use Rattle.ak_journal_forms.proofs.Images.{write_behind, front_kept, gate_open, gate_shut, lone_byte, shut_alone}
use Rattle.ak_journal_forms.proofs.Readings.{payloads_in_frames}
use Rattle.ak_journals.specs.States.{StandsWith, IsSpared, InOrder, kept_before}

-- the front is the same: so are the payloads that are kept
pub same_order : (gate : ℕ) (ready : Bool) (not_ready : ready ≡ true → ⊥) (under_way : Option (List ℕ)) (file file' : List ℕ) (images : List ℕ → Type 0) → take gate file' ≡ take gate file → gate ≤ length file' → AreFrames (kept_before gate file) (take gate file)
    → ((image : List ℕ) → images image → IsSpared under_way (kept_before gate file) gate (take gate file) image) → InOrder gate ready under_way images file'
same_order gate ready not_ready under_way file file' images same within frames each = record {
  within = within;
  frames = subst (λ (front : List ℕ). AreFrames (payloads_in front) front) (sym same) frames;
  each = λ image left. subst (λ (front : List ℕ). IsSpared under_way (payloads_in front) gate front image) (sym same) (each image left);
  shut = λ is. absurd (not_ready is);
  durable = λ is. absurd (not_ready is);
}

module _ (gate : ℕ) (payload : List ℕ) (file : List ℕ) (within : gate ≤ length file) (frames : AreFrames (kept_before gate file) (take gate file)) (shut : file ≡ take gate file ++ 0 ∷ []) where
  front : List ℕ
  front = take gate file

  keeps : List (List ℕ)
  keeps = kept_before gate file

  size : length (take gate file) ≡ gate
  size = length-take-le gate file within

  pub long : length file ≡ gate + 1
  long = omega (arith, ap length shut, length-append (take gate file) (0 ∷ []), size)

  -- the gate of a ready file
  closed : get_or file gate 0 ≡ 0
  closed = ap (λ (l : List ℕ). get_or l gate 0) shut ∙ get_or_at (take gate file) 0 [] 0 gate size

  not_one : get_or file gate 0 ≢ 1
  not_one is = omega (arith, closed)

  pub ready_stands : StandsTo (kept_before gate file) gate file
  ready_stands = subst (StandsTo (kept_before gate file) gate) (sym shut) (stands (kept_before gate file) (take gate file) (0 ∷ []) gate size frames (shut_alone (0 ∷ []) (omega arith)))

  -- behind the gate was written: the image keeps the frames
  pub staged_spared : (count : ℕ) (image : List ℕ) → IsTorn (gate + 1) count file image → IsSpared (Some payload) (kept_before gate file) gate (take gate file) image
  staged_spared count image torn =
      let so = write_behind (kept_before gate file) gate count file image ready_stands (omega (arith, long)) not_one torn in
      record { within = so.within; same = front_kept gate count file image (omega (arith, long)) torn; stands = inl (gate, so) }

  staged : List ℕ
  staged = overwritten (gate + 1) (behind_gate payload) file

  staged_torn : IsTorn (gate + 1) (length (behind_gate payload)) file (overwritten (gate + 1) (behind_gate payload) file)
  staged_torn = torn_whole (gate + 1) (behind_gate payload) file (omega (arith, long))

  pub staged_within : gate ≤ length (overwritten (gate + 1) (behind_gate payload) file)
  staged_within = let longer : length file ≤ length (overwritten (gate + 1) (behind_gate payload) file) = staged_torn.no_shorter in omega (arith, long, longer)

  staged_stands : StandsTo (kept_before gate file) gate (overwritten (gate + 1) (behind_gate payload) file)
  staged_stands = write_behind (kept_before gate file) gate (length (behind_gate payload)) file (overwritten (gate + 1) (behind_gate payload) file) ready_stands (omega (arith, long)) not_one staged_torn

  pub staged_front : take gate (overwritten (gate + 1) (behind_gate payload) file) ≡ take gate file
  staged_front = front_kept gate (length (behind_gate payload)) file (overwritten (gate + 1) (behind_gate payload) file) (omega (arith, long)) staged_torn

  staged_is : overwritten (gate + 1) (behind_gate payload) file ≡ file ++ behind_gate payload
  staged_is =
      ap (λ (l : List ℕ). l ++ behind_gate payload ++ drop (gate + 1 + length (behind_gate payload)) file) (take_all (gate + 1) file (omega (arith, long)))
      ∙ ap (λ (l : List ℕ). file ++ behind_gate payload ++ l) (drop_all (gate + 1 + length (behind_gate payload)) file (omega (arith, long)))
      ∙ append-nil (file ++ behind_gate payload)

  staged_behind : drop (gate + 1) (overwritten (gate + 1) (behind_gate payload) file) ≡ behind_gate payload
  staged_behind = ap (λ (l : List ℕ). drop (gate + 1) l) staged_is ∙ drop_at file (behind_gate payload) (gate + 1) long

  -- the gate was written: the image has the payload too, or not
  pub opened_spared : length payload < 2 ^ 64 → (image : List ℕ) → IsTorn gate 1 (overwritten (gate + 1) (behind_gate payload) file) image → IsSpared (Some payload) (kept_before gate file) gate (take gate file) image
  opened_spared small image torn =
      let longer : length (overwritten (gate + 1) (behind_gate payload) file) ≤ length image = torn.no_shorter in
      record {
        within = omega (arith, staged_within, longer);
        same = torn.before ∙ staged_front;
        stands =
            ⊎_elim
            (λ is. inr (gate + (9 + length payload), gate_open (kept_before gate file) payload gate (overwritten (gate + 1) (behind_gate payload) file) image staged_stands staged_behind torn small is))
            (λ other. inl (gate, gate_shut (kept_before gate file) payload gate (overwritten (gate + 1) (behind_gate payload) file) image staged_stands staged_behind torn other)) (cases_eq (get_or image gate 0) 1);
      }

  -- the file with the payload
  pub opened_is : overwritten gate (1 ∷ []) (overwritten (gate + 1) (behind_gate payload) file) ≡ (take gate file ++ frame_of payload) ++ 0 ∷ []
  opened_is =
      ap (λ (l : List ℕ). l ++ (1 ∷ []) ++ drop (gate + 1) (overwritten (gate + 1) (behind_gate payload) file)) staged_front
      ∙ ap (λ (l : List ℕ). take gate file ++ (1 ∷ []) ++ l) staged_behind
      ∙ append_assoc (take gate file) (1 ∷ []) (behind_gate payload)
      ∙ sym (append_assoc (take gate file) (frame_of payload) (0 ∷ []))

  pub opened_size : length (take gate file ++ frame_of payload) ≡ gate + (9 + length payload)
  opened_size = omega (arith, length-append (take gate file) (frame_of payload), size, length-append (length_bytes (length payload)) payload, length-length_bytes (length payload))

  opened_front : take (gate + (9 + length payload)) (overwritten gate (1 ∷ []) (overwritten (gate + 1) (behind_gate payload) file)) ≡ take gate file ++ frame_of payload
  opened_front = ap (λ (l : List ℕ). take (gate + (9 + length payload)) l) opened_is ∙ take_at (take gate file ++ frame_of payload) (0 ∷ []) (gate + (9 + length payload)) opened_size

  module _ (small : length payload < 2 ^ 64) where
    pub opened_frames : AreFrames (kept_before gate file ++ payload ∷ []) (take gate file ++ frame_of payload)
    opened_frames = frames_append (kept_before gate file) (payload ∷ []) (take gate file) (frame_of payload) frames (frame_alone payload small)

    pub opened_keeps : kept_before (gate + (9 + length payload)) (overwritten gate (1 ∷ []) (overwritten (gate + 1) (behind_gate payload) file)) ≡ kept_before gate file ++ payload ∷ []
    opened_keeps = ap payloads_in opened_front ∙ payloads_in_frames (kept_before gate file ++ payload ∷ []) (take gate file ++ frame_of payload) opened_frames

-- frames and a shut gate, all of it on the disk
module _ (gate : ℕ) (payloads : List (List ℕ)) (front file : List ℕ) (size : length front ≡ gate) (frames : AreFrames payloads front) (is : file ≡ front ++ 0 ∷ []) where
  front_is : take gate file ≡ front
  front_is = ap (λ (l : List ℕ). take gate l) is ∙ take_at front (0 ∷ []) gate size

  pub ready_keeps : kept_before gate file ≡ payloads
  ready_keeps = ap payloads_in front_is ∙ payloads_in_frames payloads front frames

  frames_there : AreFrames (kept_before gate file) (take gate file)
  frames_there = subst (λ (l : List ℕ). AreFrames (payloads_in l) l) (sym front_is) (subst (λ (ps : List (List ℕ)). AreFrames ps front) (sym (payloads_in_frames payloads front frames)) frames)

  shut_there : file ≡ take gate file ++ 0 ∷ []
  shut_there = is ∙ ap (λ (l : List ℕ). l ++ 0 ∷ []) (sym front_is)

  within_there : gate ≤ length file
  within_there = omega (arith, ap length is, length-append front (0 ∷ []), size)

  pub ready_order : (images : List ℕ → Type 0) → Only images file → InOrder gate true None images file
  ready_order images only = record {
    within = within_there;
    frames = frames_there;
    each = λ image left.
        subst (λ (l : List ℕ). IsSpared None (kept_before gate file) gate (take gate file) l) (sym (only image left))
        (record { within = within_there; same = refl; stands = (gate, stands_there) });
    shut = λ ready. shut_there;
    durable = λ ready. only;
  }
    where
      stands_there : StandsTo (kept_before gate file) gate file
      stands_there = subst (StandsTo (kept_before gate file) gate) (sym shut_there) (stands (kept_before gate file) (take gate file) (0 ∷ []) gate (length-take-le gate file within_there) frames_there (shut_alone (0 ∷ []) (omega arith)))

-- what stands for the payloads alone may have one under way
pub stands_with : (under_way : Option (List ℕ)) (payloads : List (List ℕ)) (image : List ℕ) → StandsFor payloads image → StandsWith under_way payloads image
stands_with None payloads image so = so
stands_with (Some payload) payloads image so = inl so

-- the steps of a mark
module _ (gate : ℕ) (under_way : Option (List ℕ)) (file : List ℕ) (within : gate ≤ length file) (frames : AreFrames (kept_before gate file) (take gate file)) where
  cut_size : length (take gate file) ≡ gate
  cut_size = length-take-le gate file within

  pub cut_stands : StandsTo (kept_before gate file) gate (take gate file)
  cut_stands = subst (StandsTo (kept_before gate file) gate) (append-nil (take gate file)) (stands (kept_before gate file) (take gate file) [] gate cut_size frames tt)

  cut_same : take gate (take gate file) ≡ take gate file
  cut_same = take-take gate gate file (omega arith)

  -- a cut of an image leaves the frames
  pub cut_spared : (was image : List ℕ) → IsSpared under_way (kept_before gate file) gate (take gate file) was → image ≡ take gate was → IsSpared under_way (kept_before gate file) gate (take gate file) image
  cut_spared was image spared is =
      subst (λ (l : List ℕ). IsSpared under_way (kept_before gate file) gate (take gate file) l) (sym (is ∙ spared.same))
      (record { within = omega (arith, cut_size); same = cut_same; stands = stands_with under_way (kept_before gate file) (take gate file) (gate, cut_stands) })

  -- a shut gate that is written, or any byte in its place, too
  pub lone_stands : (image : List ℕ) → IsTorn gate 1 (take gate file) image → StandsFor (kept_before gate file) image
  lone_stands image torn = (gate, lone_byte (kept_before gate file) gate (take gate file) image cut_stands cut_size torn)

  pub lone_spared : (image : List ℕ) → IsTorn gate 1 (take gate file) image → IsSpared under_way (kept_before gate file) gate (take gate file) image
  lone_spared image torn = record {
    within = omega (arith, cut_size, torn.no_shorter);
    same = torn.before ∙ cut_same;
    stands = stands_with under_way (kept_before gate file) image (lone_stands image torn);
  }

  pub closed_is : overwritten gate (0 ∷ []) (take gate file) ≡ take gate file ++ 0 ∷ []
  closed_is =
      ap (λ (l : List ℕ). l ++ (0 ∷ []) ++ drop (gate + 1) (take gate file)) cut_same
      ∙ ap (λ (l : List ℕ). take gate file ++ (0 ∷ []) ++ l) (drop_all (gate + 1) (take gate file) (omega (arith, cut_size)))
      ∙ append-nil (take gate file ++ 0 ∷ [])
