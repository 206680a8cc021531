-- A file stands for one list of payloads, and is not damaged then.
use Rattle.std.proofs.Common.{◌≡◌, ⊎_elim, ℕ, zero, suc, ◌+◌, ◌≤◌, false, List, [], ◌∷◌, ◌++◌, length, take, drop, refl, sym, ◌∙◌, ap, subst, arith, append_assoc, length-append, length-drop, take-append-drop}
use Rattle.std.specs.Prelude.{◌==◌, nat_le, ◌&&◌}
use Rattle.std.proofs.lemmas.Bool.{cond-true, cond-false, and_from, le-leb, lt-leb, cases_eq, ne_eqb, and_left, and_right}
use Rattle.std.proofs.lemmas.List.{append-nil, take_at, drop_at, drop-drop, length-take-le}
use Rattle.ak_journal_forms.specs.Frames.{length_said, AreFrames, IsShut, IsOpen, IsCutOff, IsDamagedAt, StandsFor, payload_behind, payloads_up_to, payloads_in}
use Rattle.ak_journal_forms.proofs.FrameLists.{frames_append}
use Rattle.ak_journal_forms.proofs.Lists.{take_both}

-- a shut gate has no payload
shut_test : (gate : ℕ) (behind : List ℕ) → IsShut (gate ∷ behind) → (gate == 1 && nat_le 8 (length behind)) ≡ false
shut_test gate behind shut =
    ⊎_elim
    (λ is. and_right (gate == 1) (nat_le 8 (length behind)) (lt-leb 8 (length behind) (shut is)))
    (λ other. and_left (gate == 1) (nat_le 8 (length behind)) (ne_eqb gate 1 other)) (cases_eq gate 1)

none_shut : (most : ℕ) (rest : List ℕ) → IsShut rest → payloads_up_to most rest ≡ []
none_shut zero rest shut = refl
none_shut (suc most) [] shut = refl
none_shut (suc most) (gate ∷ behind) shut = cond-false (gate == 1 && nat_le 8 (length behind)) _ _ (shut_test gate behind shut)

-- an open gate has one
module _ (most : ℕ) (head payload rest : List ℕ) (eight : length head ≡ 8) (said : length_said head ≡ length payload) where
  behind : List ℕ
  behind = head ++ (payload ++ rest)

  first : take 8 behind ≡ head
  unfolding behind
  first = take_at head (payload ++ rest) 8 eight

  then : drop 8 behind ≡ payload ++ rest
  unfolding behind
  then = drop_at head (payload ++ rest) 8 eight

  long : 8 ≤ length behind
  unfolding behind
  long = omega (arith, length-append head (payload ++ rest), eight)

  size : length_said (take 8 behind) ≡ length payload
  size = ap length_said first ∙ said

  has : payload_behind behind ≡ payload
  has = ap (λ (n : ℕ). take n (drop 8 behind)) size ∙ ap (λ (l : List ℕ). take (length payload) l) then ∙ take_at payload rest (length payload) refl

  left : drop (length_said (take 8 behind)) (drop 8 behind) ≡ rest
  left = ap (λ (n : ℕ). drop n (drop 8 behind)) size ∙ ap (λ (l : List ℕ). drop (length payload) l) then ∙ drop_at payload rest (length payload) refl

  opened : payloads_up_to (suc most) (1 ∷ behind) ≡ payload_behind behind ∷ payloads_up_to most (drop (length_said (take 8 behind)) (drop 8 behind))
  opened = cond-true (1 == 1 && nat_le 8 (length behind)) _ _ (and_from (1 == 1) (nat_le 8 (length behind)) refl (le-leb 8 (length behind) long))

  pub one_open : payloads_up_to (suc most) (1 ∷ (head ++ (payload ++ rest))) ≡ payload ∷ payloads_up_to most rest
  unfolding behind
  one_open = opened ∙ ap (λ (p : List ℕ). p ∷ payloads_up_to most (drop (length_said (take 8 behind)) (drop 8 behind))) has ∙ ap (λ (l : List ℕ). payload ∷ payloads_up_to most l) left

moved : (head payload rest more : List ℕ) → (1 ∷ (head ++ (payload ++ rest))) ++ more ≡ 1 ∷ (head ++ (payload ++ (rest ++ more)))
moved head payload rest more =
    ap (λ (l : List ℕ). 1 ∷ l) (append_assoc head (payload ++ rest) more ∙ ap (λ (l : List ℕ). head ++ l) (append_assoc payload rest more))

-- the payloads of frames before a shut gate
payloads_found : (payloads : List (List ℕ)) (most : ℕ) (front rest : List ℕ) → AreFrames payloads front → IsShut rest → length front ≤ most → payloads_up_to most (front ++ rest) ≡ payloads
payloads_found [] most front rest frames shut fits = ap (λ (l : List ℕ). payloads_up_to most (l ++ rest)) frames ∙ none_shut most rest shut
payloads_found (payload ∷ payloads) zero front rest (head, others, is, eight, said, frames) shut fits = absurd (omega (arith, ap length is))
payloads_found (payload ∷ payloads) (suc most) front rest (head, others, is, eight, said, frames) shut fits =
    let fewer : length others ≤ most = omega (arith, ap length is, length-append head (payload ++ others), length-append payload others) in
    ap (λ (l : List ℕ). payloads_up_to (suc most) (l ++ rest)) is
    ∙ ap (λ (l : List ℕ). payloads_up_to (suc most) l) (moved head payload others rest)
    ∙ one_open most head payload (others ++ rest) eight said
    ∙ ap (λ (ps : List (List ℕ)). payload ∷ ps) (payloads_found payloads most others rest frames shut fewer)

pub payloads_in_file : (payloads : List (List ℕ)) (file : List ℕ) → StandsFor payloads file → payloads_in file ≡ payloads
payloads_in_file payloads file (gate, so) =
    ap (λ (l : List ℕ). payloads_up_to (length file) l) (sym (take-append-drop gate file))
    ∙ payloads_found payloads (length file) (take gate file) (drop gate file) so.frames so.shut (omega (arith, length-take-le gate file so.within, so.within))

-- frames alone are a file too
pub payloads_in_frames : (payloads : List (List ℕ)) (front : List ℕ) → AreFrames payloads front → payloads_in front ≡ payloads
payloads_in_frames payloads front frames =
    ap (λ (l : List ℕ). payloads_up_to (length front) l) (sym (append-nil front)) ∙ payloads_found payloads (length front) front [] frames tt (omega arith)

-- an open gate is not shut
not_both : (file : List ℕ) (size : ℕ) → IsShut file → IsOpen file size → ⊥
not_both [] size shut (behind, is, long, said) = absurd (cc is)
not_both (gate ∷ rest) size shut (behind, is, long, said) =
    let gate_is : gate ≡ 1 = cc is in
    let rest_is : rest ≡ behind = cc is in
    omega (arith, shut gate_is, ap length rest_is, long)

-- ---- a file that stands for payloads is not damaged
-- two frames at the front of one file are one
peeled : (head payload rest head' payload' rest' : List ℕ) → 1 ∷ (head ++ (payload ++ rest)) ≡ 1 ∷ (head' ++ (payload' ++ rest')) → length head ≡ 8 → length head' ≡ 8 → length_said head ≡ length payload → length_said head' ≡ length payload' → rest ≡ rest'
peeled head payload rest head' payload' rest' same eight eight' said said' =
    let tails : head ++ (payload ++ rest) ≡ head' ++ (payload' ++ rest') = ap (λ (l : List ℕ). drop 1 l) same in
    let heads : head ≡ head' = sym (take_at head (payload ++ rest) 8 eight) ∙ ap (λ (l : List ℕ). take 8 l) tails ∙ take_at head' (payload' ++ rest') 8 eight' in
    let behind : payload ++ rest ≡ payload' ++ rest' = sym (drop_at head (payload ++ rest) 8 eight) ∙ ap (λ (l : List ℕ). drop 8 l) tails ∙ drop_at head' (payload' ++ rest') 8 eight' in
    let sizes : length payload' ≡ length payload = sym (sym said ∙ ap length_said heads ∙ said') in
    sym (drop_at payload rest (length payload) refl) ∙ ap (λ (l : List ℕ). drop (length payload) l) behind ∙ drop_at payload' rest' (length payload) sizes

-- a frame begins with an open gate
opens : (head payload rest : List ℕ) → length head ≡ 8 → IsOpen (1 ∷ (head ++ (payload ++ rest))) (length_said (take 8 (head ++ (payload ++ rest))))
opens head payload rest eight = (head ++ (payload ++ rest), refl, omega (arith, length-append head (payload ++ rest), eight), refl)

-- it is not cut off
whole : (head payload rest : List ℕ) → length head ≡ 8 → length_said head ≡ length payload → IsCutOff (1 ∷ (head ++ (payload ++ rest))) → ⊥
whole head payload rest eight said (size, (behind, is, long, says), short) =
    let tails : head ++ (payload ++ rest) ≡ behind = ap (λ (l : List ℕ). drop 1 l) is in
    let heads : head ≡ take 8 behind = sym (take_at head (payload ++ rest) 8 eight) ∙ ap (λ (l : List ℕ). take 8 l) tails in
    let sizes : size ≡ length payload = says ∙ sym (ap length_said heads) ∙ said in
    omega (arith, sizes, short, length-append head (payload ++ rest), length-append payload rest, eight)

apart : (ps qs : List (List ℕ)) (front rest front' rest' : List ℕ) → AreFrames ps front → IsShut rest → AreFrames qs front' → IsCutOff rest' → front ++ rest ≡ front' ++ rest' → ⊥
apart [] [] front rest front' rest' none shut none' cut_off same =
    let is : rest ≡ rest' = sym (ap (λ (l : List ℕ). l ++ rest) none) ∙ same ∙ ap (λ (l : List ℕ). l ++ rest') none' in
    not_both rest' cut_off.0 (subst IsShut is shut) cut_off.1
apart [] (q ∷ qs) front rest front' rest' none shut (head, others, is, eight, said, frames) cut_off same =
    let begins : rest ≡ 1 ∷ (head ++ (q ++ (others ++ rest'))) =
    sym (ap (λ (l : List ℕ). l ++ rest) none) ∙ same ∙ ap (λ (l : List ℕ). l ++ rest') is ∙ moved head q others rest' in
    not_both (1 ∷ (head ++ (q ++ (others ++ rest')))) _ (subst IsShut begins shut) (opens head q (others ++ rest') eight)
apart (p ∷ ps) [] front rest front' rest' (head, others, is, eight, said, frames) shut none cut_off same =
    let begins : rest' ≡ 1 ∷ (head ++ (p ++ (others ++ rest))) =
    sym (ap (λ (l : List ℕ). l ++ rest') none) ∙ sym same ∙ ap (λ (l : List ℕ). l ++ rest) is ∙ moved head p others rest in
    whole head p (others ++ rest) eight said (subst IsCutOff begins cut_off)
apart (p ∷ ps) (q ∷ qs) front rest front' rest' (head, others, is, eight, said, frames) shut (head', others', is', eight', said', frames') cut_off same =
    apart ps qs others rest others' rest' frames shut frames' cut_off
    (peeled head p (others ++ rest) head' q (others' ++ rest')
    (sym (ap (λ (l : List ℕ). l ++ rest) is ∙ moved head p others rest) ∙ same ∙ ap (λ (l : List ℕ). l ++ rest') is' ∙ moved head' q others' rest')
    eight eight' said said')

pub not_damaged : (payloads : List (List ℕ)) (place : ℕ) (file : List ℕ) → StandsFor payloads file → IsDamagedAt place file → ⊥
not_damaged payloads place file (gate, so) damaged =
    apart payloads damaged.payloads (take gate file) (drop gate file) (take place file) (drop place file) so.frames so.shut damaged.frames damaged.cut_off
    (take-append-drop gate file ∙ sym (take-append-drop place file))

-- ---- one frame more is read
pub one_more : (payloads : List (List ℕ)) (gate size : ℕ) (file : List ℕ) → gate ≤ length file → AreFrames payloads (take gate file) → IsOpen (drop gate file) size → size ≤ length (drop (gate + 9) file)
    → AreFrames (payloads ++ take size (drop (gate + 9) file) ∷ []) (take (gate + (9 + size)) file)
one_more payloads gate size file within frames (behind, is, long, says) fits =
    let rest : drop (gate + 9) file ≡ drop 8 behind = sym (drop-drop 9 gate file) ∙ ap (λ (l : List ℕ). drop 9 l) is in
    let frame : take (9 + size) (drop gate file) ≡ 1 ∷ (take 8 behind ++ (take size (drop (gate + 9) file) ++ [])) =
    ap (λ (l : List ℕ). take (9 + size) l) is
    ∙ take_both (1 ∷ behind) (9 + size) 9 size refl
    ∙ ap (λ (l : List ℕ). 1 ∷ (take 8 behind ++ take size l)) (sym rest)
    ∙ ap (λ (l : List ℕ). 1 ∷ (take 8 behind ++ l)) (sym (append-nil (take size (drop (gate + 9) file)))) in
    subst (AreFrames (payloads ++ take size (drop (gate + 9) file) ∷ [])) (sym (take_both file (gate + (9 + size)) gate (9 + size) refl))
    (frames_append payloads (take size (drop (gate + 9) file) ∷ []) (take gate file) (take (9 + size) (drop gate file)) frames
    (take 8 behind, [], frame, length-take-le 8 behind long, sym says ∙ sym (length-take-le size (drop (gate + 9) file) fits), refl))

-- its bytes are all there
pub more_within : (gate size : ℕ) (file : List ℕ) → gate ≤ length file → IsOpen (drop gate file) size → size ≤ length (drop (gate + 9) file) → gate + (9 + size) ≤ length file
more_within gate size file within (behind, is, long, says) fits = omega (arith, ap length is, length-drop gate file, length-drop (gate + 9) file, fits, long)

pub gate_within : (gate size : ℕ) (file : List ℕ) → IsOpen (drop gate file) size → gate + 9 ≤ length file
gate_within gate size file (behind, is, long, says) = omega (arith, ap length is, length-drop gate file, long)
