-- The places of the gates of payloads.
use Rattle.std.proofs.Common.{◌≡◌, ℕ, suc, ◌+◌, ◌<◌, ◌≤◌, List, [], ◌∷◌, ◌++◌, length, take, drop, get_or, Vec, sym, ap, ◌∙◌, drop-cons, arith, length-append}
use Rattle.std.proofs.Math.Seq.{take-append_seam}
use Rattle.std.proofs.lemmas.List.{length-map, map-append, take-append-drop, take_more, take-map}
use Rattle.std.specs.Prelude.{Result, Err}
use Rattle.std.specs.declared.alloc.Global.{Global}
use Rattle.ak_journal_folds.specs.Folds.{IsFirstOther}
use Rattle.ak_journal_forms.proofs.Places.{length-more}
use Rattle.ak_journal_forms.specs.Frames.{frames_length}
use Rattle.ak_base.specs.Bytes.{bytes_of_each}
use Rattle.ak_journals.specs.declared.openings.JournalFault.{JournalFault}
use Rattle.ak_journals.specs.declared.openings.JournalFault.TheVariants.{Damaged}
use Rattle.ak_journal_tables.specs.Holdings.{IsOtherOf}

abbrev Payload : Type 0
Payload = Vec ℕ Global

-- the frames of one payload more
pub next_gate : (payloads : List Payload) (i : ℕ) (payload : Payload) → i < length payloads → payload ≡ get_or payloads i payload
    → frames_length (bytes_of_each (take (i + 1) payloads)) ≡ frames_length (bytes_of_each (take i payloads)) + (9 + length payload.items)
next_gate payloads i payload within is =
    let more : bytes_of_each (take (i + 1) payloads) ≡ bytes_of_each (take i payloads) ++ payload.items ∷ [] =
    ap bytes_of_each (take_more payloads i payload within ∙ ap (λ (last : Payload). take i payloads ++ last ∷ []) (sym is))
    ∙ map-append (λ (p : Payload). p.items) (take i payloads) (payload ∷ []) in
    omega (arith, ap frames_length more, length-more (bytes_of_each (take i payloads)) payload.items [])

-- it is no more than that of them all
pub gate_within : (payloads : List Payload) (i : ℕ) (payload : Payload) → i < length payloads → payload ≡ get_or payloads i payload
    → frames_length (bytes_of_each (take i payloads)) + (9 + length payload.items) ≤ frames_length (bytes_of_each payloads)
gate_within payloads i payload within is =
    let whole : bytes_of_each payloads ≡ bytes_of_each (take i payloads) ++ payload.items ∷ bytes_of_each (drop (suc i) payloads) =
    ap bytes_of_each (sym (take-append-drop i payloads) ∙ ap (λ (rest : List Payload). take i payloads ++ rest) (drop-cons payloads i payload within ∙ ap (λ (first : Payload). first ∷ drop (suc i) payloads) (sym is)))
    ∙ map-append (λ (p : Payload). p.items) (take i payloads) (payload ∷ drop (suc i) payloads) in
    omega (arith, ap frames_length whole, length-more (bytes_of_each (take i payloads)) payload.items (bytes_of_each (drop (suc i) payloads)))

append_size : (these others : List (List ℕ)) → frames_length (these ++ others) ≡ frames_length these + frames_length others
append_size [] others = omega arith
append_size (first ∷ these) others = omega (arith, append_size these others)

-- those of the first so many are no more than those of all
pub front_within : (count : ℕ) (payloads : List Payload) → frames_length (bytes_of_each (take count payloads)) ≤ frames_length (bytes_of_each payloads)
front_within count payloads =
    let whole : bytes_of_each payloads ≡ bytes_of_each (take count payloads) ++ bytes_of_each (drop count payloads) =
    ap bytes_of_each (sym (take-append-drop count payloads)) ∙ map-append (λ (p : Payload). p.items) (take count payloads) (drop count payloads) in
    omega (arith, ap frames_length whole, append_size (bytes_of_each (take count payloads)) (bytes_of_each (drop count payloads)))

-- its place is one of theirs
pub place_within : (payloads : List Payload) (place : ℕ) → IsFirstOther place (bytes_of_each payloads) → place ≤ length payloads
place_within payloads place first =
    omega (arith, first.at, ap (λ (l : List (List ℕ)). length l) first.whole, length-append first.before (first.payload ∷ first.behind), length-map payloads (λ (p : Payload). p.items))

-- two faults that are equal tell one gate
pub gate_told : {T : Type 0} (one other : ℕ) → ◌≡◌ {A = Result T JournalFault} (Err (Damaged one)) (Err (Damaged other)) → one ≡ other
gate_told one other is = cc

-- a payload that is that of no change, by the place of its gate
pub other_of : (payloads : List Payload) (place gate : ℕ) → IsFirstOther place (bytes_of_each payloads) → gate ≡ frames_length (bytes_of_each (take place payloads))
    → IsOtherOf gate (bytes_of_each payloads)
other_of payloads place gate first at = record {
  before = first.before;
  payload = first.payload;
  behind = first.behind;
  place =
      at ∙ ap frames_length
      (sym (take-map (λ (p : Payload). p.items) place payloads) ∙ ap (take place) first.whole ∙ ap (λ (n : ℕ). take n (first.before ++ first.payload ∷ first.behind)) (sym first.at)
      ∙ take-append_seam first.before (first.payload ∷ first.behind));
  whole = first.whole;
  held = first.held;
  led = first.led;
  other = first.other;
}
