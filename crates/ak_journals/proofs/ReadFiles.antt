-- What is known of a file that was read.
use Rattle.std.proofs.Common.{◌≡◌, ℕ, false, List, take, refl, sym, ◌∙◌, ap, subst, Option, Some, None}
use Rattle.std.specs.Option.{option_map}
use Rattle.std.proofs.lemmas.Bool.{false≢true}
use Rattle.ak_disks.specs.Disks.{Only}
use Rattle.ak_journal_forms.specs.Frames.{AreFrames, StandsTo}
use Rattle.ak_journal_forms.proofs.Readings.{payloads_in_frames}
use Rattle.ak_journals.specs.States.{IsSpared, InOrder, kept_before}

-- the payloads that were read are those before the gate
pub read_keeps : (gate : ℕ) (payloads : List (List ℕ)) (file : List ℕ) → StandsTo payloads gate file → kept_before gate file ≡ payloads
read_keeps gate payloads file so = payloads_in_frames payloads (take gate file) so.frames

pub read_order : (gate : ℕ) (payloads : List (List ℕ)) (file : List ℕ) (images : List ℕ → Type 0) → StandsTo payloads gate file → Only images file → InOrder gate false None images file
read_order gate payloads file images so only = record {
  within = so.within;
  frames = subst (λ (ps : List (List ℕ)). AreFrames ps (take gate file)) (sym (read_keeps gate payloads file so)) so.frames;
  each = λ image left.
      subst (λ (l : List ℕ). IsSpared None (kept_before gate file) gate (take gate file) l) (sym (only image left))
      (record { within = so.within; same = refl; stands = (gate, subst (λ (ps : List (List ℕ)). StandsTo ps gate file) (sym (read_keeps gate payloads file so)) so) });
  shut = λ is. absurd (false≢true is);
  durable = λ is. absurd (false≢true is);
}

pub read_kept : (gate : ℕ) (payloads : List (List ℕ)) (old new : Option (List ℕ)) → new ≡ old → ((file : List ℕ) → old ≡ Some file → StandsTo payloads gate file)
    → option_map (kept_before gate) new ≡ option_map (λ (file : List ℕ). payloads) old
read_kept gate payloads None new is read = ap (λ (o : Option (List ℕ)). option_map (kept_before gate) o) is
read_kept gate payloads (Some file) new is read =
    ap (λ (o : Option (List ℕ)). option_map (kept_before gate) o) is ∙ ap (λ (ps : List (List ℕ)). Some ps) (read_keeps gate payloads file (read file refl))
