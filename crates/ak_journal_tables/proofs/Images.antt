-- The collections for which the images of a journal stand.
use Rattle.std.proofs.Common.{◌≡◌, ◌⊎◌, inl, inr, ⊎_elim, ℕ, Bool, List, [], ◌∷◌, ◌++◌, Option, Some, None, refl, sym, ap, ◌∙◌, subst}
use Rattle.std.proofs.lemmas.Option.{none-some, same_Some}
use Rattle.std.specs.Option.{option_map, ForSome}
use Rattle.ak_journal_forms.specs.Frames.{StandsFor}
use Rattle.ak_journal_rows.proofs.Folds.{one_more}
use Rattle.ak_journal_rows.specs.Changes.{after_change, nothing_held}
use Rattle.ak_journal_rows.specs.Texts.{IsPayloadOf, LeadTo}
use Rattle.ak_journal_rows.specs.declared.changes.Change.{Change}
use Rattle.ak_journals.specs.States.{InOrder, StandsWith, kept_before}
use Rattle.ak_keep.specs.Collections.{Holding}
use Rattle.ak_journal_tables.specs.Holdings.{HoldsOf}

abbrev LeadsTo : Holding → List (List ℕ) → Type 0
LeadsTo held payloads = LeadTo nothing_held payloads held

-- an image that stands for what is kept stands for what is stored
pub image_holds : (gate : ℕ) (o : Option (List ℕ)) (held : Holding) (image : List ℕ) → ForSome (option_map (kept_before gate) o) (LeadsTo held)
    → ForSome o (λ (file : List ℕ). StandsWith None (kept_before gate file) image) → ForSome o (λ (file : List ℕ). HoldsOf held image)
image_holds gate o held image stored stands file named =
    (kept_before gate file, stands file named, stored (kept_before gate file) (ap (λ (c : Option (List ℕ)). option_map (kept_before gate) c) named))

-- and with the payload under way for what is committed
pub image_holds_either : (gate : ℕ) (payload : List ℕ) (change : Change) (was now : Holding) → IsPayloadOf payload change → after_change change was ≡ now
    → (o : Option (List ℕ)) (image : List ℕ) → ForSome (option_map (kept_before gate) o) (LeadsTo was) → ForSome o (λ (file : List ℕ). StandsWith (Some payload) (kept_before gate file) image)
    → ForSome o (λ (file : List ℕ). HoldsOf was image) ⊎ ForSome o (λ (file : List ℕ). HoldsOf now image)
image_holds_either gate payload change was now of makes None image stored stands = inl (λ file named. absurd (none-some file named))
image_holds_either gate payload change was now of makes (Some file) image stored stands =
    let led : LeadsTo was (kept_before gate file) = stored (kept_before gate file) refl in
    ⊎_elim
    (λ kept. inl (λ other named. (kept_before gate file, kept, led)))
    (λ more. inr (λ other named. (
      kept_before gate file ++ payload ∷ [],
      more,
      subst (λ (end : Holding). LeadsTo end (kept_before gate file ++ payload ∷ [])) makes (one_more (kept_before gate file) payload change nothing_held was led of),
    )))
    (stands file refl)

-- one payload more leads to what is committed
pub stores_more : (payload : List ℕ) (change : Change) (was now : Holding) → IsPayloadOf payload change → after_change change was ≡ now
    → (old new : Option (List (List ℕ))) → new ≡ option_map (λ (payloads : List (List ℕ)). payloads ++ payload ∷ []) old → ForSome old (LeadsTo was) → ForSome new (LeadsTo now)
stores_more payload change was now of makes None new is stored payloads named = absurd (none-some payloads (sym is ∙ named))
stores_more payload change was now of makes (Some before) new is stored payloads named =
    subst (LeadsTo now) (same_Some (before ++ payload ∷ []) payloads (sym is ∙ named))
    (subst (λ (end : Holding). LeadsTo end (before ++ payload ∷ [])) makes (one_more before payload change nothing_held was (stored before refl) of))

-- the same payloads lead to the same
pub stores_still : (old new : Option (List (List ℕ))) (held : Holding) → new ≡ old → ForSome old (LeadsTo held) → ForSome new (LeadsTo held)
stores_still old new held is stored payloads named = stored payloads (sym is ∙ named)

-- with no payload under way each image stands for what is stored
pub image_lasts : (gate : ℕ) (ready : Bool) (way : Option (List ℕ)) (o : Option (List ℕ)) (images : List ℕ → Type 0) (held : Holding) (image : List ℕ) → way ≡ None
    → ForSome o (InOrder gate ready way images) → ForSome (option_map (kept_before gate) o) (LeadsTo held) → images image → ForSome o (λ (file : List ℕ). HoldsOf held image)
image_lasts gate ready way o images held image none order stored left =
    image_holds gate o held image stored (λ file named. subst (λ (w : Option (List ℕ)). StandsWith w (kept_before gate file) image) none ((order file named).each image left).stands)

-- payloads for which a file stands, and that lead to a collection
pub file_holds : (o : Option (List ℕ)) (payloads : List (List ℕ)) (held : Holding) → ForSome o (StandsFor payloads) → LeadsTo held payloads → ForSome o (HoldsOf held)
file_holds o payloads held stands led file named = (payloads, stands file named, led)

pub payloads_store : (o : Option (List ℕ)) (k : Option (List (List ℕ))) (payloads : List (List ℕ)) (held : Holding) → k ≡ option_map (λ (file : List ℕ). payloads) o → LeadsTo held payloads
    → ForSome k (LeadsTo held)
payloads_store None k payloads held is led these named = absurd (none-some these (sym is ∙ named))
payloads_store (Some file) k payloads held is led these named = subst (LeadsTo held) (same_Some payloads these (sym is ∙ named)) led

-- an image of the collection for which the file stands
pub holds_same : (o c : Option (List ℕ)) (held : Holding) (image : List ℕ) → c ≡ o → ForSome o (HoldsOf held) → ForSome c (λ (file : List ℕ). HoldsOf held image)
    → ForSome o (λ (file : List ℕ). (one : Holding) × HoldsOf one file × HoldsOf one image)
holds_same o c held image is holds stands file named = (held, holds file named, stands file (is ∙ named))
