-- What one call more makes of the images that may be left.
use Rattle.std.proofs.Common.{◌≡◌, inl, inr, ⊎_elim, ℕ, ◌≤◌, List, ◌∷◌, length, sym, subst, refl, arith}
use Rattle.ak_disks.specs.Disks.{IsTorn, IsCutOrWhole, Follows, NoMore, Only, Elapses}
use Rattle.ak_disks.specs.Images.{Event, Looked, Wrote, Shortened, Synced, MayLeave, MayHaveLeft, file_after}
use Rattle.ak_disks.specs.Moments.{leaves_file}
use Rattle.ak_disks.proofs.Torn.{torn_whole, torn_nothing}

module _ (first : List ℕ) (events : List Event) where
  -- no call, no time
  pub elapses_not : Elapses (length events) (length events) (MayHaveLeft first events) (MayHaveLeft first events) (MayLeave first events)
  elapses_not = record { later = omega arith; nothing_else = λ since image le left. inl left; keeps = λ since image le left. left }

  pub elapses_by : (event : Event) → Elapses (length events) (length (event ∷ events)) (MayHaveLeft first events) (MayHaveLeft first (event ∷ events)) (MayLeave first (event ∷ events))
  elapses_by event = record {
    later = omega arith;
    nothing_else = λ since image le left. ⊎_elim (λ now. inr now) (λ past. inl past.1) left;
    keeps = λ since image le left. inr (le, left);
  }

  -- a refused write changes nothing, which is one way to be torn
  pub follows_refused : (place count : ℕ) → Follows (IsTorn place count) (MayLeave first events) (MayLeave first events)
  follows_refused place count image left = (image, left, torn_nothing place count image)

  pub follows_write : (place : ℕ) (bytes : List ℕ) → place ≤ length (file_after first events) → Follows (IsTorn place (length bytes)) (MayLeave first events) (MayLeave first (Wrote place bytes ∷ events))
  follows_write place bytes within image left =
      ⊎_elim
      (λ now. (file_after first events, leaves_file first events, subst (λ (l : List ℕ). IsTorn place (length bytes) (file_after first events) l) (sym now) (torn_whole place bytes (file_after first events) within)))
      (λ led. led) left

  pub follows_no_cut : (size : ℕ) → Follows (IsCutOrWhole size) (MayLeave first events) (MayLeave first events)
  follows_no_cut size image left = (image, left, inl refl)

  pub follows_cut : (size : ℕ) → Follows (IsCutOrWhole size) (MayLeave first events) (MayLeave first (Shortened size ∷ events))
  follows_cut size image left = ⊎_elim (λ now. (file_after first events, leaves_file first events, inr now)) (λ led. led) left

  pub no_more_looked : NoMore (MayLeave first events) (MayLeave first (Looked ∷ events))
  no_more_looked image left =
      ⊎_elim (λ now. subst (λ (l : List ℕ). MayLeave first events l) (sym now) (leaves_file first events)) (λ led. subst (λ (l : List ℕ). MayLeave first events l) (sym led.2) led.1) left

  pub only_synced : Only (MayLeave first (Synced ∷ events)) (file_after first events)
  only_synced image left = ⊎_elim (λ now. now) (λ led. led.2) left

  pub no_more_synced : NoMore (MayLeave first events) (MayLeave first (Synced ∷ events))
  no_more_synced image left = subst (λ (l : List ℕ). MayLeave first events l) (sym (only_synced image left)) (leaves_file first events)

-- the same calls leave the same images
pub same_images : (first first' : List ℕ) (events events' : List Event) → first' ≡ first → events' ≡ events → (image : List ℕ) → MayLeave first' events' image → MayLeave first events image
same_images first first' events events' same still image left =
    subst (λ (f : List ℕ). MayLeave f events image) same (subst (λ (e : List Event). MayLeave first' e image) still left)
