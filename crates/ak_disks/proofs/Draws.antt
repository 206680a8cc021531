-- Each image that a number picks is one that a crash may leave.
use Rattle.std.proofs.Common.{◌≡◌, inl, inr, ℕ, ◌+◌, ◌-◌, ◌%◌, ◌≤◌, List, [], ◌∷◌, ◌++◌, length, take, replicate, refl, ap, ◌∙◌, arith, length-append}
use Rattle.std.specs.Prelude.{nat_le, ◌==◌}
use Rattle.std.proofs.lemmas.Bool.{cond_both, leb-true}
use Rattle.std.proofs.lemmas.List.{length-take-le, length-replicate}
use Rattle.ak_disks.specs.Disks.{IsTorn, IsCutOrWhole, overwritten}
use Rattle.ak_disks.specs.Images.{Event, Looked, Wrote, Shortened, Synced, Draw, MayLeave, drawn_write, draw_after, file_after, patched, picked}
use Rattle.ak_disks.proofs.Torn.{torn_middle, torn_nothing}

-- what came of a write, and wrong bytes, leave it torn
patched_torn : (place : ℕ) (bytes : List ℕ) (came wrong value : ℕ) (image : List ℕ) → came ≤ length bytes → wrong ≤ length bytes - came → place ≤ length image
    → IsTorn place (length bytes) image (patched place bytes came wrong value image)
patched_torn place bytes came wrong value image some others within =
    let size : length (take came bytes ++ replicate wrong value) ≡ came + wrong =
    omega (arith, length-append (take came bytes) (replicate wrong value), length-take-le came bytes some, length-replicate wrong value) in
    torn_middle place (length bytes) (place + (came + wrong)) (take came bytes ++ replicate wrong value) image (omega (arith, size)) (omega (arith, size)) within

-- a write leaves the image torn
write_torn : (place : ℕ) (bytes : List ℕ) (draw : Draw) → IsTorn place (length bytes) draw.image (drawn_write place bytes draw).image
write_torn place bytes draw =
    cond_both (nat_le place (length draw.image)) _ _ (λ (d : Draw). IsTorn place (length bytes) draw.image d.image)
    (λ fits.
    let came : ℕ = draw.pick % (length bytes + 1) in
    patched_torn place bytes _ _ _ draw.image (omega arith) (omega arith) (leb-true place (length draw.image) fits))
    (λ past. torn_nothing place (length bytes) draw.image)

-- and the file as it is read written
write_file : (place : ℕ) (bytes : List ℕ) (draw : Draw) → (drawn_write place bytes draw).file ≡ overwritten place bytes draw.file
write_file place bytes draw =
    cond_both (nat_le place (length draw.image)) _ _ (λ (d : Draw). d.file ≡ overwritten place bytes draw.file) (λ fits. refl) (λ past. refl)

-- a draw has the file as it is read
draw_file : (first : List ℕ) (pick : ℕ) (events : List Event) → (draw_after first pick events).file ≡ file_after first events
draw_file first pick [] = refl
draw_file first pick (Looked ∷ earlier) = draw_file first pick earlier
draw_file first pick (Wrote place bytes ∷ earlier) =
    write_file place bytes (draw_after first pick earlier) ∙ ap (λ (file : List ℕ). overwritten place bytes file) (draw_file first pick earlier)
draw_file first pick (Shortened size ∷ earlier) = ap (λ (file : List ℕ). take size file) (draw_file first pick earlier)
draw_file first pick (Synced ∷ earlier) = draw_file first pick earlier

pub picked_may_be_left : (first : List ℕ) (pick : ℕ) (events : List Event) → MayLeave first events (picked first pick events)
picked_may_be_left first pick [] = refl
picked_may_be_left first pick (Looked ∷ earlier) = inr (picked first pick earlier, picked_may_be_left first pick earlier, refl)
picked_may_be_left first pick (Wrote place bytes ∷ earlier) =
    inr (picked first pick earlier, picked_may_be_left first pick earlier, write_torn place bytes (draw_after first pick earlier))
picked_may_be_left first pick (Shortened size ∷ earlier) =
    inr (
      picked first pick earlier,
      picked_may_be_left first pick earlier,
      cond_both ((draw_after first pick earlier).pick % 2 == 0) _ _ (λ (image : List ℕ). IsCutOrWhole size (picked first pick earlier) image) (λ even. inl refl) (λ odd. inr refl),
    )
picked_may_be_left first pick (Synced ∷ earlier) = inr (picked first pick earlier, picked_may_be_left first pick earlier, draw_file first pick earlier)
