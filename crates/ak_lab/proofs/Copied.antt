-- What is said of a copy of the server's collection is said of that collection.
use Rattle.std.proofs.Common.{◌≡◌, ℕ, ℤ, pos, negsuc, SFits, w64, to_z, of_z, arith, [], List, Option, Some, Result, Ok, Err, IfOk, refl, sym, ap, subst, ◌∙◌}
use Rattle.std.proofs.lemmas.Int.{ints, to_z-of_z}
use Rattle.ak_base.specs.Heads.{IsHeadInRange, IsMoment}
use Rattle.ak_keep.specs.Collections.{Collection, Holding, collection_of}
use Rattle.ak_keep.specs.Marks.{WithMark}
use Rattle.ak_lab_devices.specs.Devices.{as_downloaded, new_device}
use Rattle.ak_lab_devices.specs.RestingKeepers.{Holds, kept_of}
use Rattle.ak_lab_devices.specs.declared.devices.Device.{Device}
use Rattle.ak_lab_lines.specs.LabTexts.{counts_text}
use Rattle.ak_messages.specs.declared.requests.SanityCounts.{SanityCounts}
use Rattle.ak_openings.specs.declared.whole_collections.Opening.{Opening}
use Rattle.ak_session.specs.Answers.{counts_of}
use Rattle.ak_sync_in_memory.specs.Entries.{collection_in}
use Rattle.ak_undo.specs.declared.steps.Step.{Step}

pub copied : {T E : Type 0} (P : T → Collection → Type 0) (held : WithMark Holding) (committed : Option Collection) (result : Result T E)
    → (c : Collection) × (committed ≡ Some c) × (held ≡ kept_of c)
    → IfOk result (λ it. (c : Collection) × Holds held c × P it c) → IfOk result (λ it. (c : Collection) × (committed ≡ Some c) × P it c)
copied P held committed (Ok it) (c, is, same) (d, holds, so) =
    (d, is ∙ sym (ap (λ (h : WithMark Holding). collection_of h.current) same) ∙ holds, so)
copied P held committed (Err end) copy told = tt

-- a copy of what was read of the server
pub copy_held : {E F : Type 0} (committed : Option Collection) (read : Result Opening F) (opening : Opening) (result : Result (WithMark Holding) E) → read ≡ Ok opening
    → IfOk read (λ it. committed ≡ Some (collection_in it)) → IfOk result (λ held. held ≡ kept_of (collection_in opening))
    → IfOk result (λ held. (c : Collection) × (committed ≡ Some c) × (held ≡ kept_of c))
copy_held {F = F} committed read opening (Ok held) same is made =
    (collection_in opening, subst (λ (it : Result Opening F). IfOk it (λ it. committed ≡ Some (collection_in it))) same is, made)
copy_held committed read opening (Err end) same is made = tt

-- the same with what was synced last set to what was copied
pub copy_downloaded : {E F : Type 0} (committed : Option Collection) (read : Result Opening F) (opening : Opening) (synced : ℤ) (result : Result (WithMark Holding) E)
    → read ≡ Ok opening → IfOk read (λ it. committed ≡ Some (collection_in it)) → synced ≡ opening.head.moment
    → IfOk result (λ held. held ≡ kept_of (collection_in (record opening { head = record opening.head { last_sync = synced } })))
    → IfOk result (λ held. (c : Collection) × (committed ≡ Some c) × (held ≡ kept_of (as_downloaded c)))
copy_downloaded {F = F} committed read opening synced (Ok held) same is now made = (
  collection_in opening,
  subst (λ (it : Result Opening F). IfOk it (λ it. committed ≡ Some (collection_in it))) same is,
  made ∙ ap (λ (synced : ℤ). kept_of (collection_in (record opening { head = record opening.head { last_sync = synced } }))) now,
)
copy_downloaded committed read opening synced (Err end) same is now made = tt

-- the moment of what was read, computed
pub moment_read : {F : Type 0} (read : Result Opening F) (opening : Opening) → read ≡ Ok opening → IfOk read (λ it. IsHeadInRange it.head)
    → to_z w64 (of_z w64 opening.head.moment) ≡ opening.head.moment
moment_read {F = F} read opening same range =
    let within : IsHeadInRange opening.head = subst (λ (it : Result Opening F). IfOk it (λ it. IsHeadInRange it.head)) same range in
    to_z-of_z w64 opening.head.moment (moment_fits opening.head.moment within.moment)
  where
    moment_fits : (m : ℤ) → IsMoment m → SFits w64 m
    moment_fits (pos n) is = let high = is.high in record { sfits = omega (arith, ints, high) }
    moment_fits (negsuc n) is = let low = is.low in absurd (omega (arith, ints, low))

-- the line of the counts of what is held
pub counted : {E : Type 0} (kept : WithMark Holding) (counts : SanityCounts) (result : Result (List ℕ) E)
    → (c : Collection) × Holds kept c × (counts ≡ counts_of c.rows) → IfOk result (λ text. text ≡ counts_text counts)
    → IfOk result (λ text. (c : Collection) × Holds kept c × (text ≡ counts_text (counts_of c.rows)))
counted kept counts (Ok text) (c, holds, are) is = (c, holds, is ∙ ap counts_text are)
counted kept counts (Err end) held is = tt

-- a new device, with a copy
pub made_new : (name : List ℕ) (held : WithMark Holding) (steps : List Step) (c : Collection) → held ≡ kept_of (as_downloaded c) → steps ≡ []
    → (let d : Device = record { name = name; collection = held; undo = steps; shift = pos 0; done = 0; calls = 0; fails = []; mishaps = []; planned = [] } in d) ≡ new_device name c
made_new name held steps c same none = rw (same, none) refl
