-- A device that sets its moments and commits.
use Rattle.std.specs.Option.{option_map, unwrap_or}
use Rattle.std.specs.Prelude.{◌≡◌, ℤ, pos, ◌+ℤ◌, ◌≤ℤ◌, ◌<ℤ◌, Option, Some, None, Result, Ok, Err, IfOk, IfSome, OnOk}
use Rattle.std.proofs.Common.{refl, sym, ap, subst, ◌∙◌, arith}
use Rattle.std.proofs.lemmas.Int.{ints}
use Rattle.ak_base.specs.Heads.{IsMoment, IsWithin}
use Rattle.ak_base.specs.Limits.{last_head_usn, last_stamp}
use Rattle.ak_base.specs.declared.heads.Head.{Head}
use Rattle.ak_device.specs.Devices.{RaisesMoments, advanced_moment, moments_raised}
use Rattle.ak_io.specs.Arrivals.{IsClockMoment}
use Rattle.ak_keep.specs.Collections.{Holding, with_moments}
use Rattle.ak_keep.specs.HeadNumbers.{numbers_of}
use Rattle.ak_keep.specs.declared.head_numbers.Numbers.{Numbers}
use Rattle.ak_keep.specs.Keepers.{Keeping, WhereTold, changed, committed, moments_set}
use Rattle.ak_keep.specs.Marks as marks
use Rattle.ak_keep.specs.Marks.{WithMark}
use Rattle.ak_merge.proofs.EditFacts.{none_held}
use Rattle.ak_sync_rows.proofs.Parted.{if_ok}

-- what was made and then committed
pub committed_after : {T E : Type 0} (made result : Result T E) (step : Keeping → Keeping) (k0 k1 k2 : Keeping)
    → IfOk result (λ value. made ≡ Ok value) → OnOk made (k1 ≡ step k0) → OnOk result (k2 ≡ committed k1) → OnOk result (k2 ≡ committed (step k0))
committed_after {T = T} {E = E} made (Ok value) step k0 k1 k2 is so last =
    last ∙ ap committed (subst (λ (r : Result T E). OnOk r (k1 ≡ step k0)) is so)
committed_after made (Err error) step k0 k1 k2 is so last = tt

-- ---- moments that rise
committed_told : (f : Holding → Holding) (t : Option (WithMark Holding))
    → option_map marks.committed (option_map (marks.changed f) t) ≡ option_map (marks.changed f) (option_map marks.committed t)
committed_told f None = refl
committed_told f (Some w) = refl

-- to commit what was changed is to change what was committed
committed_changed : (f : Holding → Holding) (k : Keeping) → committed (changed f k) ≡ changed f (committed k)
committed_changed f k = ap (λ (t : Option (WithMark Holding)). record { headed = marks.committed k.headed; told = t }) (committed_told f k.told)

abbrev raised_of : ℤ → Numbers → Holding → Holding
raised_of at n = with_moments (advanced_moment at n.moment) (advanced_moment at n.schema) n.usn n.last_sync

abbrev head_raised : ℤ → Head → Head
head_raised at head = record head { moment = advanced_moment at head.moment; schema = advanced_moment at head.schema }

-- a head with numbers that were raised, whose other two stay
abbrev head_with : ℤ → Numbers → Head → Head
head_with at n head = record head { moment = advanced_moment at n.moment; schema = advanced_moment at n.schema; usn = n.usn; last_sync = n.last_sync }

raise_head : (at : ℤ) (n : Numbers) (head : Option Head) → option_map numbers_of head ≡ Some n → option_map (head_with at n) head ≡ option_map (head_raised at) head
raise_head at n None is = none_held is
raise_head at n (Some head) is = ap (λ (held : Option Numbers). Some (head_with at (unwrap_or held n) head)) (sym is)

raise_held : (at : ℤ) (n : Numbers) (h : Holding) → option_map numbers_of h.head ≡ Some n → raised_of at n h ≡ moments_raised at h
raise_held at n h is = ap (λ (o : Option Head). record { rows = h.rows; head = o }) (raise_head at n h.head is)

raise_told : (at : ℤ) (n : Numbers) (t : Option (WithMark Holding)) → IfSome t (λ w. option_map numbers_of w.current.head ≡ Some n)
    → option_map (marks.changed (raised_of at n)) t ≡ option_map (marks.changed (moments_raised at)) t
raise_told at n None is = refl
raise_told at n (Some w) is = ap (λ (h : Holding). Some (record { current = h; mark = w.mark })) (raise_held at n w.current is)

-- a mark, moments that are raised, and a commit
pub raises : {T E : Type 0} (result : Result T E) (at : ℤ) (n : Numbers) (k0 ka km k2 : Keeping) → ka ≡ k0
    → WhereTold k0 (λ h. option_map numbers_of h.head ≡ Some n) → committed km ≡ ka
    → OnOk result (k2 ≡ committed (moments_set (advanced_moment at n.moment) (advanced_moment at n.schema) n.usn n.last_sync km))
    → OnOk result (RaisesMoments at k0 k2)
raises result at n k0 ka km k2 same is commits last =
    if_ok result _ _ (λ so.
    so
    ∙ committed_changed (raised_of at n) km
    ∙ ap (changed (raised_of at n)) (commits ∙ same)
    ∙ ap (λ (t : Option (WithMark Holding)). record { headed = k0.headed; told = t }) (raise_told at n k0.told is))
    last

-- a moment that is raised is one
pub raised_fits : (at old : ℤ) → IsClockMoment at → IsMoment old → IsMoment (advanced_moment at old)
raised_fits at old clock is =
    let low = clock.low in
    let high = clock.high in
    let own = is.low in
    record { low = grind (arith, ints, low, high, own); high = grind (arith, ints) }

-- ---- the next number
pub next_within : (usn : ℤ) → pos 0 ≤ℤ usn → usn <ℤ last_head_usn → IsWithin (pos 0) last_stamp (usn +ℤ pos 1)
next_within usn low high = record { low = omega (arith, ints, low); high = omega (arith, ints, high) }
