-- The numbers that a finish sets are in their ranges.
use Rattle.std.specs.Int.{int_max, int_min}
use Rattle.std.specs.Prelude.{◌≡◌, ℤ, pos, ◌+ℤ◌, ◌≤ℤ◌}
use Rattle.std.proofs.Common.{sym, ap, subst, ◌∙◌, arith}
use Rattle.std.proofs.lemmas.Int.{int_max_is, int_min_is, ints}
use Rattle.ak_base.specs.Heads.{AreMomentsInRange, IsWithin}
use Rattle.ak_base.specs.Limits.{last_head_usn, last_moment}
use Rattle.ak_io.specs.Arrivals.{IsClockMoment}
use Rattle.ak_keep.specs.HeadNumbers.{AreNumbersInRange}
use Rattle.ak_keep.specs.Keepers.{Keeping, moments_set}
use Rattle.ak_session.specs.Closings.{moment_past}
use Rattle.ak_server_steps.specs.Closings.{finished_moment, finished_usn}
use Rattle.ak_server_steps.specs.declared.answers.Basis.{Basis}

-- the least of what is at least 0 and a limit
up_to : (x : ℤ) (most : ℤ) → pos 0 ≤ℤ x → pos 0 ≤ℤ most → IsWithin (pos 0) most (int_min x most)
up_to x most low room = let is = int_min_is x most in record { low = omega (arith, ints, is, low, room); high = omega (arith, ints, is) }

timely : (now one other : ℤ) → pos 0 ≤ℤ now → pos 0 ≤ℤ moment_past now one other
timely now one other low = let is = int_max_is now (int_max (one +ℤ pos 1) (other +ℤ pos 1)) in omega (arith, ints, is, low)

pub finished_fits : (basis : Basis) (now moment schema usn last_sync : ℤ)
    → moment ≡ finished_moment basis now → schema ≡ basis.numbers.schema → usn ≡ finished_usn basis → last_sync ≡ basis.numbers.last_sync
    → IsClockMoment now → AreNumbersInRange basis.numbers → AreMomentsInRange moment schema usn last_sync
finished_fits basis now moment schema usn last_sync the_moment the_schema the_usn the_sync clock range =
    let low = range.moments.usn.low in
    record {
      moment = subst (IsWithin (pos 0) last_moment) (sym the_moment)
          (up_to (moment_past now basis.numbers.moment basis.live.moment) last_moment (timely now basis.numbers.moment basis.live.moment clock.low) (omega (arith, ints)));
      schema = subst (IsWithin (pos 0) last_moment) (sym the_schema) range.moments.schema;
      usn = subst (IsWithin (pos 0) last_head_usn) (sym the_usn) (up_to (basis.numbers.usn +ℤ pos 1) last_head_usn (omega (arith, ints, low)) (omega (arith, ints)));
      last_sync = subst (IsWithin (pos 0) last_moment) (sym the_sync) range.moments.last_sync;
    }

-- numbers that are set are those that are equal to them
pub same_set : (m s u l moment schema usn last_sync : ℤ) (k new : Keeping) → m ≡ moment → s ≡ schema → u ≡ usn → l ≡ last_sync
    → new ≡ moments_set m s u l k → new ≡ moments_set moment schema usn last_sync k
same_set m s u l moment schema usn last_sync k new the_moment the_schema the_usn the_sync is =
    is
    ∙ ap (λ (x : ℤ). moments_set x s u l k) the_moment
    ∙ ap (λ (x : ℤ). moments_set moment x u l k) the_schema
    ∙ ap (λ (x : ℤ). moments_set moment schema x l k) the_usn
    ∙ ap (λ (x : ℤ). moments_set moment schema usn x k) the_sync
