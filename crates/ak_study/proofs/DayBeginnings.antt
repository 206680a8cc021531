-- The beginning of a day in an edit, where what is held is told.
use Rattle.std.specs.Prelude.{◌≡◌, ℤ, true, false, IfSome, Option, Some, None}
use Rattle.std.proofs.Common.{refl, sym, ap, ◌∙◌}
use Rattle.ak_base.specs.Days.{IsDayOf}
use Rattle.ak_base.specs.declared.days.Day.{Day}
use Rattle.ak_base.specs.declared.heads.Head.{Head}
use Rattle.ak_edit.specs.Overlays.{Overlay, conf_over}
use Rattle.ak_keep.specs.Collections.{Holding}
use Rattle.ak_keep.specs.Marks.{WithMark}
use Rattle.ak_study.specs.DayStarts.{HasBegun, all_back, begun_on, is_new_day}

-- the day has begun before
pub begun_before : (told : Option (WithMark Holding)) (at : ℤ) (head : Head) (found : Option Head) (day : Day) (o : Overlay) → found ≡ Some head → IfSome told (λ w. found ≡ w.current.head)
    → IsDayOf head.crt at day → is_new_day day head.conf ≡ false → IfSome told (λ w. HasBegun at w.current (record { day = day; starts = false }) o o)
begun_before None at head found day o some is is_day old = tt
begun_before (Some w) at head found day o some is is_day old = record { head = head; is_head = sym is ∙ some; day = is_day; starts = sym old; changes = refl }

-- the day begins
pub begins : (told : Option (WithMark Holding)) (at : ℤ) (head : Head) (found : Option Head) (day : Day) (o back made : Overlay) → found ≡ Some head → IfSome told (λ w. found ≡ w.current.head)
    → IsDayOf head.crt at day → is_new_day day head.conf ≡ true → IfSome told (λ w. back ≡ all_back w.current.rows o) → made ≡ conf_over (begun_on day head.conf) back
    → IfSome told (λ w. HasBegun at w.current (record { day = day; starts = true }) o made)
begins None at head found day o back made some is is_day new came sets = tt
begins (Some w) at head found day o back made some is is_day new came sets = record {
  head = head;
  is_head = sym is ∙ some;
  day = is_day;
  starts = sym new;
  changes = sets ∙ ap (conf_over (begun_on day head.conf)) came;
}
