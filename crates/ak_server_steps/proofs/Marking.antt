-- Keepers that are marked.
use Rattle.std.specs.Option.{option_map}
use Rattle.std.specs.Prelude.{◌≡◌, Option, Some, None}
use Rattle.std.proofs.Common.{refl, sym, ap, ◌∙◌}
use Rattle.ak_keep.specs.Collections.{Holding}
use Rattle.ak_keep.specs.Keepers.{Keeping, back, committed}
use Rattle.ak_keep.specs.Marks as marks
use Rattle.ak_keep.specs.Marks.{WithMark}

told_committed : (t : Option (WithMark Holding)) → option_map marks.back (option_map marks.committed t) ≡ option_map marks.committed t
told_committed None = refl
told_committed (Some w) = refl

-- what is committed has no mark to go back to
back_committed : (k : Keeping) → back (committed k) ≡ committed k
back_committed k = ap (λ (t : Option (WithMark Holding)). record { headed = marks.committed k.headed; told = t }) (told_committed k.told)

-- a mark leads back to what an unmarked keeper goes back to, which is itself
pub back_stays : (old new : Keeping) → committed new ≡ old → back new ≡ old → back new ≡ back old
back_stays old new commits leads = leads ∙ sym commits ∙ sym (back_committed new) ∙ ap back commits
