-- What an end that gives one value at a time, as a clock or a chance, has still to give.
use Rattle.std.specs.Prelude.{◌≡◌, ℤ, pos, List, [], ◌∷◌, Option, Some, None}
use Rattle.ak_base.specs.Heads.{IsWithin}

-- the first of what is to come is given and gone, if that is told; the last one stays
abbrev pub GivesNext : {T : Type 0} → Option (List T) → Option (List T) → T → Type 0
GivesNext None new given = new ≡ None
GivesNext (Some []) new given = ⊥
GivesNext (Some (first ∷ [])) new given = (given ≡ first) × (new ≡ Some (first ∷ []))
GivesNext (Some (first ∷ second ∷ more)) new given = (given ≡ first) × (new ≡ Some (second ∷ more))

-- what a clock promises: a moment in milliseconds from 1970 on, so that its second fits a stamp
abbrev pub IsClockMoment : ℤ → Type 0
IsClockMoment moment = IsWithin (pos 0) (pos 4_294_967_294_999) moment
