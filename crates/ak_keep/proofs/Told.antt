-- What is true of all that a keeper may hold, if it tells it.
use Rattle.std.specs.Prelude.{Option, Some, None, IfSome}
use Rattle.ak_keep.specs.Collections.{Holding}
use Rattle.ak_keep.specs.Keepers.{Keeping, WhereTold}
use Rattle.ak_keep.specs.Marks.{WithMark}

told-map : (P Q : Holding → Type 0) (told : Option (WithMark Holding)) → ((h : Holding) → P h → Q h) → IfSome told (λ w. P w.current) → IfSome told (λ w. Q w.current)
told-map P Q None step h = tt
told-map P Q (Some w) step h = step w.current h

-- what follows from what is true of it
pub where_told-map : (k : Keeping) (P Q : Holding → Type 0) → ((h : Holding) → P h → Q h) → WhereTold k P → WhereTold k Q
where_told-map k P Q step h = told-map P Q k.told step h
