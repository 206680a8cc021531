-- Something with a mark to go back to, and what the steps make of it.
use Rattle.std.specs.Prelude.{Option, Some, None}
use Rattle.std.specs.Option.{option_map, unwrap_or}

-- something current, and while it is marked, what it was at the mark
pub record WithMark (T : Type 0) : Type 0 where
  pub current : T
  pub mark : Option T

-- the current one changed, and the mark as it was
abbrev pub changed : {T : Type 0} → (T → T) → WithMark T → WithMark T
changed step w = record { current = step w.current; mark = w.mark }

-- marked at the current one
abbrev pub marked_here : {T : Type 0} → WithMark T → WithMark T
marked_here w = record { current = w.current; mark = Some w.current }

-- back at the one of the mark, and not marked
abbrev pub back : {T : Type 0} → WithMark T → WithMark T
back w = record { current = unwrap_or w.mark w.current; mark = None }

-- the changes stay, and it is not marked
abbrev pub committed : {T : Type 0} → WithMark T → WithMark T
committed w = record { current = w.current; mark = None }

-- something else of both, the current one and the one of the mark
abbrev pub of_both : {T U : Type 0} → (T → U) → WithMark T → WithMark U
of_both f w = record { current = f w.current; mark = option_map f w.mark }
