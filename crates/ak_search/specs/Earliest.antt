-- From which review on a search asks for answers.
use Rattle.std.specs.Prelude.{◌≡◌, ℤ, true, false, ◌||◌, int_lt, List}
use Rattle.ak_base.specs.declared.days.Day.{Day}
use Rattle.ak_search.specs.Passes.{asks_before, needs_answers, some_term}
use Rattle.ak_search.specs.declared.earliest.Earliest.{Earliest}
use Rattle.ak_search.specs.declared.terms.Term.{Term}
use Rattle.ak_search.specs.declared.tokens.Piece.{Piece}

-- nothing is asked before this id
abbrev pub IsFrom : Earliest → ℤ → Type 0
IsFrom earliest id = earliest.asked ≡ true → int_lt earliest.least id ≡ false

-- that id is asked from too
pub record LowersTo (least : ℤ) (old new : Earliest) : Type 0 where
  pub asked : new.asked ≡ true
  pub before : (id : ℤ) → IsFrom new id → IsFrom old id
  pub own : (id : ℤ) → IsFrom new id → int_lt least id ≡ false

-- what the term asks is asked too
pub record AsksFromTerm (day : Day) (old new : Earliest) (term : Term) : Type 0 where
  pub asked : new.asked ≡ (old.asked || needs_answers term)
  pub before : (id : ℤ) → IsFrom new id → IsFrom old id
  pub own : (id : ℤ) → IsFrom new id → asks_before day id term ≡ false

-- what the pieces ask is asked too
pub record AsksFrom (day : Day) (old new : Earliest) (ps : List Piece) : Type 0 where
  pub asked : new.asked ≡ (old.asked || some_term needs_answers ps)
  pub before : (id : ℤ) → IsFrom new id → IsFrom old id
  pub own : (id : ℤ) → IsFrom new id → some_term (asks_before day id) ps ≡ false
