-- The tree of a search, and the pieces that it is written as.
use Rattle.std.specs.Prelude.{◌≡◌, ℕ, suc, ◌<◌, Bool, true, false, List, [], ◌∷◌, ◌++◌, ⊤}
use Rattle.ak_search.specs.declared.terms.Term.{Term}
use Rattle.ak_search.specs.declared.tokens.Piece.{Piece}
use Rattle.ak_search.specs.declared.tokens.Piece.TheVariants.{Test, Open, Close, Or, And}

-- what stands in a search, or in a group, in order: nothing more, or a term, a group with parts of its own, or one of
-- the words `or` and `and`, and what stands behind it. A term or group may be negated
pub data Tree : Type 0 where
  End : Tree
  Asks : Bool → Term → Tree → Tree
  Group : Bool → Tree → Tree → Tree
  Either : Tree → Tree
  Also : Tree → Tree

-- from front to back: a group is opened, its inside stands, and it is closed
abbrev pub pieces_of : Tree → List Piece
pieces_of End = []
pieces_of (Asks negated term after) = Test negated term ∷ pieces_of after
pieces_of (Group negated inside after) = Open negated ∷ (pieces_of inside ++ (Close ∷ pieces_of after))
pieces_of (Either after) = Or ∷ pieces_of after
pieces_of (Also after) = And ∷ pieces_of after

-- whether a term or group stands first
abbrev pub begins : Tree → Bool
begins End = false
begins (Asks negated term after) = true
begins (Group negated inside after) = true
begins (Either after) = false
begins (Also after) = false

-- each `or` and `and` has a term or group on both sides, and each group one inside. The truth value says whether one
-- stands right before
abbrev pub IsWhole : Bool → Tree → Type 0
IsWhole before End = ⊤
IsWhole before (Asks negated term after) = IsWhole true after
IsWhole before (Group negated inside after) = (begins inside ≡ true) × IsWhole false inside × IsWhole true after
IsWhole before (Either after) = (before ≡ true) × (begins after ≡ true) × IsWhole false after
IsWhole before (Also after) = (before ≡ true) × (begins after ≡ true) × IsWhole false after

-- below that many open groups none is opened while 32 are open
abbrev pub Nests : ℕ → Tree → Type 0
Nests depth End = ⊤
Nests depth (Asks negated term after) = Nests depth after
Nests depth (Group negated inside after) = (depth < 32) × Nests (suc depth) inside × Nests depth after
Nests depth (Either after) = Nests depth after
Nests depth (Also after) = Nests depth after
