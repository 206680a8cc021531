-- The grammar of searches: which texts have a tree, which tree it is, and where a text that has none goes wrong.
use Rattle.std.specs.Prelude.{◌≡◌, ℕ, zero, suc, ◌-◌, ◌==◌, nat_lt, Bool, true, false, ◌&&◌, if◌then◌else◌, List, [], ◌∷◌, map, Option, Some, None}
use Rattle.std.specs.Option.{option_or}
use Rattle.ak_search.specs.declared.tokens.Token.{Token}
use Rattle.ak_search.specs.declared.tokens.Piece.{Piece}
use Rattle.ak_search.specs.declared.tokens.Piece.TheVariants.{Test, BadValue, Open, Close, Or, And, OpenQuote}
use Rattle.ak_search.specs.declared.faults.SearchFault.{SearchFault}
use Rattle.ak_search.specs.declared.faults.SearchFault.TheVariants as faults
use Rattle.ak_search.specs.SourceChars.{source_chars}
use Rattle.ak_search.specs.Tokens.{tokens_from}
use Rattle.ak_search.specs.Trees.{Tree, pieces_of, IsWhole, Nests}

-- the tokens of a text, and the pieces that they are
abbrev pub tokens : List ℕ → List Token
tokens text = tokens_from 0 false false (source_chars text)

-- the pieces of tokens, without their places
abbrev pub pieces_in : List Token → List Piece
pieces_in ts = map (λ (t : Token). t.piece) ts

-- the text has the tree: its pieces are the tree from front to back; each `or` and `and` has a term or group on both
-- sides, and each group one inside; and groups nest at most 32 deep
pub record ReadsSearch (text : List ℕ) (tree : Tree) : Type 0 where
  pub pieces : pieces_in (tokens text) ≡ pieces_of tree
  pub whole : IsWhole false tree
  pub nests : Nests 0 tree

-- ---- the fault of a text that has no tree

-- whether pieces close a group in which so many more are open
abbrev pub closes : ℕ → List Piece → Bool
closes depth [] = false
closes depth (Test negated term ∷ ps) = closes depth ps
closes depth (BadValue ∷ ps) = closes depth ps
closes depth (Open negated ∷ ps) = closes (suc depth) ps
closes zero (Close ∷ ps) = true
closes (suc depth) (Close ∷ ps) = closes depth ps
closes depth (Or ∷ ps) = closes depth ps
closes depth (And ∷ ps) = closes depth ps
closes depth (OpenQuote ∷ ps) = closes depth ps

-- whether a term or a group begins at the first piece
abbrev pub begins_part : List Piece → Bool
begins_part [] = false
begins_part (Test negated term ∷ ps) = true
begins_part (BadValue ∷ ps) = true
begins_part (Open negated ∷ ps) = true
begins_part (Close ∷ ps) = false
begins_part (Or ∷ ps) = false
begins_part (And ∷ ps) = false
begins_part (OpenQuote ∷ ps) = true

-- whether a `)` comes first
abbrev pub begins_close : List Piece → Bool
begins_close [] = false
begins_close (Test negated term ∷ ps) = false
begins_close (BadValue ∷ ps) = false
begins_close (Open negated ∷ ps) = false
begins_close (Close ∷ ps) = true
begins_close (Or ∷ ps) = false
begins_close (And ∷ ps) = false
begins_close (OpenQuote ∷ ps) = false

-- whether a term or group ends with the piece
abbrev pub ends_part : Piece → Bool
ends_part (Test negated term) = true
ends_part BadValue = true
ends_part (Open negated) = false
ends_part Close = true
ends_part Or = false
ends_part And = false
ends_part OpenQuote = true

-- how many groups are open behind the piece
abbrev pub depth_behind : ℕ → Piece → ℕ
depth_behind depth (Test negated term) = depth
depth_behind depth BadValue = depth
depth_behind depth (Open negated) = suc depth
depth_behind depth Close = depth - 1
depth_behind depth Or = depth
depth_behind depth And = depth
depth_behind depth OpenQuote = depth

-- of an `or` or `and`: the truth value says whether a term or group ends right before
abbrev pub lone_fault : Bool → ℕ → List Piece → Option SearchFault
lone_fault before place rest = if before && begins_part rest then None else Some (faults.LoneOr place)

-- the fault of a `(`: its group is never closed, has nothing inside, or nests over 32 deep
abbrev pub group_fault : ℕ → ℕ → List Piece → Option SearchFault
group_fault depth place rest =
    if closes 0 rest then
    (if begins_close rest then Some (faults.EmptyGroup place)
    else (if nat_lt depth 32 then None else Some (faults.TooDeep place)))
    else Some (faults.OpenGroup place)

-- the fault of a piece at a place, behind so many open groups, and before the rest
abbrev pub fault_at : ℕ → Bool → ℕ → Piece → List Piece → Option SearchFault
fault_at depth before place (Test negated term) rest = None
fault_at depth before place BadValue rest = Some (faults.BadValue place)
fault_at depth before place (Open negated) rest = group_fault depth place rest
fault_at depth before place Close rest = if depth == 0 then Some (faults.EmptyGroup place) else None
fault_at depth before place Or rest = lone_fault before place rest
fault_at depth before place And rest = lone_fault before place rest
fault_at depth before place OpenQuote rest = Some (faults.OpenQuote place)

-- the first fault of tokens. Places ascend, and a token has one fault, so it is the fault with the least place
abbrev pub fault_in : ℕ → Bool → List Token → Option SearchFault
fault_in depth before [] = None
fault_in depth before (t ∷ ts) = option_or (fault_at depth before t.place t.piece (pieces_in ts)) (fault_in (depth_behind depth t.piece) (ends_part t.piece) ts)

-- the first fault of a text, if it has one
abbrev pub first_fault : List ℕ → Option SearchFault
first_fault text = fault_in 0 false (tokens text)

-- the byte place that a fault names
abbrev pub place_of : SearchFault → ℕ
place_of (faults.OpenQuote place) = place
place_of (faults.OpenGroup place) = place
place_of (faults.EmptyGroup place) = place
place_of (faults.LoneOr place) = place
place_of (faults.BadValue place) = place
place_of (faults.TooDeep place) = place
place_of faults.Memory = 0

-- the number of a fault among the refusals
abbrev pub fault_number : SearchFault → ℕ
fault_number (faults.OpenQuote place) = 1
fault_number (faults.OpenGroup place) = 2
fault_number (faults.EmptyGroup place) = 3
fault_number (faults.LoneOr place) = 4
fault_number (faults.BadValue place) = 5
fault_number (faults.TooDeep place) = 6
fault_number faults.Memory = 0
