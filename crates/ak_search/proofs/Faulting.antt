-- No fault of a text is that memory ran out.
use Rattle.std.specs.Prelude.{◌≢◌, ℕ, ◌&&◌, ◌==◌, nat_lt, Bool, true, false, cond, List, [], ◌∷◌, Option, Some, None, IfSome}
use Rattle.std.specs.Option.{option_or}
use Rattle.ak_search.specs.Grammar.{begins_close, begins_part, closes, depth_behind, ends_part, fault_at, fault_in, first_fault, pieces_in, tokens}
use Rattle.ak_search.specs.declared.faults.SearchFault.{SearchFault}
use Rattle.ak_search.specs.declared.faults.SearchFault.TheVariants as faults
use Rattle.ak_search.specs.declared.tokens.Piece.{Piece}
use Rattle.ak_search.specs.declared.tokens.Piece.TheVariants.{Test, BadValue, Open, Close, Or, And, OpenQuote}
use Rattle.ak_search.specs.declared.tokens.Token.{Token}

abbrev OfText : Option SearchFault → Type 0
OfText fault = IfSome fault (λ fault. fault ≢ faults.Memory)

of_either : (b : Bool) (one other : Option SearchFault) → OfText one → OfText other → OfText (cond b one other)
of_either true one other h k = h
of_either false one other h k = k

of_first : (one other : Option SearchFault) → OfText one → OfText other → OfText (option_or one other)
of_first None other h k = k
of_first (Some fault) other h k = h

of_piece : (depth : ℕ) (before : Bool) (place : ℕ) (piece : Piece) (rest : List Piece) → OfText (fault_at depth before place piece rest)
of_piece depth before place (Test negated term) rest = tt
of_piece depth before place BadValue rest = λ is. cc
of_piece depth before place (Open negated) rest =
    of_either (closes 0 rest) _ _
    (of_either (begins_close rest) (Some (faults.EmptyGroup place)) _ (λ is. cc) (of_either (nat_lt depth 32) None (Some (faults.TooDeep place)) tt (λ is. cc)))
    (λ is. cc)
of_piece depth before place Close rest = of_either (depth == 0) (Some (faults.EmptyGroup place)) None (λ is. cc) tt
of_piece depth before place Or rest = of_either (before && begins_part rest) None (Some (faults.LoneOr place)) tt (λ is. cc)
of_piece depth before place And rest = of_either (before && begins_part rest) None (Some (faults.LoneOr place)) tt (λ is. cc)
of_piece depth before place OpenQuote rest = λ is. cc

of_tokens : (depth : ℕ) (before : Bool) (ts : List Token) → OfText (fault_in depth before ts)
of_tokens depth before [] = tt
of_tokens depth before (t ∷ ts) = of_first (fault_at depth before t.place t.piece (pieces_in ts)) _ (of_piece depth before t.place t.piece (pieces_in ts)) (of_tokens (depth_behind depth t.piece) (ends_part t.piece) ts)

pub of_text : (text : List ℕ) → IfSome (first_fault text) (λ fault. fault ≢ faults.Memory)
of_text text = of_tokens 0 false (tokens text)
