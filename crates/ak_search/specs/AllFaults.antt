-- All faults of a text, of which the first is answered.
use Rattle.std.specs.Prelude.{ℕ, Bool, false, List, [], ◌∷◌, ◌++◌}
use Rattle.std.specs.Option.{option_to_list}
use Rattle.ak_search.specs.declared.faults.SearchFault.{SearchFault}
use Rattle.ak_search.specs.declared.tokens.Token.{Token}
use Rattle.ak_search.specs.Grammar.{depth_behind, ends_part, fault_at, pieces_in, tokens}

-- the faults of tokens behind so many open groups, in the order of the tokens
abbrev pub faults_in : ℕ → Bool → List Token → List SearchFault
faults_in depth before [] = []
faults_in depth before (t ∷ ts) = option_to_list (fault_at depth before t.place t.piece (pieces_in ts)) ++ faults_in (depth_behind depth t.piece) (ends_part t.piece) ts

-- all faults of a text, by ascending place
abbrev pub all_faults : List ℕ → List SearchFault
all_faults text = faults_in 0 false (tokens text)
