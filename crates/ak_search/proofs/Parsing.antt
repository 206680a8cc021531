-- What is read of a text without a fault, and of one with a tree.
use Rattle.std.proofs.Common.{◌≡◌, ℕ, Some, None, List, Result, Ok, Err, IfOk, OnOk, IfErr, ◌⊎◌, inl, inr, ◌<◌, length, ap, ◌∙◌, arith}
use Rattle.ak_search.specs.declared.faults.SearchFault.{SearchFault}
use Rattle.ak_search.specs.declared.faults.SearchFault.TheVariants as faults
use Rattle.ak_search.specs.declared.parses.Expr.{Expr}
use Rattle.ak_search.specs.Trees.{Tree, pieces_of}
use Rattle.ak_search.specs.Grammar.{ReadsSearch, first_fault, place_of, tokens, pieces_in}
use Rattle.ak_search.proofs.Grammars.{has_tree, no_fault}
use Rattle.ak_search.proofs.Places.{named_within}
use Rattle.std.proofs.Math.Utf8.{encodes}
use Rattle.std.specs.Str.{chars}

pub tree_read : (text : List ℕ) (r : Result Expr SearchFault) → OnOk r (first_fault text ≡ None) → IfOk r (λ expr. expr.tokens.items ≡ tokens text) → IfOk r (λ expr. (tree : Tree) × ReadsSearch text tree × (pieces_in expr.tokens.items ≡ pieces_of tree))
tree_read text (Ok expr) n s = let found = has_tree text n in (found.0, found.1, ap pieces_in s ∙ found.1.pieces)
tree_read text (Err fault) n s = tt

pub no_memory : (text : List ℕ) (r : Result Expr SearchFault) (tree : Tree) → ReadsSearch text tree → IfErr r (λ fault. (fault ≡ faults.Memory) ⊎ (first_fault text ≡ Some fault)) → IfErr r (λ fault. fault ≡ faults.Memory)
no_memory text (Ok expr) tree h e = tt
no_memory text (Err fault) tree h e = grind (arith, e, no_fault text tree h)

pub inside : (text : List ℕ) (r : Result Expr SearchFault) → encodes (chars text) ≡ text → IfErr r (λ fault. (fault ≡ faults.Memory) ⊎ (first_fault text ≡ Some fault)) → IfErr r (λ fault. (fault ≡ faults.Memory) ⊎ (place_of fault < length text))
inside text (Ok expr) utf8 h = tt
inside text (Err fault) utf8 (inl memory) = inl memory
inside text (Err fault) utf8 (inr first) = inr (named_within text fault utf8 first)
