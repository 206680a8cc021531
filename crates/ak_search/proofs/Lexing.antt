-- Characters are cut token by token.
use Rattle.std.proofs.Common.{◌≡◌, ℕ, zero, suc, ◌-◌, ◌==◌, Bool, true, false, not, cond, List, [], ◌∷◌, ◌++◌, length, take, drop, refl, ap, sym, ◌∙◌, arith, length-drop, append_assoc}
use Rattle.std.proofs.lemmas.List.{take_all}
use Rattle.ak_search.specs.declared.source_chars.SourceChar.{SourceChar}
use Rattle.ak_search.specs.declared.tokens.Token.{Token}
use Rattle.ak_search.specs.Tokens.{placed, next_lexeme, is_negated_by, tokens_from}

taken_source_chars : (skip : ℕ) (minus negated : Bool) (ss : List SourceChar) → tokens_from skip minus negated ss ≡ tokens_from 0 minus negated (drop skip ss)
taken_source_chars zero minus negated ss = refl
taken_source_chars (suc skip) minus negated [] = refl
taken_source_chars (suc skip) minus negated (s ∷ ss) = taken_source_chars skip minus negated ss

pub one_token : (done : List Token) (minus negated : Bool) (s : SourceChar) (ss : List SourceChar) (skip : ℕ) → (s.letter == 32) ≡ false → is_negated_by s ss ≡ false → skip ≡ (next_lexeme minus negated s ss).size - 1
    → (done ++ (placed (next_lexeme minus negated s ss) ∷ [])) ++ tokens_from 0 false false (take (length ss - skip) (drop skip ss)) ≡ done ++ tokens_from 0 minus negated (s ∷ ss)
one_token done minus negated s ss skip space dash e =
    let token = placed (next_lexeme minus negated s ss) in
    let left = take_all (length ss - skip) (drop skip ss) (omega (arith, length-drop skip ss)) in
    append_assoc done (token ∷ []) (tokens_from 0 false false (take (length ss - skip) (drop skip ss)))
    ∙ ap (λ rest. done ++ (token ∷ tokens_from 0 false false rest)) left
    ∙ ap (λ rest. done ++ (token ∷ rest)) (sym (taken_source_chars skip false false ss))
    ∙ ap (λ n. done ++ (token ∷ tokens_from n false false ss)) e
    ∙ ap (λ v. done ++ cond v (tokens_from 0 true (not negated) ss) (token ∷ tokens_from ((next_lexeme minus negated s ss).size - 1) false false ss)) (sym dash)
    ∙ ap (λ v. done ++ cond v (tokens_from 0 minus negated ss) (cond (is_negated_by s ss) (tokens_from 0 true (not negated) ss) (token ∷ tokens_from ((next_lexeme minus negated s ss).size - 1) false false ss))) (sym space)
