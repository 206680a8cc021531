-- From which review on the pieces of a search ask for answers.
use Rattle.std.proofs.Common.{◌≡◌, ◌≤◌, ℕ, ℤ, Bool, false, ◌||◌, int_lt, List, [], ◌∷◌, drop, length, refl, sym, ap, ◌∙◌, arith}
use Rattle.std.proofs.lemmas.Int.{ints}
use Rattle.std.proofs.lemmas.List.{drop_all}
use Rattle.std.proofs.Math.Bool.{or_assoc, or-false}
use Rattle.ak_base.specs.declared.days.Day.{Day}
use Rattle.ak_search.specs.Earliest.{AsksFrom, IsFrom}
use Rattle.ak_search.specs.Grammar.{pieces_in}
use Rattle.ak_search.specs.Passes.{asks_before, needs_answers, some_term}
use Rattle.ak_search.specs.declared.earliest.Earliest.{Earliest}
use Rattle.ak_search.specs.declared.terms.Term.{Term}
use Rattle.ak_search.specs.declared.tokens.Piece.{Piece}
use Rattle.ak_search.specs.declared.tokens.Piece.TheVariants.{Test, BadValue, Open, Close, Or, And, OpenQuote}
use Rattle.ak_search.specs.declared.tokens.Token.{Token}

-- the first piece, and the others
some_first : (test : Term → Bool) (p : Piece) (ps : List Piece) → some_term test (p ∷ ps) ≡ (some_term test (p ∷ []) || some_term test ps)
some_first test (Test negated term) ps = ap (λ b. b || some_term test ps) (sym (or-false (test term)))
some_first test BadValue ps = refl
some_first test (Open negated) ps = refl
some_first test Close ps = refl
some_first test Or ps = refl
some_first test And ps = refl
some_first test OpenQuote ps = refl

-- what was passed asks from there, if what is left does
abbrev pub AskSo : Day → Earliest → List Piece → List Piece → Type 0
AskSo day earliest left ps = (id : ℤ) → IsFrom earliest id → some_term (asks_before day id) left ≡ false → some_term (asks_before day id) ps ≡ false

-- one more piece was taken in
pub asked_more : (day : Day) (old new : Earliest) (p : Piece) (left ps : List Piece) → AsksFrom day old new (p ∷ []) → (old.asked || some_term needs_answers (p ∷ left)) ≡ some_term needs_answers ps
    → (new.asked || some_term needs_answers left) ≡ some_term needs_answers ps
asked_more day old new p left ps takes so_far =
    ap (λ b. b || some_term needs_answers left) takes.asked ∙ or_assoc old.asked (some_term needs_answers (p ∷ [])) (some_term needs_answers left)
    ∙ ap (λ b. old.asked || b) (sym (some_first needs_answers p left)) ∙ so_far

pub asks_more : (day : Day) (old new : Earliest) (p : Piece) (left ps : List Piece) → AsksFrom day old new (p ∷ []) → AskSo day old (p ∷ left) ps → AskSo day new left ps
asks_more day old new p left ps takes so_far = λ id from none.
    so_far id (takes.before id from) (some_first (asks_before day id) p left ∙ ap (λ b. b || some_term (asks_before day id) left) (takes.own id from) ∙ none)

-- no piece is left
not_below : (id : ℤ) → int_lt id id ≡ false
not_below id = grind (arith, ints)

pub asked_from : (day : Day) (earliest : Earliest) (tokens : List Token) (i : ℕ) → length tokens ≤ i → AskSo day earliest (pieces_in (drop i tokens)) (pieces_in tokens) → some_term (asks_before day earliest.least) (pieces_in tokens) ≡ false
asked_from day earliest tokens i done so =
    so earliest.least (λ _. not_below earliest.least) (ap (λ (ts : List Token). some_term (asks_before day earliest.least) (pieces_in ts)) (drop_all i tokens done))
