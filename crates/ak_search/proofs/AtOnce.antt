-- A term that fails at once settles a search with no `or` outside its groups.
use Rattle.std.proofs.Common.{◌≡◌, ℕ, zero, suc, ◌-◌, ◌==◌, cond, Bool, true, false, not, ◌&&◌, ◌||◌, List, [], ◌∷◌, Option, Some, None, IfSome, refl, ap, sym, ◌∙◌, arith}
use Rattle.std.specs.Cmp.{first_so, second_so}
use Rattle.ak_base.specs.declared.cards.Card.{Card}
use Rattle.ak_keep.specs.Collections.{Holding, Rows}
use Rattle.ak_keep.specs.Marks.{WithMark}
use Rattle.ak_search.specs.AtOnce.{is_known_at_once, fails_at_once, holds_at_once, some_term_fails}
use Rattle.ak_search.specs.Meanings.{negated_by, walk}
use Rattle.ak_search.specs.Passes.{Stays, asked, tested}
use Rattle.ak_search.specs.declared.evaluator.Group.{Group as Outer}
use Rattle.ak_search.specs.declared.holds.SearchContext.{SearchContext}
use Rattle.ak_search.specs.declared.related.Latest.{Latest}
use Rattle.ak_search.specs.declared.terms.Term.TheVariants as terms
use Rattle.ak_search.specs.declared.terms.Term.{Term}
use Rattle.ak_search.specs.declared.tokens.Piece.{Piece}
use Rattle.ak_search.specs.declared.tokens.Piece.TheVariants.{Test, BadValue, Open, Close, Or, And, OpenQuote}

true_false : {b : Bool} → b ≡ true → b ≡ false → ⊥
true_false h g = cc

-- so many groups are open. Outside them no alternative was met, and if a part failed, not all parts hold
abbrev Below : ℕ → Bool → List Outer → Bool → Bool → Type 0
Below zero failed [] either all = (either ≡ false) × (failed ≡ true → all ≡ false)
Below zero failed (group ∷ outer) either all = ⊥
Below (suc depth) failed [] either all = ⊥
Below (suc depth) failed (group ∷ outer) either all = Below depth failed outer group.either group.all

one_part_more : (depth : ℕ) (failed : Bool) (outer : List Outer) (either all part : Bool) → Below depth failed outer either all → Below depth failed outer either (all && part)
one_part_more zero failed [] either all part h = (h.0, λ f. ap (λ v. v && part) (h.1 f))
one_part_more zero failed (group ∷ outer) either all part h = h
one_part_more (suc depth) failed [] either all part h = h
one_part_more (suc depth) failed (group ∷ outer) either all part h = h

and_false : (v : Bool) → (v && false) ≡ false
and_false true = refl
and_false false = refl

one_fails : (failed fails all part : Bool) → (failed ≡ true → all ≡ false) → (fails ≡ true → part ≡ false) → (failed || fails) ≡ true → (all && part) ≡ false
one_fails true fails all part f g e = ap (λ v. v && part) (f refl)
one_fails false true all part f g e = ap (λ v. all && v) (g refl) ∙ and_false all
one_fails false false all part f g e = absurd (grind (arith, e))

apart_from_zero : (depth : ℕ) → (suc depth == 0) ≡ false
apart_from_zero depth = grind arith

one_less : (depth : ℕ) → suc depth - 1 ≡ depth
one_less depth = omega arith

-- whatever holds of the card, as long as the terms that fail do not
unmet : (holds : Term → Bool) (fails : Bool → Term → Bool) → ((negated : Bool) (term : Term) → fails negated term ≡ true → negated_by negated (holds term) ≡ false)
    → (depth : ℕ) (failed : Bool) (outer : List Outer) (either all : Bool) (ps : List Piece) → Below depth failed outer either all → some_term_fails fails depth failed ps ≡ true → walk holds outer either all ps ≡ false
unmet holds fails agree zero failed [] either all [] h e = ap (λ v. v || all) h.0 ∙ h.1 e
unmet holds fails agree zero failed (group ∷ outer) either all ps h e = absurd h
unmet holds fails agree (suc depth) failed outer either all [] h e = absurd (true_false (first_so _ _ e) (apart_from_zero depth))
unmet holds fails agree (suc depth) failed [] either all ps h e = absurd h
unmet holds fails agree zero failed [] either all (Test negated term ∷ ps) h e =
    unmet holds fails agree zero (failed || fails negated term) [] either (all && negated_by negated (holds term)) ps (h.0, one_fails failed (fails negated term) all (negated_by negated (holds term)) h.1 (agree negated term)) e
unmet holds fails agree (suc depth) failed (group ∷ outer) either all (Test negated term ∷ ps) h e =
    unmet holds fails agree (suc depth) failed (group ∷ outer) either (all && negated_by negated (holds term)) ps h
    (sym (ap (λ v. cond v (some_term_fails fails (suc depth) (failed || fails negated term) ps) (some_term_fails fails (suc depth) failed ps)) (apart_from_zero depth)) ∙ e)
unmet holds fails agree zero failed [] either all (BadValue ∷ ps) h e = unmet holds fails agree zero failed [] either all ps h e
unmet holds fails agree (suc depth) failed (group ∷ outer) either all (BadValue ∷ ps) h e = unmet holds fails agree (suc depth) failed (group ∷ outer) either all ps h e
unmet holds fails agree zero failed [] either all (Open negated ∷ ps) h e = unmet holds fails agree (suc zero) failed (record { negated = negated; either = either; all = all } ∷ []) false true ps h e
unmet holds fails agree (suc depth) failed (group ∷ outer) either all (Open negated ∷ ps) h e =
    unmet holds fails agree (suc (suc depth)) failed (record { negated = negated; either = either; all = all } ∷ (group ∷ outer)) false true ps h e
unmet holds fails agree zero failed [] either all (Close ∷ ps) h e = unmet holds fails agree zero failed [] either all ps h e
unmet holds fails agree (suc depth) failed (group ∷ outer) either all (Close ∷ ps) h e =
    unmet holds fails agree depth failed outer group.either (group.all && negated_by group.negated (either || all)) ps (one_part_more depth failed outer group.either group.all (negated_by group.negated (either || all)) h)
    (sym (ap (λ d. some_term_fails fails d failed ps) (one_less depth)) ∙ e)
unmet holds fails agree zero failed [] either all (Or ∷ ps) h e = absurd (grind (arith, e))
unmet holds fails agree (suc depth) failed (group ∷ outer) either all (Or ∷ ps) h e = unmet holds fails agree (suc depth) failed (group ∷ outer) (either || all) true ps h (second_so _ _ e)
unmet holds fails agree zero failed [] either all (And ∷ ps) h e = unmet holds fails agree zero failed [] either all ps h e
unmet holds fails agree (suc depth) failed (group ∷ outer) either all (And ∷ ps) h e = unmet holds fails agree (suc depth) failed (group ∷ outer) either all ps h e
unmet holds fails agree zero failed [] either all (OpenQuote ∷ ps) h e = unmet holds fails agree zero failed [] either all ps h e
unmet holds fails agree (suc depth) failed (group ∷ outer) either all (OpenQuote ∷ ps) h e = unmet holds fails agree (suc depth) failed (group ∷ outer) either all ps h e

-- what a term that needs neither note nor deck does, whatever they are
tested_at_once : (context : SearchContext) (held : Rows) (c : Card) (term : Term) → is_known_at_once term ≡ true → holds_at_once context.day context.answers c term ≡ tested context held c term
tested_at_once context held c (terms.Contains pattern) h = absurd (grind (arith, h))
tested_at_once context held c (terms.Word pattern) h = absurd (grind (arith, h))
tested_at_once context held c (terms.Field name pattern) h = absurd (grind (arith, h))
tested_at_once context held c (terms.Deck pattern) h = absurd (grind (arith, h))
tested_at_once context held c (terms.Tag pattern) h = absurd (grind (arith, h))
tested_at_once context held c terms.Untagged h = absurd (grind (arith, h))
tested_at_once context held c (terms.NoteType pattern) h = absurd (grind (arith, h))
tested_at_once context held c (terms.Template pattern) h = absurd (grind (arith, h))
tested_at_once context held c (terms.InState state) h = refl
tested_at_once context held c (terms.Prop what comparison bound) h = refl
tested_at_once context held c (terms.Flag number) h = refl
tested_at_once context held c (terms.Rated days) h = refl
tested_at_once context held c (terms.RatedWith days ease) h = refl
tested_at_once context held c (terms.Added days) h = refl
tested_at_once context held c (terms.Edited days) h = absurd (grind (arith, h))
tested_at_once context held c (terms.NoteIds ids) h = refl
tested_at_once context held c (terms.CardIds ids) h = refl

not_so : (v : Bool) → not v ≡ true → v ≡ false
not_so true h = absurd (grind (arith, h))
not_so false h = refl

fails_so : (context : SearchContext) (held : Rows) (c : Card) (negated : Bool) (term : Term) → fails_at_once context.day context.answers c negated term ≡ true → negated_by negated (tested context held c term) ≡ false
fails_so context held c negated term h =
    ap (negated_by negated) (sym (tested_at_once context held c term (first_so _ _ h))) ∙ not_so _ (second_so _ _ h)

pub fails_told : (context : SearchContext) (c : Card) (ps : List Piece) → some_term_fails (fails_at_once context.day context.answers c) 0 false ps ≡ true → (held : Rows) → asked ps (tested context held c) ≡ false
fails_told context c ps h = λ held. unmet (tested context held c) (fails_at_once context.day context.answers c) (fails_so context held c) 0 false [] false true ps (refl, λ e. sym e) h

pub fails_stays : (told : Option (WithMark Holding)) (context : SearchContext) (c : Card) (latest : Latest) (ps : List Piece) → ((held : Rows) → asked ps (tested context held c) ≡ false)
    → IfSome told (λ held. Stays latest latest held.current.rows (false ≡ asked ps (tested context held.current.rows c)))
fails_stays None context c latest ps h = tt
fails_stays (Some held) context c latest ps h = λ is. (is, sym (h held.current.rows))
