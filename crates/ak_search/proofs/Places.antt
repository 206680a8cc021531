-- Faults are named inside the text.
use Rattle.std.proofs.Common.{◌≡◌, ℕ, zero, suc, ◌+◌, ◌-◌, ◌<◌, ◌≤◌, ◌==◌, nat_lt, Bool, true, false, not, ◌&&◌, cond, Option, Some, None, List, [], ◌∷◌, ◌++◌, length, take, drop, ap, subst, ◌∙◌, arith, length-append}
use Rattle.std.specs.Prelude.{⊤}
use Rattle.std.specs.Char.{len_utf8}
use Rattle.std.specs.Str.{chars}
use Rattle.std.specs.Option.{option_or}
use Rattle.std.proofs.Math.Utf8.{encode, encodes}
use Rattle.std.proofs.lemmas.Str.{length-encode, len_utf8_bounds}
use Rattle.ak_search.specs.declared.source_chars.SourceChar.{SourceChar}
use Rattle.ak_search.specs.declared.tokens.Token.{Token}
use Rattle.ak_search.specs.declared.tokens.Piece.{Piece}
use Rattle.ak_search.specs.declared.tokens.Piece.TheVariants.{Test, BadValue, Open, Close, Or, And, OpenQuote}
use Rattle.ak_search.specs.declared.faults.SearchFault.{SearchFault}
use Rattle.ak_search.specs.declared.faults.SearchFault.TheVariants as faults
use Rattle.ak_search.specs.SourceChars.{is_escapable, is_bare, source_char, next_source_chars, next_slash, source_chars_from, source_chars, until}
use Rattle.ak_search.specs.Terms.{term_of}
use Rattle.ak_search.specs.Tokens.{quote_at, is_negated_by, piece_of, word_size, lexeme, quoted_lexeme, word_lexeme_of, word_lexeme, next_lexeme, placed, tokens_from}
use Rattle.ak_search.specs.Grammar.{place_of, tokens, pieces_in, closes, begins_part, begins_close, depth_behind, ends_part, fault_at, fault_in, first_fault}

-- ---- characters

abbrev Below : ℕ → List SourceChar → Type 0
Below n [] = ⊤
Below n (s ∷ ss) = (s.place < n) × Below n ss

below_both : (n : ℕ) (xs ys : List SourceChar) → Below n xs → Below n ys → Below n (xs ++ ys)
below_both n [] ys h g = g
below_both n (x ∷ xs) ys h g = (h.0, below_both n xs ys h.1 g)

below_drop : (n k : ℕ) (xs : List SourceChar) → Below n xs → Below n (drop k xs)
below_drop n zero xs h = h
below_drop n (suc k) [] h = tt
below_drop n (suc k) (x ∷ xs) h = below_drop n k xs h.1

below_take : (n k : ℕ) (xs : List SourceChar) → Below n xs → Below n (take k xs)
below_take n zero xs h = tt
below_take n (suc k) [] h = tt
below_take n (suc k) (x ∷ xs) h = (h.0, below_take n k xs h.1)

-- the place, if there is one
abbrev PlaceBelow : ℕ → Option ℕ → Type 0
PlaceBelow n None = ⊤
PlaceBelow n (Some place) = place < n

next_below : (n : ℕ) (slash : Option ℕ) (place letter : ℕ) → PlaceBelow n slash → place < n → Below n (next_source_chars slash place letter)
next_below n None place letter h l = elim (letter == 92) as (λ v. Below n (cond v [] (source_char false place letter ∷ []))) [ true ↦ tt | false ↦ (l, tt) ]
next_below n (Some slash) place letter h l = elim (is_escapable letter) as (λ v. Below n (cond v (source_char true slash letter ∷ []) (source_char false slash 92 ∷ (source_char false place letter ∷ [])))) [ true ↦ (h, tt) | false ↦ (h, (l, tt)) ]

slash_below : (n : ℕ) (slash : Option ℕ) (place letter : ℕ) → place < n → PlaceBelow n (next_slash slash place letter)
slash_below n None place letter l = elim (letter == 92) as (λ v. PlaceBelow n (cond v (Some place) None)) [ true ↦ l | false ↦ tt ]
slash_below n (Some slash) place letter l = tt

source_chars_below : (n : ℕ) (slash : Option ℕ) (place : ℕ) (letters : List ℕ) → place + length (encodes letters) ≤ n → PlaceBelow n slash → Below n (source_chars_from slash place letters)
source_chars_below n None place [] l h = tt
source_chars_below n (Some slash) place [] l h = (h, tt)
source_chars_below n slash place (c ∷ cs) l h =
    let long : length (encodes (c ∷ cs)) ≡ len_utf8 c + length (encodes cs) = length-append (encode c) (encodes cs) ∙ ap (λ k. k + length (encodes cs)) (length-encode c) in
    let few : place + len_utf8 c + length (encodes cs) ≤ n = omega (arith, l, long) in
    let here : place < n = omega (arith, few, (len_utf8_bounds c).0) in
    below_both n (next_source_chars slash place c) (source_chars_from (next_slash slash place c) (place + len_utf8 c) cs) (next_below n slash place c h here) (source_chars_below n (next_slash slash place c) (place + len_utf8 c) cs few (slash_below n slash place c here))

-- ---- tokens

quote_below : (n : ℕ) (xs : List SourceChar) → Below n xs → PlaceBelow n (quote_at xs)
quote_below n [] h = tt
quote_below n (s ∷ ss) h = elim (is_bare 34 s) as (λ v. PlaceBelow n (cond v (Some s.place) None)) [ true ↦ h.0 | false ↦ tt ]

quoted_below : (n : ℕ) (negated : Bool) (before : List SourceChar) (place quote : ℕ) (rest : List SourceChar) → place < n → quote < n → (quoted_lexeme negated before place quote rest).place < n
quoted_below n negated before place quote rest l m =
    elim (nat_lt (until 34 rest) (length rest)) as (λ v. (cond v (lexeme (piece_of negated (term_of (before ++ take (until 34 rest) rest))) place (length before + until 34 rest + 2)) (lexeme OpenQuote quote (length before + length rest + 1))).place < n) [ true ↦ l | false ↦ m ]

word_below : (n : ℕ) (minus negated : Bool) (source_chars : List SourceChar) (place size colon : ℕ) (quote : Option ℕ) → place < n → PlaceBelow n quote → (word_lexeme_of minus negated source_chars place size colon quote).place < n
word_below n minus negated source_chars place size colon None l h = l
word_below n minus negated source_chars place size colon (Some quote) l h = quoted_below n negated (take (colon + 1) source_chars) place quote (drop (colon + 2) source_chars) l h

first_below : (n : ℕ) (minus negated : Bool) (s : SourceChar) (ss : List SourceChar) → Below n (s ∷ ss) → (next_lexeme minus negated s ss).place < n
first_below n minus negated s ss h =
    let word : (word_lexeme minus negated (s ∷ ss) s.place).place < n =
    word_below n minus negated (s ∷ ss) s.place (word_size (s ∷ ss)) (until 58 (take (word_size (s ∷ ss)) (s ∷ ss))) (quote_at (drop (until 58 (take (word_size (s ∷ ss)) (s ∷ ss)) + 1) (take (word_size (s ∷ ss)) (s ∷ ss)))) h.0
    (quote_below n (drop (until 58 (take (word_size (s ∷ ss)) (s ∷ ss)) + 1) (take (word_size (s ∷ ss)) (s ∷ ss))) (below_drop n (until 58 (take (word_size (s ∷ ss)) (s ∷ ss)) + 1) (take (word_size (s ∷ ss)) (s ∷ ss)) (below_take n (word_size (s ∷ ss)) (s ∷ ss) h))) in
    elim (s.letter == 40) as (λ v. (cond v (lexeme (Open negated) s.place 1) (cond (s.letter == 41) (lexeme Close s.place 1) (cond (is_bare 34 s) (quoted_lexeme negated [] s.place s.place ss) (word_lexeme minus negated (s ∷ ss) s.place)))).place < n) [
      | true ↦ h.0
      | false ↦ elim (s.letter == 41) as (λ v. (cond v (lexeme Close s.place 1) (cond (is_bare 34 s) (quoted_lexeme negated [] s.place s.place ss) (word_lexeme minus negated (s ∷ ss) s.place))).place < n) [
        | true ↦ h.0
        | false ↦ elim (is_bare 34 s) as (λ v. (cond v (quoted_lexeme negated [] s.place s.place ss) (word_lexeme minus negated (s ∷ ss) s.place)).place < n) [ true ↦ quoted_below n negated [] s.place s.place ss h.0 h.0 | false ↦ word ]
      ]
    ]

abbrev AllBelow : ℕ → List Token → Type 0
AllBelow n [] = ⊤
AllBelow n (t ∷ ts) = (t.place < n) × AllBelow n ts

tokens_below : (n skip : ℕ) (minus negated : Bool) (ss : List SourceChar) → Below n ss → AllBelow n (tokens_from skip minus negated ss)
tokens_below n skip minus negated [] h = tt
tokens_below n (suc skip) minus negated (s ∷ ss) h = tokens_below n skip minus negated ss h.1
tokens_below n zero minus negated (s ∷ ss) h =
    elim (s.letter == 32) as (λ v. AllBelow n (cond v (tokens_from 0 minus negated ss) (cond (is_negated_by s ss) (tokens_from 0 true (not negated) ss) (placed (next_lexeme minus negated s ss) ∷ tokens_from ((next_lexeme minus negated s ss).size - 1) false false ss)))) [
      | true ↦ tokens_below n 0 minus negated ss h.1
      | false ↦ elim (is_negated_by s ss) as (λ v. AllBelow n (cond v (tokens_from 0 true (not negated) ss) (placed (next_lexeme minus negated s ss) ∷ tokens_from ((next_lexeme minus negated s ss).size - 1) false false ss))) [
        | true ↦ tokens_below n 0 true (not negated) ss h.1
        | false ↦ (first_below n minus negated s ss h, tokens_below n ((next_lexeme minus negated s ss).size - 1) false false ss h.1)
      ]
    ]

-- ---- faults

-- the place of the fault, if there is one
abbrev FaultBelow : ℕ → Option SearchFault → Type 0
FaultBelow n None = ⊤
FaultBelow n (Some fault) = place_of fault < n

at_below : (n depth : ℕ) (before : Bool) (place : ℕ) (p : Piece) (rest : List Piece) → place < n → FaultBelow n (fault_at depth before place p rest)
at_below n depth before place (Test negated term) rest l = tt
at_below n depth before place BadValue rest l = l
at_below n depth before place OpenQuote rest l = l
at_below n depth before place Close rest l = elim (depth == 0) as (λ v. FaultBelow n (cond v (Some (faults.EmptyGroup place)) None)) [ true ↦ l | false ↦ tt ]
at_below n depth before place Or rest l = elim (before && begins_part rest) as (λ v. FaultBelow n (cond v None (Some (faults.LoneOr place)))) [ true ↦ tt | false ↦ l ]
at_below n depth before place And rest l = elim (before && begins_part rest) as (λ v. FaultBelow n (cond v None (Some (faults.LoneOr place)))) [ true ↦ tt | false ↦ l ]
at_below n depth before place (Open negated) rest l =
    elim (closes 0 rest) as (λ v. FaultBelow n (cond v (cond (begins_close rest) (Some (faults.EmptyGroup place)) (cond (nat_lt depth 32) None (Some (faults.TooDeep place)))) (Some (faults.OpenGroup place)))) [
      | true ↦ elim (begins_close rest) as (λ v. FaultBelow n (cond v (Some (faults.EmptyGroup place)) (cond (nat_lt depth 32) None (Some (faults.TooDeep place))))) [
        | true ↦ l
        | false ↦ elim (nat_lt depth 32) as (λ v. FaultBelow n (cond v None (Some (faults.TooDeep place)))) [ true ↦ tt | false ↦ l ]
      ]
      | false ↦ l
    ]

or_below : (n : ℕ) (one other : Option SearchFault) → FaultBelow n one → FaultBelow n other → FaultBelow n (option_or one other)
or_below n None other h g = g
or_below n (Some fault) other h g = h

faults_below : (n depth : ℕ) (before : Bool) (ts : List Token) → AllBelow n ts → FaultBelow n (fault_in depth before ts)
faults_below n depth before [] h = tt
faults_below n depth before (t ∷ ts) h =
    or_below n (fault_at depth before t.place t.piece (pieces_in ts)) (fault_in (depth_behind depth t.piece) (ends_part t.piece) ts) (at_below n depth before t.place t.piece (pieces_in ts) h.0) (faults_below n (depth_behind depth t.piece) (ends_part t.piece) ts h.1)

pub fault_within : (text : List ℕ) → encodes (chars text) ≡ text → FaultBelow (length text) (first_fault text)
fault_within text e =
    let size : 0 + length (encodes (chars text)) ≤ length text = omega (arith, ap length e) in
    faults_below (length text) 0 false (tokens text) (tokens_below (length text) 0 false false (source_chars text) (source_chars_below (length text) None 0 (chars text) size tt))

pub named_within : (text : List ℕ) (fault : SearchFault) → encodes (chars text) ≡ text → first_fault text ≡ Some fault → place_of fault < length text
named_within text fault e h = subst (FaultBelow (length text)) h (fault_within text e)
