-- The places of characters, tokens and faults ascend.
use Rattle.std.proofs.Common.{◌≡◌, ℕ, zero, suc, ◌+◌, ◌-◌, ◌<◌, ◌≤◌, ◌==◌, ◌⊎◌, inl, inr, nat_lt, Bool, true, false, not, ◌&&◌, cond, Option, Some, None, List, [], ◌∷◌, ◌++◌, map, length, take, drop, refl, ap, sym, subst, ◌∙◌, arith, length-drop}
use Rattle.std.proofs.lemmas.List.{length-take}
use Rattle.std.proofs.lemmas.Str.{len_utf8_bounds}
use Rattle.std.specs.Char.{len_utf8}
use Rattle.std.specs.List.{AllByRecursion}
use Rattle.std.specs.List.Sorted.{IsStrictlySortedBy}
use Rattle.std.specs.Option.{option_or, option_to_list}
use Rattle.std.specs.Ordering.{nat_cmp}
use Rattle.std.specs.Prelude.{⊤, slice_get}
use Rattle.std.specs.Str.{chars}
use Rattle.std.specs.declared.cmp.Ordering.TheVariants.{Less}
use Rattle.std.specs.Cmp.{nat_cmp_is}
use Rattle.ak_search.specs.declared.source_chars.SourceChar.{SourceChar}
use Rattle.ak_search.specs.declared.tokens.Token.{Token}
use Rattle.ak_search.specs.declared.tokens.Piece.{Piece}
use Rattle.ak_search.specs.declared.tokens.Piece.TheVariants.{Test, BadValue, Open, Close, Or, And, OpenQuote}
use Rattle.ak_search.specs.declared.faults.SearchFault.{SearchFault}
use Rattle.ak_search.specs.declared.faults.SearchFault.TheVariants as faults
use Rattle.ak_search.specs.AllFaults.{faults_in, all_faults}
use Rattle.ak_search.specs.SourceChars.{is_escapable, is_bare, source_char, source_chars_from, source_chars, until}
use Rattle.ak_search.specs.Terms.{term_of}
use Rattle.ak_search.specs.Tokens.{quote_at, is_negated_by, piece_of, word_size, lexeme, quoted_lexeme, word_lexeme_of, word_lexeme, next_lexeme, placed, tokens_from}
use Rattle.ak_search.specs.Grammar.{place_of, tokens, pieces_in, closes, begins_part, begins_close, depth_behind, ends_part, fault_at, fault_in, first_fault}

-- ---- characters

-- places ascend, from a least one on
abbrev Rise : ℕ → List SourceChar → Type 0
Rise low [] = ⊤
Rise low (s ∷ ss) = (low ≤ s.place) × Rise (s.place + 1) ss

rise_lower : (low past : ℕ) (ss : List SourceChar) → low ≤ past → Rise past ss → Rise low ss
rise_lower low past [] h r = tt
rise_lower low past (s ∷ ss) h r = (omega (arith, h, r.0), r.1)

rise_take : (low k : ℕ) (ss : List SourceChar) → Rise low ss → Rise low (take k ss)
rise_take low zero ss r = tt
rise_take low (suc k) [] r = tt
rise_take low (suc k) (s ∷ ss) r = (r.0, rise_take (s.place + 1) k ss r.1)

rise_drop : (low k : ℕ) (ss : List SourceChar) → Rise low ss → Rise low (drop k ss)
rise_drop low zero ss r = r
rise_drop low (suc k) [] r = tt
rise_drop low (suc k) (s ∷ ss) r = rise_drop low k ss (rise_lower low (s.place + 1) ss (omega (arith, r.0)) r.1)

-- a backslash stands before the place that comes, if one stands there
abbrev SlashFrom : ℕ → ℕ → Option ℕ → Type 0
SlashFrom low place None = low ≤ place
SlashFrom low place (Some slash) = (low ≤ slash) × (slash < place)

letters_rise : (low : ℕ) (slash : Option ℕ) (place : ℕ) (letters : List ℕ) → SlashFrom low place slash → Rise low (source_chars_from slash place letters)
letters_rise low None place [] h = tt
letters_rise low (Some slash) place [] h = (h.0, tt)
letters_rise low None place (c ∷ cs) h =
    let wide = (len_utf8_bounds c).0 in
    elim (c == 92) as (λ v. Rise low (cond v [] (source_char false place c ∷ []) ++ source_chars_from (cond v (Some place) None) (place + len_utf8 c) cs)) [
      | true ↦ letters_rise low (Some place) (place + len_utf8 c) cs (h, omega (arith, wide))
      | false ↦ (h, letters_rise (place + 1) None (place + len_utf8 c) cs (omega (arith, wide)))
    ]
letters_rise low (Some slash) place (c ∷ cs) h =
    let wide = (len_utf8_bounds c).0 in
    elim (is_escapable c) as (λ v. Rise low (cond v (source_char true slash c ∷ []) (source_char false slash 92 ∷ (source_char false place c ∷ [])) ++ source_chars_from None (place + len_utf8 c) cs)) [
      | true ↦ (h.0, letters_rise (slash + 1) None (place + len_utf8 c) cs (omega (arith, h.1, wide)))
      | false ↦ (h.0, (omega (arith, h.1), letters_rise (place + 1) None (place + len_utf8 c) cs (omega (arith, wide))))
    ]

-- ---- tokens

-- a lexeme stands at the first character, or it takes all the characters
Stands : SourceChar → List SourceChar → ℕ → ℕ → Type 0
Stands s ss place size = (place ≡ s.place) ⊎ ((s.place ≤ place) × (length ss ≤ size - 1))

quote_within : (low quote : ℕ) (ss : List SourceChar) → Rise low ss → quote_at ss ≡ Some quote → (low ≤ quote) × (0 < length ss)
quote_within low quote [] r h = grind (arith, h)
quote_within low quote (s ∷ ss) r h =
    elim (is_bare 34 s) as (λ v. cond v (Some s.place) None ≡ Some quote → (low ≤ quote) × (0 < suc (length ss))) [
      | true ↦ λ e. let same : s.place ≡ quote = cc in (omega (arith, same, r.0), omega arith)
      | false ↦ λ e. cc
    ] h

quoted_stands : (s : SourceChar) (ss : List SourceChar) (negated : Bool) (before : List SourceChar) (quote : ℕ) (rest : List SourceChar) → s.place ≤ quote → length ss ≤ length before + length rest
    → Stands s ss (quoted_lexeme negated before s.place quote rest).place (quoted_lexeme negated before s.place quote rest).size
unfolding Stands
quoted_stands s ss negated before quote rest h g =
    elim (nat_lt (until 34 rest) (length rest)) as (λ v.
    ((cond v (lexeme (piece_of negated (term_of (before ++ take (until 34 rest) rest))) s.place (length before + until 34 rest + 2)) (lexeme OpenQuote quote (length before + length rest + 1))).place ≡ s.place)
    ⊎ ((s.place ≤ (cond v (lexeme (piece_of negated (term_of (before ++ take (until 34 rest) rest))) s.place (length before + until 34 rest + 2)) (lexeme OpenQuote quote (length before + length rest + 1))).place)
    × (length ss ≤ (cond v (lexeme (piece_of negated (term_of (before ++ take (until 34 rest) rest))) s.place (length before + until 34 rest + 2)) (lexeme OpenQuote quote (length before + length rest + 1))).size - 1))) [
      | true ↦ inl refl
      | false ↦ inr (h, omega (arith, g))
    ]

word_stands : (s : SourceChar) (ss : List SourceChar) (minus negated : Bool) (size colon : ℕ) (quote : Option ℕ) → Rise s.place (s ∷ ss) → quote_at (drop (colon + 1) (take size (s ∷ ss))) ≡ quote
    → Stands s ss (word_lexeme_of minus negated (s ∷ ss) s.place size colon quote).place (word_lexeme_of minus negated (s ∷ ss) s.place size colon quote).size
unfolding Stands
word_stands s ss minus negated size colon None r h = inl refl
word_stands s ss minus negated size colon (Some quote) r h =
    let within = quote_within s.place quote (drop (colon + 1) (take size (s ∷ ss))) (rise_drop s.place (colon + 1) (take size (s ∷ ss)) (rise_take s.place size (s ∷ ss) r)) h in
    let long : colon + 1 < suc (length ss) = omega (arith, within.1, length-drop (colon + 1) (take size (s ∷ ss)), length-take size (s ∷ ss)) in
    let front = length-take (colon + 1) (s ∷ ss) in
    let back = length-drop (colon + 2) (s ∷ ss) in
    quoted_stands s ss negated (take (colon + 1) (s ∷ ss)) quote (drop (colon + 2) (s ∷ ss)) within.0 (omega (arith, long, front, back))

lexeme_stands : (s : SourceChar) (ss : List SourceChar) (minus negated : Bool) → Rise s.place (s ∷ ss) → Stands s ss (next_lexeme minus negated s ss).place (next_lexeme minus negated s ss).size
unfolding Stands
lexeme_stands s ss minus negated r =
    let size = word_size (s ∷ ss) in
    let colon = until 58 (take size (s ∷ ss)) in
    let word = word_stands s ss minus negated size colon (quote_at (drop (colon + 1) (take size (s ∷ ss)))) r refl in
    let quoted = quoted_stands s ss negated [] s.place ss (omega arith) (omega arith) in
    let at : Stands s ss (cond (is_bare 34 s) (quoted_lexeme negated [] s.place s.place ss) (word_lexeme minus negated (s ∷ ss) s.place)).place (cond (is_bare 34 s) (quoted_lexeme negated [] s.place s.place ss) (word_lexeme minus negated (s ∷ ss) s.place)).size =
    elim (is_bare 34 s) as (λ v. Stands s ss (cond v (quoted_lexeme negated [] s.place s.place ss) (word_lexeme minus negated (s ∷ ss) s.place)).place (cond v (quoted_lexeme negated [] s.place s.place ss) (word_lexeme minus negated (s ∷ ss) s.place)).size) [ true ↦ quoted | false ↦ word ] in
    elim (s.letter == 40) as (λ v. Stands s ss (cond v (lexeme (Open negated) s.place 1) (cond (s.letter == 41) (lexeme Close s.place 1) (cond (is_bare 34 s) (quoted_lexeme negated [] s.place s.place ss) (word_lexeme minus negated (s ∷ ss) s.place)))).place
    (cond v (lexeme (Open negated) s.place 1) (cond (s.letter == 41) (lexeme Close s.place 1) (cond (is_bare 34 s) (quoted_lexeme negated [] s.place s.place ss) (word_lexeme minus negated (s ∷ ss) s.place)))).size) [
      | true ↦ inl refl
      | false ↦ elim (s.letter == 41) as (λ v. Stands s ss (cond v (lexeme Close s.place 1) (cond (is_bare 34 s) (quoted_lexeme negated [] s.place s.place ss) (word_lexeme minus negated (s ∷ ss) s.place))).place
          (cond v (lexeme Close s.place 1) (cond (is_bare 34 s) (quoted_lexeme negated [] s.place s.place ss) (word_lexeme minus negated (s ∷ ss) s.place))).size) [ true ↦ inl refl | false ↦ at ]
    ]

none_left : (skip : ℕ) (minus negated : Bool) (ss : List SourceChar) → length ss ≤ skip → tokens_from skip minus negated ss ≡ []
none_left skip minus negated [] h = refl
none_left zero minus negated (s ∷ ss) h = absurd (omega (arith, h))
none_left (suc skip) minus negated (s ∷ ss) h = none_left skip minus negated ss (omega (arith, h))

abbrev Follow : ℕ → List Token → Type 0
Follow low [] = ⊤
Follow low (t ∷ ts) = (low ≤ t.place) × Follow (t.place + 1) ts

follow_lower : (low past : ℕ) (ts : List Token) → low ≤ past → Follow past ts → Follow low ts
follow_lower low past [] h f = tt
follow_lower low past (t ∷ ts) h f = (omega (arith, h, f.0), f.1)

follow_lexeme : (low : ℕ) (s : SourceChar) (ss : List SourceChar) (place size : ℕ) → low ≤ s.place → Stands s ss place size → Follow (s.place + 1) (tokens_from (size - 1) false false ss)
    → (low ≤ place) × Follow (place + 1) (tokens_from (size - 1) false false ss)
unfolding Stands
follow_lexeme low s ss place size h (inl is) f = (omega (arith, h, is), subst (λ n. Follow (n + 1) (tokens_from (size - 1) false false ss)) (sym is) f)
follow_lexeme low s ss place size h (inr all) f = (omega (arith, h, all.0), subst (Follow (place + 1)) (sym (none_left (size - 1) false false ss all.1)) tt)

tokens_follow : (low skip : ℕ) (minus negated : Bool) (ss : List SourceChar) → Rise low ss → Follow low (tokens_from skip minus negated ss)
tokens_follow low skip minus negated [] r = tt
tokens_follow low (suc skip) minus negated (s ∷ ss) r = tokens_follow low skip minus negated ss (rise_lower low (s.place + 1) ss (omega (arith, r.0)) r.1)
tokens_follow low zero minus negated (s ∷ ss) r =
    let rest = rise_lower low (s.place + 1) ss (omega (arith, r.0)) r.1 in
    let size = (next_lexeme minus negated s ss).size in
    let place = (next_lexeme minus negated s ss).place in
    let token : (low ≤ place) × Follow (place + 1) (tokens_from (size - 1) false false ss) =
    follow_lexeme low s ss place size r.0 (lexeme_stands s ss minus negated (omega arith, r.1)) (tokens_follow (s.place + 1) (size - 1) false false ss r.1) in
    elim (s.letter == 32) as (λ v. Follow low (cond v (tokens_from 0 minus negated ss) (cond (is_negated_by s ss) (tokens_from 0 true (not negated) ss) (placed (next_lexeme minus negated s ss) ∷ tokens_from (size - 1) false false ss)))) [
      | true ↦ tokens_follow low 0 minus negated ss rest
      | false ↦ elim (is_negated_by s ss) as (λ v. Follow low (cond v (tokens_from 0 true (not negated) ss) (placed (next_lexeme minus negated s ss) ∷ tokens_from (size - 1) false false ss))) [
        | true ↦ tokens_follow low 0 true (not negated) ss rest
        | false ↦ token
      ]
    ]

-- ---- faults

abbrev At : ℕ → Option SearchFault → Type 0
At place None = ⊤
At place (Some fault) = place_of fault ≡ place

fault_stands : (depth : ℕ) (before : Bool) (place : ℕ) (p : Piece) (rest : List Piece) → At place (fault_at depth before place p rest)
fault_stands depth before place (Test negated term) rest = tt
fault_stands depth before place BadValue rest = refl
fault_stands depth before place OpenQuote rest = refl
fault_stands depth before place Close rest = elim (depth == 0) as (λ v. At place (cond v (Some (faults.EmptyGroup place)) None)) [ true ↦ refl | false ↦ tt ]
fault_stands depth before place Or rest = elim (before && begins_part rest) as (λ v. At place (cond v None (Some (faults.LoneOr place)))) [ true ↦ tt | false ↦ refl ]
fault_stands depth before place And rest = elim (before && begins_part rest) as (λ v. At place (cond v None (Some (faults.LoneOr place)))) [ true ↦ tt | false ↦ refl ]
fault_stands depth before place (Open negated) rest =
    elim (closes 0 rest) as (λ v. At place (cond v (cond (begins_close rest) (Some (faults.EmptyGroup place)) (cond (nat_lt depth 32) None (Some (faults.TooDeep place)))) (Some (faults.OpenGroup place)))) [
      | true ↦ elim (begins_close rest) as (λ v. At place (cond v (Some (faults.EmptyGroup place)) (cond (nat_lt depth 32) None (Some (faults.TooDeep place))))) [
        | true ↦ refl
        | false ↦ elim (nat_lt depth 32) as (λ v. At place (cond v None (Some (faults.TooDeep place)))) [ true ↦ tt | false ↦ refl ]
      ]
      | false ↦ refl
    ]

abbrev Ascend : ℕ → List SearchFault → Type 0
Ascend low [] = ⊤
Ascend low (f ∷ fs) = (low ≤ place_of f) × Ascend (place_of f + 1) fs

ascend_lower : (low past : ℕ) (fs : List SearchFault) → low ≤ past → Ascend past fs → Ascend low fs
ascend_lower low past [] h a = tt
ascend_lower low past (f ∷ fs) h a = (omega (arith, h, a.0), a.1)

one_more : (low place : ℕ) (fault : Option SearchFault) (fs : List SearchFault) → low ≤ place → At place fault → Ascend (place + 1) fs → Ascend low (option_to_list fault ++ fs)
one_more low place None fs h at a = ascend_lower low (place + 1) fs (omega (arith, h)) a
one_more low place (Some fault) fs h at a = (omega (arith, h, at), subst (λ n. Ascend (n + 1) fs) (sym at) a)

faults_ascend : (low depth : ℕ) (before : Bool) (ts : List Token) → Follow low ts → Ascend low (faults_in depth before ts)
faults_ascend low depth before [] f = tt
faults_ascend low depth before (t ∷ ts) f =
    one_more low t.place (fault_at depth before t.place t.piece (pieces_in ts)) (faults_in (depth_behind depth t.piece) (ends_part t.piece) ts) f.0
    (fault_stands depth before t.place t.piece (pieces_in ts)) (faults_ascend (t.place + 1) (depth_behind depth t.piece) (ends_part t.piece) ts f.1)

over_all : (place : ℕ) (fs : List SearchFault) → Ascend (place + 1) fs → AllByRecursion (λ n. nat_cmp place n ≡ Less) (map place_of fs)
over_all place [] a = tt
over_all place (f ∷ fs) a = (sym (nat_cmp_is place (place_of f) Less (omega (arith, a.0))), over_all place fs (ascend_lower (place + 1) (place_of f + 1) fs (omega (arith, a.0)) a.1))

sorted : (low : ℕ) (fs : List SearchFault) → Ascend low fs → IsStrictlySortedBy nat_cmp (map place_of fs)
unfolding IsStrictlySortedBy
sorted low [] a = tt
sorted low (f ∷ fs) a = (over_all (place_of f) fs a.1, sorted (place_of f + 1) fs a.1)

pub faults_sorted : (text : List ℕ) → IsStrictlySortedBy nat_cmp (map place_of (all_faults text))
faults_sorted text = sorted 0 (all_faults text) (faults_ascend 0 0 false (tokens text) (tokens_follow 0 0 false false (source_chars text) (letters_rise 0 None 0 (chars text) (omega arith))))

first_or : (fault : Option SearchFault) (fs : List SearchFault) → option_or fault (slice_get fs 0) ≡ slice_get (option_to_list fault ++ fs) 0
first_or None fs = refl
first_or (Some fault) fs = refl

first_in : (depth : ℕ) (before : Bool) (ts : List Token) → fault_in depth before ts ≡ slice_get (faults_in depth before ts) 0
first_in depth before [] = refl
first_in depth before (t ∷ ts) =
    ap (option_or (fault_at depth before t.place t.piece (pieces_in ts))) (first_in (depth_behind depth t.piece) (ends_part t.piece) ts)
    ∙ first_or (fault_at depth before t.place t.piece (pieces_in ts)) (faults_in (depth_behind depth t.piece) (ends_part t.piece) ts)

pub first_of_faults : (text : List ℕ) → first_fault text ≡ slice_get (all_faults text) 0
first_of_faults text = first_in 0 false (tokens text)
