-- A pattern is matched in one pass.
use Rattle.std.proofs.Common.{◌≡◌, ℕ, zero, suc, ◌+◌, ◌<◌, Bool, true, false, ◌&&◌, ◌||◌, List, [], ◌∷◌, ◌++◌, length, take, drop, get_or, set, refl, ap, ◌∙◌, arith, rules, append-nil}
use Rattle.std.proofs.Math.Bool.{or-false}
use Rattle.std.proofs.lemmas.List.{drop_all, drop_more}
use Rattle.ak_search.specs.declared.patterns.PatternItem.{PatternItem}
use Rattle.ak_search.specs.declared.patterns.PatternItem.TheVariants.{Any, One, Apart, Is}
use Rattle.ak_search.specs.Patterns.{is_any, takes, fits}
use Rattle.ak_search.specs.Matching.{falses, advanced, advanced_by, ended}

pub more_falses : (count : ℕ) → falses count ++ (false ∷ []) ≡ falses (suc count)
more_falses zero = refl
more_falses (suc count) = ap (λ row. false ∷ row) (more_falses count)

pub advance_end : (letter place : ℕ) (taken skipped : Bool) (row : List Bool) (pattern : List PatternItem) → length pattern ≡ place → length row ≡ length pattern + 1
    → take place row ++ advanced letter taken skipped (drop place row) (drop place pattern) ≡ set row place taken
advance_end letter zero taken skipped (live ∷ []) [] h e = refl
advance_end letter zero taken skipped [] [] h e = grind (arith, e)
advance_end letter zero taken skipped (live ∷ other ∷ row) [] h e = grind (arith, e)
advance_end letter zero taken skipped row (item ∷ pattern) h e = grind (arith, h)
advance_end letter (suc place) taken skipped row [] h e = grind (arith, h)
advance_end letter (suc place) taken skipped [] (item ∷ pattern) h e = grind (arith, e)
advance_end letter (suc place) taken skipped (live ∷ row) (item ∷ pattern) h e = ap (λ xs. live ∷ xs) (advance_end letter place taken skipped row pattern (omega (arith, h)) (omega (arith, e)))

pub end_step : (place : ℕ) (skipped : Bool) (row : List Bool) (pattern : List PatternItem) → place < length pattern → length row ≡ length pattern + 1
    → ended skipped (drop place row) (drop place pattern) ≡ ended (is_any (get_or pattern place Any) && (get_or row place false || skipped)) (drop (place + 1) row) (drop (place + 1) pattern)
end_step place skipped row pattern h e =
    ap (λ xs. ended skipped xs (drop place pattern)) (drop_more row place false (omega (arith, h, e)))
    ∙ ap (λ ms. ended skipped (get_or row place false ∷ drop (place + 1) row) ms) (drop_more pattern place Any h)

pub end_last : (place : ℕ) (skipped : Bool) (row : List Bool) (pattern : List PatternItem) → length pattern ≡ place → length row ≡ length pattern + 1
    → ended skipped (drop place row) (drop place pattern) ≡ get_or row place false || skipped
end_last place skipped row pattern h e =
    ap (λ xs. ended skipped xs (drop place pattern)) (drop_more row place false (omega (arith, h, e)))
    ∙ ap (λ ms. ended skipped (get_or row place false ∷ drop (place + 1) row) ms) (drop_all place pattern (omega (arith, h)))

pub size_advanced : (letter : ℕ) (taken skipped : Bool) (row : List Bool) (pattern : List PatternItem) → length (advanced letter taken skipped row pattern) ≡ length row
size_advanced letter taken skipped [] pattern = refl
size_advanced letter taken skipped (live ∷ row) [] = refl
size_advanced letter taken skipped (live ∷ row) (item ∷ pattern) =
    ap (λ n. suc n) (size_advanced letter (takes item letter && (live || skipped)) (is_any item && (live || skipped)) row pattern)

pub size_falses : (count : ℕ) → length (falses count) ≡ count
size_falses zero = refl
size_falses (suc count) = ap (λ n. suc n) (size_falses count)

-- ---- what a row says of the characters that are left

-- whether the pattern behind some live place of the row stands for all the characters
fits_some : List Bool → List PatternItem → List ℕ → Bool
fits_some [] pattern letters = false
fits_some (live ∷ row) [] letters = live && fits [] letters
fits_some (live ∷ row) (item ∷ pattern) letters = (live && fits (item ∷ pattern) letters) || fits_some row pattern letters

none_fits : (count : ℕ) (pattern : List PatternItem) (letters : List ℕ) → fits_some (falses count) pattern letters ≡ false
unfolding fits_some
none_fits zero pattern letters = refl
none_fits (suc count) [] letters = refl
none_fits (suc count) (item ∷ pattern) letters = none_fits count pattern letters

first_fits : (pattern : List PatternItem) (letters : List ℕ) → fits_some (true ∷ falses (length pattern)) pattern letters ≡ fits pattern letters
unfolding fits_some
first_fits [] letters = refl
first_fits (item ∷ pattern) letters = ap (λ v. fits (item ∷ pattern) letters || v) (none_fits (suc (length pattern)) pattern letters) ∙ or-false (fits (item ∷ pattern) letters)

-- at an item that stands for any characters
over_any : (taken skipped live here next after more : Bool) → ((taken || (live || skipped)) && next) || (false || (((live || skipped) && here) || more)) ≡ (taken && next) || ((skipped && (here || next)) || ((live && (here || next)) || more))
over_any taken skipped live here next after more = search (rules)

-- at any other item
over_one : (taken skipped live here after more next takes : Bool) → ((taken || false) && next) || (((takes && (live || skipped)) && after) || more) ≡ (taken && next) || ((skipped && (takes && after)) || ((live && (takes && after)) || more))
over_one taken skipped live here after more next takes = search (rules)

end_row : (taken skipped live here : Bool) → (taken && here) ≡ (taken && here) || ((skipped && false) || (live && false))
end_row taken skipped live here = search (rules)

last_row : (live skipped : Bool) → (live || skipped) ≡ (skipped && true) || (live && true)
last_row live skipped = search (rules)

end_one : (live skipped more : Bool) → ((false && true) || more) ≡ (skipped && false) || ((live && false) || more)
end_one live skipped more = search (rules)

-- a row behind one more character says of what is left what the row before it says of all
row_step : (letter : ℕ) (letters : List ℕ) (taken skipped : Bool) (row : List Bool) (pattern : List PatternItem) → length row ≡ length pattern + 1
    → fits_some (advanced letter taken skipped row pattern) pattern letters ≡ (taken && fits pattern letters) || ((skipped && fits pattern (letter ∷ letters)) || fits_some row pattern (letter ∷ letters))
unfolding fits_some fits
row_step letter letters taken skipped [] pattern e = grind (arith, e)
row_step letter letters taken skipped (live ∷ row) [] e = end_row taken skipped live (fits [] letters)
row_step letter letters taken skipped (live ∷ row) (Any ∷ pattern) e =
    ap (λ v. ((taken || (live || skipped)) && fits (Any ∷ pattern) letters) || v) (row_step letter letters false (live || skipped) row pattern (omega (arith, e)))
    ∙ over_any taken skipped live (fits pattern (letter ∷ letters)) (fits (Any ∷ pattern) letters) (fits pattern letters) (fits_some row pattern (letter ∷ letters))
row_step letter letters taken skipped (live ∷ row) (One ∷ pattern) e =
    ap (λ v. ((taken || false) && fits (One ∷ pattern) letters) || v) (row_step letter letters (live || skipped) false row pattern (omega (arith, e)))
    ∙ over_one taken skipped live (fits pattern (letter ∷ letters)) (fits pattern letters) (fits_some row pattern (letter ∷ letters)) (fits (One ∷ pattern) letters) true
row_step letter letters taken skipped (live ∷ row) (Apart ∷ pattern) e =
    ap (λ v. ((taken || false) && fits (Apart ∷ pattern) letters) || v) (row_step letter letters (takes Apart letter && (live || skipped)) false row pattern (omega (arith, e)))
    ∙ over_one taken skipped live (fits pattern (letter ∷ letters)) (fits pattern letters) (fits_some row pattern (letter ∷ letters)) (fits (Apart ∷ pattern) letters) (takes Apart letter)
row_step letter letters taken skipped (live ∷ row) (Is own ∷ pattern) e =
    ap (λ v. ((taken || false) && fits (Is own ∷ pattern) letters) || v) (row_step letter letters (takes (Is own) letter && (live || skipped)) false row pattern (omega (arith, e)))
    ∙ over_one taken skipped live (fits pattern (letter ∷ letters)) (fits pattern letters) (fits_some row pattern (letter ∷ letters)) (fits (Is own ∷ pattern) letters) (takes (Is own) letter)

size_by : (letters : List ℕ) (row : List Bool) (pattern : List PatternItem) → length row ≡ length pattern + 1 → length (advanced_by letters row pattern) ≡ length pattern + 1
size_by [] row pattern e = e
size_by (letter ∷ letters) row pattern e = size_by letters (advanced letter false false row pattern) pattern (size_advanced letter false false row pattern ∙ e)

rows_step : (letters behind : List ℕ) (row : List Bool) (pattern : List PatternItem) → length row ≡ length pattern + 1
    → fits_some (advanced_by letters row pattern) pattern behind ≡ fits_some row pattern (letters ++ behind)
rows_step [] behind row pattern e = refl
rows_step (letter ∷ letters) behind row pattern e =
    rows_step letters behind (advanced letter false false row pattern) pattern (size_advanced letter false false row pattern ∙ e)
    ∙ row_step letter (letters ++ behind) false false row pattern e

end_any : (live skipped here more : Bool) → ((live || skipped) && here) || more ≡ (skipped && here) || ((live && here) || more)
end_any live skipped here more = search (rules)

-- at the end, a row says what it says of no characters
row_end : (skipped : Bool) (row : List Bool) (pattern : List PatternItem) → length row ≡ length pattern + 1 → ended skipped row pattern ≡ (skipped && fits pattern []) || fits_some row pattern []
unfolding fits_some fits
row_end skipped [] pattern e = grind (arith, e)
row_end skipped (live ∷ row) [] e = last_row live skipped
row_end skipped (live ∷ row) (Any ∷ pattern) e = row_end (live || skipped) row pattern (omega (arith, e)) ∙ end_any live skipped (fits pattern []) (fits_some row pattern [])
row_end skipped (live ∷ row) (One ∷ pattern) e = row_end false row pattern (omega (arith, e)) ∙ end_one live skipped (fits_some row pattern [])
row_end skipped (live ∷ row) (Apart ∷ pattern) e = row_end false row pattern (omega (arith, e)) ∙ end_one live skipped (fits_some row pattern [])
row_end skipped (live ∷ row) (Is own ∷ pattern) e = row_end false row pattern (omega (arith, e)) ∙ end_one live skipped (fits_some row pattern [])

pub one_pass : (pattern : List PatternItem) (letters : List ℕ) → ended false (advanced_by letters (true ∷ falses (length pattern)) pattern) pattern ≡ fits pattern letters
one_pass pattern letters =
    let size : length (true ∷ falses (length pattern)) ≡ length pattern + 1 = omega (arith, size_falses (length pattern)) in
    row_end false (advanced_by letters (true ∷ falses (length pattern)) pattern) pattern (size_by letters (true ∷ falses (length pattern)) pattern size)
    ∙ rows_step letters [] (true ∷ falses (length pattern)) pattern size
    ∙ ap (fits_some (true ∷ falses (length pattern)) pattern) (append-nil letters)
    ∙ first_fits pattern letters
