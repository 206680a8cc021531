-- The first bad place of a map, and what a map makes of an old place.
use Rattle.std.specs.Prelude.{◌≡◌, ◌<◌, ◌≤◌, ◌+◌, ℕ, ℤ, pos, negsuc, nat_abs, int_lt, true, false, cond, if◌then◌else◌, nat_lt, List, length, take, get_or, Option, Some, None, Ok, Err}
use Rattle.std.proofs.Common.{refl, sym, ap, subst, inr, ◌∙◌, arith}
use Rattle.std.proofs.lemmas.List.Sums.{position_or_len_is}
use Rattle.std.proofs.lemmas.Option.{slice_get-get_or, slice_get_past}
use Rattle.std.specs.List.{position_or_len, slice_get}
use Rattle.std.specs.Option.{option_map}
use Rattle.ak_edit.specs.Refusals.{AnswersBy}
use Rattle.ak_edit.specs.declared.desk_faults.DeskFault.TheVariants as faults
use Rattle.ak_merge.proofs.EditFacts.{false_true, true_false}
use Rattle.ak_types.specs.PlaceMaps.{IsFirstBad, RefusesMap, is_bad_at, is_bad_entry, is_bad_there, moved_ord, names_place, new_place}

not_less : (a b : ℕ) → b ≤ a → nat_lt a b ≡ false
not_less a b least = grind (arith, least)

is_less : (a b : ℕ) → a < b → nat_lt a b ≡ true
is_less a b less = grind (arith, less)

upper_of : (a b : ℕ) → nat_lt a b ≡ false → b ≤ a
upper_of a b is = grind (arith, is)

-- ---- a place that has an entry
-- it is bad if no place is wanted there
pub over_is_bad : (old new : ℕ) (entries : List (Option ℕ)) (place : ℕ) → place < length entries → new ≤ place → is_bad_at old new entries place ≡ true
over_is_bad old new entries place within over =
    ap (λ w. is_bad_there w old (take place entries) (slice_get entries place)) (not_less place new over)
    ∙ ap (is_bad_there false old (take place entries)) (slice_get-get_or entries place None within)

-- it is bad if its entry is
pub entry_is_bad : (old new : ℕ) (entries : List (Option ℕ)) (place : ℕ) → place < length entries → place < new
    → is_bad_at old new entries place ≡ is_bad_entry old (take place entries) (get_or entries place None)
entry_is_bad old new entries place within wanted =
    ap (λ w. is_bad_there w old (take place entries) (slice_get entries place)) (is_less place new wanted)
    ∙ ap (is_bad_there true old (take place entries)) (slice_get-get_or entries place None within)

-- ---- a place that has none
past_entries : (old new : ℕ) (entries : List (Option ℕ)) (place : ℕ) → length entries ≤ place → is_bad_at old new entries place ≡ nat_lt place new
past_entries old new entries place past = ap (is_bad_there (nat_lt place new) old (take place entries)) (slice_get_past entries place past)

-- the first place after the entries is bad, if one is wanted there
pub lacking_is_first : (old new : ℕ) (entries : List (Option ℕ)) → length entries < new → ((other : ℕ) → other < length entries → is_bad_at old new entries other ≡ false)
    → IsFirstBad old new entries (length entries)
lacking_is_first old new entries lacks before = record {
  bad = past_entries old new entries (length entries) (grind (arith)) ∙ is_less (length entries) new lacks;
  first = before;
}

-- no place is bad, if none before the end is and none lacks
pub none_is_bad : (old new : ℕ) (entries : List (Option ℕ)) → new ≤ length entries → ((other : ℕ) → other < length entries → is_bad_at old new entries other ≡ false)
    → (place : ℕ) → is_bad_at old new entries place ≡ false
none_is_bad old new entries enough before place =
    elim (nat_lt place (length entries)) as (λ b. nat_lt place (length entries) ≡ b → is_bad_at old new entries place ≡ false) [
      | true ↦ λ less. before place (grind (arith, less))
      | false ↦ λ more. past_entries old new entries place (grind (arith, more)) ∙ not_less place new (grind (arith, more, enough))
    ] refl

-- one more place is not bad
pub one_more : (old new : ℕ) (entries : List (Option ℕ)) (place : ℕ) → is_bad_at old new entries place ≡ false → ((other : ℕ) → other < place → is_bad_at old new entries other ≡ false)
    → (other : ℕ) → other < place + 1 → is_bad_at old new entries other ≡ false
one_more old new entries place here before other less =
    elim (nat_lt other place) as (λ b. nat_lt other place ≡ b → is_bad_at old new entries other ≡ false) [
      | true ↦ λ lower. before other (grind (arith, lower))
      | false ↦ λ upper.
          let same : place ≡ other = omega (arith, less, upper_of other place upper) in
          subst (λ (p : ℕ). is_bad_at old new entries p ≡ false) same here
    ] refl

-- ---- the test
pub map_answers : {T : Type 0} (before old new : ℕ) (entries : List (Option ℕ)) (value : T) → ((place : ℕ) → is_bad_at old new entries place ≡ false)
    → AnswersBy {T = T} (RefusesMap before old new entries) (Ok value)
map_answers before old new entries value none = record { accepted = λ fault refuses. true_false (sym refuses.1.bad ∙ none refuses.0); refused = tt }

pub map_refuses : {T : Type 0} (before old new : ℕ) (entries : List (Option ℕ)) (place : ℕ) → IsFirstBad old new entries place
    → AnswersBy {T = T} (RefusesMap before old new entries) (Err (faults.BadMap (before + place)))
map_refuses before old new entries place first = record { accepted = tt; refused = inr (place, first, refl) }

-- ---- the new place of an old one
-- one more entry does not name it
pub passes_one : (old : ℕ) (entries : List (Option ℕ)) (place : ℕ) → names_place old (get_or entries place None) ≡ false → ((other : ℕ) → other < place → names_place old (get_or entries other None) ≡ false)
    → (other : ℕ) → other < place + 1 → names_place old (get_or entries other None) ≡ false
passes_one old entries place here before other less =
    elim (nat_lt other place) as (λ b. nat_lt other place ≡ b → names_place old (get_or entries other None) ≡ false) [
      | true ↦ λ lower. before other (grind (arith, lower))
      | false ↦ λ upper.
          let same : place ≡ other = omega (arith, less, upper_of other place upper) in
          subst (λ (p : ℕ). names_place old (get_or entries p None) ≡ false) same here
    ] refl

pub found_at : (old : ℕ) (entries : List (Option ℕ)) (place : ℕ) → place < length entries → names_place old (get_or entries place None) ≡ true
    → ((other : ℕ) → other < place → names_place old (get_or entries other None) ≡ false) → Some place ≡ new_place entries old
found_at old entries place within here before =
    let is : position_or_len (names_place old) entries ≡ place = position_or_len_is (names_place old) entries place None (grind (arith, within)) before (λ _. here) in
    sym (ap (λ (p : ℕ). cond (nat_lt p (length entries)) (Some p) None) is ∙ ap (λ b. cond b (Some place) None) (is_less place (length entries) within))

pub found_nowhere : (old : ℕ) (entries : List (Option ℕ)) (place : ℕ) → length entries ≡ place
    → ((other : ℕ) → other < place → names_place old (get_or entries other None) ≡ false) → None ≡ new_place entries old
found_nowhere old entries place end before =
    let is : position_or_len (names_place old) entries ≡ place = position_or_len_is (names_place old) entries place None (grind (arith, end)) before (λ less. false_true (sym (not_less place (length entries) (grind (arith, end))) ∙ is_less place (length entries) less)) in
    sym (ap (λ (p : ℕ). cond (nat_lt p (length entries)) (Some p) None) is ∙ ap (λ b. cond b (Some place) None) (not_less place (length entries) (grind (arith, end))))

-- an ord for which there was a template
pub moved_within : (old : ℕ) (entries : List (Option ℕ)) (ord : ℤ) → int_lt ord (pos 0) ≡ false → nat_abs ord < old → moved_ord old entries ord ≡ option_map (λ (n : ℕ). pos n) (new_place entries (nat_abs ord))
moved_within old entries (pos ord) least within = ap (λ b. if b then option_map (λ (n : ℕ). pos n) (new_place entries ord) else Some (pos ord)) (is_less ord old within)
moved_within old entries (negsuc before) least within = true_false least
