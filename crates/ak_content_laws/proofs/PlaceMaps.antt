-- A map of templates that is not refused: it leads below the new number of templates, and no two old places to one new place.
use Rattle.std.specs.Prelude.{◌≡◌, ◌<◌, ◌≤◌, ◌+◌, ℕ, zero, suc, ℤ, pos, negsuc, ◌<ℤ◌, Bool, true, false, cond, nat_lt, if◌then◌else◌, List, length, Option, Some, None}
use Rattle.std.specs.List.{position_or_len}
use Rattle.std.specs.Option.{option_map}
use Rattle.std.proofs.Common.{arith, refl, sym, subst, ◌∙◌}
use Rattle.std.proofs.lemmas.Int.{ints}
use Rattle.std.proofs.lemmas.Option.{same_Some}
use Rattle.ak_edit.specs.declared.desk_faults.DeskFault.{DeskFault}
use Rattle.ak_edit.specs.declared.desk_faults.DeskFault.TheVariants as faults
use Rattle.ak_merge.proofs.EditFacts.{false_true, none_held}
use Rattle.ak_types.proofs.PlaceMapping.{lacking_is_first, over_is_bad}
use Rattle.ak_types.specs.PlaceMaps.{RefusesMap, is_bad_at, moved_ord, names_place, new_place}

module _ (before old new : ℕ) (entries : List (Option ℕ)) (passes : (fault : DeskFault) → RefusesMap before old new entries fault → ⊥) where
  -- no place of it is bad: else there were a first one
  all_good : (count place : ℕ) → place < count → is_bad_at old new entries place ≡ false
  all_good zero place less = absurd (omega (arith, less))
  all_good (suc count) place less =
      elim (nat_lt place count) as (λ (b : Bool). nat_lt place count ≡ b → is_bad_at old new entries place ≡ false) [
        | true ↦ λ lower. all_good count place (grind (arith, lower))
        | false ↦ λ upper.
            let same : place ≡ count = grind (arith, upper, less) in
            subst (λ (p : ℕ). is_bad_at old new entries p ≡ false) (sym same)
            (elim (is_bad_at old new entries count) as (λ (b : Bool). is_bad_at old new entries count ≡ b → b ≡ false) [
              | true ↦ λ bad. absurd (passes (faults.BadMap (before + count)) (count, record { bad = bad; first = all_good count }, refl))
              | false ↦ λ _. refl
            ] refl)
      ] refl

  -- it has at most as many entries as there are new places
  pub entries_few : length entries ≤ new
  entries_few =
      elim (nat_lt new (length entries)) as (λ (b : Bool). nat_lt new (length entries) ≡ b → length entries ≤ new) [
        | true ↦ λ more.
            let within : new < length entries = grind (arith, more) in
            let one : new < suc new = omega arith in
            absurd (false_true (sym (all_good (suc new) new one) ∙ over_is_bad old new entries new within (omega arith)))
        | false ↦ λ few. grind (arith, few)
      ] refl

  -- and at least as many
  pub entries_enough : new ≤ length entries
  entries_enough =
      elim (nat_lt (length entries) new) as (λ (b : Bool). nat_lt (length entries) new ≡ b → new ≤ length entries) [
        | true ↦ λ lacks.
            let less : length entries < new = grind (arith, lacks) in
            absurd (passes (faults.BadMap (before + length entries)) (length entries, lacking_is_first old new entries less (λ other within. all_good (length entries) other within), refl))
        | false ↦ λ enough. grind (arith, enough)
      ] refl

-- ---- where a place leads
-- to one of the entries
place_within : (entries : List (Option ℕ)) (old place : ℕ) → new_place entries old ≡ Some place → place < length entries
place_within entries old place is =
    let found : ℕ = position_or_len (names_place old) entries in
    elim (nat_lt found (length entries)) as (λ (b : Bool). nat_lt found (length entries) ≡ b → cond b (Some found) None ≡ Some place → place < length entries) [
      | true ↦ λ less is. subst (λ (p : ℕ). p < length entries) (same_Some found place is) (grind (arith, less))
      | false ↦ λ _ is. none_held is
    ] refl is

pub mapped_some : (o : Option ℕ) (ord : ℤ) → option_map (λ (n : ℕ). pos n) o ≡ Some ord → (place : ℕ) × (o ≡ Some place) × (pos place ≡ ord)
mapped_some None ord is = none_held is
mapped_some (Some place) ord is = (place, refl, same_Some (pos place) ord is)

-- an ord of the old type leads to one of the new type
pub moved_below : (old new : ℕ) (entries : List (Option ℕ)) (ord moved : ℤ) → length entries ≤ new → ord <ℤ pos old → moved_ord old entries ord ≡ Some moved → moved <ℤ pos new
moved_below old new entries (pos ord) moved few below is =
    elim (nat_lt ord old) as (λ (b : Bool). nat_lt ord old ≡ b → (if b then option_map (λ (n : ℕ). pos n) (new_place entries ord) else Some (pos ord)) ≡ Some moved → moved <ℤ pos new) [
      | true ↦ λ _ is.
          let found = mapped_some (new_place entries ord) moved is in
          let within : found.0 < length entries = place_within entries ord found.0 found.1 in
          subst (λ (m : ℤ). m <ℤ pos new) found.2 (omega (arith, ints, within, few))
      | false ↦ λ over _. let past : old ≤ ord = grind (arith, over) in absurd (omega (arith, ints, below, past))
    ] refl is
moved_below old new entries (negsuc ord) moved few below is = subst (λ (m : ℤ). m <ℤ pos new) (same_Some (negsuc ord) moved is) (omega (arith, ints))
