-- The step of a plan may be put on an undo list, and what was tested may be written.
use Rattle.std.proofs.Common.{◌≡◌, Bool, true, false, ◌&&◌, not, int_lt, ℤ, pos, List, [], ◌∷◌, map, IfSome, Some, None, Result, Ok, Err, refl, sym, ap, subst, ◌∙◌, arith}
use Rattle.std.proofs.lemmas.Int.{ints}
use Rattle.std.proofs.lemmas.List.Elements.{All-from_recursion, recursion_from_All}
use Rattle.std.specs.List.{AllByRecursion, IsDistinct}
use Rattle.std.specs.Option.{option_map_or}
use Rattle.std.specs.Ordering.{eq_by_cmp}
use Rattle.ak_base.specs.Heads.{IsWithin}
use Rattle.ak_base.specs.Limits.{last_stamp}
use Rattle.ak_base.specs.Names.{name_cmp}
use Rattle.ak_base.specs.Rows.{IsChecked, check_of}
use Rattle.ak_base.specs.declared.errors.RowFault.{RowFault}
use Rattle.ak_base.specs.declared.names.Name.{Name}
use Rattle.ak_base.specs.declared.rows.Row.{Row}
use Rattle.ak_merge.proofs.EditFacts.{true_false}
use Rattle.ak_undo.specs.Steps.{IsBeforeInRange, IsStepInRange}
use Rattle.ak_undo.specs.declared.steps.Before.{Before}
use Rattle.ak_edit.specs.Carrying.{IsPlanInRange, step_in}
use Rattle.ak_edit.specs.MadeRows.{check_of_rows, check_of_write, first_of, have_stamps_left, is_stamp_left}
use Rattle.ak_edit.specs.Plans.{IsReadWrite}
use Rattle.ak_edit.specs.Stores.{AreMadeWrites, IsMadeWrite, befores_of}
use Rattle.ak_edit.specs.declared.ends.Plan.{Plan}
use Rattle.ak_edit.specs.declared.plans.Write.{Write}

befores_named : (ws : List Write) → map (λ (before : Before). before.name) (befores_of ws) ≡ map (λ (w : Write). w.name) ws
befores_named [] = refl
befores_named (w ∷ ws) = ap (λ (names : List Name). w.name ∷ names) (befores_named ws)

befores_in_range : (ws : List Write) → AllByRecursion IsReadWrite ws → AllByRecursion IsBeforeInRange (befores_of ws)
befores_in_range [] all = tt
befores_in_range (w ∷ ws) all = (all.0, befores_in_range ws all.1)

pub step_in_range : (plan : Plan) → IsPlanInRange plan → IsStepInRange (step_in plan)
step_in_range plan range = record {
  rows = All-from_recursion IsBeforeInRange (befores_of plan.writes.items) (befores_in_range plan.writes.items (recursion_from_All IsReadWrite plan.writes.items range.read));
  distinct = subst (IsDistinct (eq_by_cmp name_cmp)) (sym (befores_named plan.writes.items)) range.distinct;
  head = range.before.conf;
  tags = range.before.tags;
  ascending = range.before.ascending;
}

-- ---- what was tested
and_left : (a b : Bool) → (a && b) ≡ true → a ≡ true
and_left true b is = refl
and_left false b is = is

and_right : (a b : Bool) → (a && b) ≡ true → b ≡ true
and_right true b is = is
and_right false b is = absurd (grind (arith, is))

pub stamp_within : (stamp : ℤ) → (not (int_lt stamp (pos 0)) && not (int_lt last_stamp stamp)) ≡ true → IsWithin (pos 0) last_stamp stamp
stamp_within stamp is =
    let low : not (int_lt stamp (pos 0)) ≡ true = and_left (not (int_lt stamp (pos 0))) (not (int_lt last_stamp stamp)) is in
    let high : not (int_lt last_stamp stamp) ≡ true = and_right (not (int_lt stamp (pos 0))) (not (int_lt last_stamp stamp)) is in
    record { low = grind (arith, ints, low); high = grind (arith, ints, high) }

pub stamp_outside : (stamp : ℤ) → (not (int_lt stamp (pos 0)) && not (int_lt last_stamp stamp)) ≡ false → IsWithin (pos 0) last_stamp stamp → ⊥
stamp_outside stamp is within =
    let low : not (int_lt stamp (pos 0)) ≡ true = grind (arith, ints, within.low) in
    let high : not (int_lt last_stamp stamp) ≡ true = grind (arith, ints, within.high) in
    true_false (sym (ap (λ (b : Bool). b && not (int_lt last_stamp stamp)) low ∙ high) ∙ is)

both_ok : (r s : Result (Unit {0}) RowFault) → first_of r s ≡ Ok tt → (r ≡ Ok tt) × (s ≡ Ok tt)
both_ok (Ok one) s is = (refl, is)
both_ok (Err fault) s is = absurd (grind (arith, is))

made_one : (w : Write) → check_of_write w ≡ Ok tt → is_stamp_left w ≡ true → IsMadeWrite w
made_one w passes left =
    elim w.row as (λ o. option_map_or check_of o (Ok tt) ≡ Ok tt → IfSome o (λ (row : Row). IsChecked row × IsWithin (pos 0) last_stamp w.stamp)) [ None ↦ λ _. tt | Some row ↦ λ is. (is, stamp_within w.stamp left) ] passes

-- what passed the tests may be written
pub tested_may_be_written : (ws : List Write) → check_of_rows ws ≡ Ok tt → have_stamps_left ws ≡ true → AreMadeWrites ws
tested_may_be_written [] passes left = tt
tested_may_be_written (w ∷ ws) passes left =
    let both = both_ok (check_of_write w) (check_of_rows ws) passes in
    (made_one w both.0 (and_left (is_stamp_left w) (have_stamps_left ws) left), tested_may_be_written ws both.1 (and_right (is_stamp_left w) (have_stamps_left ws) left))
