-- What the tests of an edit's end answer, and why.
use Rattle.std.proofs.Common.{◌≡◌, inl, inr, List, Result, Ok, Err, arith, sym, ap, ◌∙◌}
use Rattle.ak_base.specs.declared.heads.Head.{Head}
use Rattle.ak_faults.specs.Causes.{GoesOn, Health}
use Rattle.ak_edit.specs.Carrying.{MadeRefusal}
use Rattle.ak_edit.specs.Refusals.{DeskCause, IsEndFault}
use Rattle.ak_edit.specs.declared.desk_faults.DeskFault.{DeskFault}
use Rattle.ak_edit.specs.declared.desk_faults.DeskFault.TheVariants as faults
use Rattle.ak_edit.specs.declared.plans.Write.{Write}

pub listed_by_test : (ws : List Write) (head : Head) (fault : DeskFault) → MadeRefusal ws head fault → IsEndFault fault
listed_by_test ws head fault (inl row) = inr (inl (row.0, row.1))
listed_by_test ws head fault (inr end) = inr (inr end.0)

not_failed : (ws : List Write) (head : Head) (fault : DeskFault) → MadeRefusal ws head fault → fault ≡ faults.Failed → ⊥
not_failed ws head fault (inl row) is = let clash : faults.Row row.0 ≡ faults.Failed = sym row.1 ∙ is in absurd (grind (arith, clash))
not_failed ws head fault (inr end) is = let clash : faults.StampEnd ≡ faults.Failed = sym end.0 ∙ is in absurd (grind (arith, clash))

abbrev answer : DeskFault → Result (Unit {0}) DeskFault
answer fault = Err fault

same_fault : (x y : DeskFault) → answer x ≡ answer y → x ≡ y
same_fault x y is = ap (λ (r : Result (Unit {0}) DeskFault). elim r as (λ _. DeskFault) [ Ok one ↦ y | Err e ↦ e ]) is

pub caused_by_test : (a b : Health) (ws : List Write) (head : Head) (fault : DeskFault) → GoesOn a b → MadeRefusal ws head fault → DeskCause {T = Unit {0}} a b (Err fault)
caused_by_test a b ws head fault goes refusal = record {
  goes = goes;
  failed = λ is. absurd (not_failed ws head fault refusal (same_fault fault faults.Failed is));
  unfailed = λ _ is. not_failed ws head fault refusal (same_fault fault faults.Failed is);
}
