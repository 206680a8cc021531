use Rattle.std.proofs.Common.{IfSome, ap, ◌∙◌, sym, subst}
use Rattle.std.proofs.lemmas.List.Elements.{All-drop}
use Rattle.std.specs.List.{All}
use Rattle.std.specs.Prelude.{Option}
use Rattle.ak_undo.proofs.Firsts.{first}
use Rattle.ak_undo.specs.Steps.{IsStepInRange}
use Rattle.ak_undo.specs.declared.steps.Step.{Step}
use Rattle.ak_undo.proofs.undo_lists.UndoList.take.Goals as goal

pub invariant_of-self : goal.invariant_of-self
invariant_of-self c = (
  ap (λ b. b.capacity) c.pop_front.ensures.items ∙ c.self.invariant.0,
  subst (All IsStepInRange) (sym (ap (λ b. b.items) c.pop_front.ensures.items)) (All-drop IsStepInRange 1 _ c.self.invariant.1),
)

pub returns-clause-range : goal.returns-clause-range
returns-clause-range c = subst (λ (o : Option Step). IfSome o IsStepInRange) (sym c.pop_front.ensures.value) (first _ c.self.invariant.1)
