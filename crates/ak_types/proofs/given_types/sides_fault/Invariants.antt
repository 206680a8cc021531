use Rattle.std.proofs.Common.{◌≡◌, drop}
use Rattle.ak_types.specs.GivenTypes.{sides_fault}
use Rattle.ak_types.proofs.given_types.sides_fault.Given as goal

-- none of the templates so far has a fault
abbrev pub invariant-loop-template : goal.invariant-loop-template
invariant-loop-template l = sides_fault (drop l.template-index l.templates) ≡ sides_fault l.templates
