use Rattle.std.proofs.Common.{◌≡◌, true, sym, subst}
use Rattle.ak_base.specs.Rests.{is_rest}
use Rattle.ak_base.proofs.Resting.{empty_is_rest}
use Rattle.ak_base.proofs.rests.Rest.empty.Goals as goal

pub invariant_of-result : goal.invariant_of-result
invariant_of-result g c = record {
  unknown = subst (λ text. is_rest g.O.Owner.ignores text ≡ true) (sym c.in_ok-text.ensures) (empty_is_rest g.O.Owner.ignores g.O.Owner.ignores_none);
}
