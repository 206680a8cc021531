use Rattle.std.proofs.Common.{◌≡◌, true, ℕ, List}
use Rattle.ak_base.specs.Rests.{is_rest}
use Rattle.ak_base.specs.declared.rests.Rest.{Rest}
use Rattle.ak_base.proofs.Resting.{same_proof}
use Rattle.ak_base.proofs.rests.Rest.copy.Given as given
use Rattle.ak_base.proofs.rests.Rest.copy.Goals as goal

-- rests of one text are one, whatever shows that they hold none of the owner's keys
same_rests : (g : given.Over) {x y : List ℕ} (u : is_rest g.O.Owner.ignores x ≡ true) (v : is_rest g.O.Owner.ignores y ≡ true) → x ≡ y
    → ◌≡◌ {A = Rest g.row.O.Denot g.O.Owner} (record { text = x; owner = record {}; unknown = u }) (record { text = y; owner = record {}; unknown = v })
same_rests g u v p = λ i. record {
  text = p i;
  owner = record {};
  unknown = same_proof g.O.Owner.ignores p u v i;
}

pub returns : goal.returns
returns g c = same_rests g _ _ c.in_ok-text.ensures
