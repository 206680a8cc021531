use Rattle.std.proofs.Common.{◌≡◌, ap, negsuc, refl, ◌≤◌, length, ℤ, Option, rules}
use Rattle.std.specs.Option.{option_or}
use Rattle.ak_filtered.specs.Builds.{due_in}
use Rattle.ak_filtered.proofs.RefilledRows.{all_due, below_first}
use Rattle.ak_filtered.proofs.refills.Dues.of.Goals as goal

pub loop-id-init : goal.loop-id-init
loop-id-init c =
    let few : length c.args.cards.now ≤ 99_999 = c.requires in
    record {
      dues = λ id. ap (λ (f : ℤ → Option ℤ). option_or (f id) (due_in c.args.cards.now id)) c.none-dues.ensures;
      below = below_first (negsuc 99_999) (length c.args.cards.now) refl few;
    }

pub returns : goal.returns
returns c =
    let none : length c.loop-id.rest.now ≡ 0 = search rules in
    all_due c.loop-id.dues _ c.loop-id.rest.now c.args.cards.now none c.loop-id.invariant.dues
