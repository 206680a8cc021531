use Rattle.std.proofs.Common.{pos, negsuc, rules}
use Rattle.std.specs.Bool.{Decides}
use Rattle.ak_base.specs.Heads.{AreConfNumbersInRange, IsWithin}
use Rattle.ak_base.proofs.InRange.{both_decide, pair_decides}
use Rattle.ak_base.proofs.heads.Conf.has_numbers_in_range.Goals as goal

pub returns : goal.returns
returns c =
    let spread : Decides c.is_within.result (IsWithin (pos 0) (pos 2) c.args.self.now.new_spread) = search rules in
    let collapse : Decides c.is_within-2.result (IsWithin (pos 0) (pos 86_400) c.args.self.now.collapse) = search rules in
    let next : Decides c.is_within-3.result (IsWithin (pos 0) (pos 2_147_483_647) c.args.self.now.next_pos) = search rules in
    let last : Decides c.is_within-4.result (IsWithin (negsuc 9_999_999) (pos 100_000_000) c.args.self.now.last_unburied) = search rules in
    both_decide (AreConfNumbersInRange c.args.self.now) _ _ (pair_decides _ _ (pair_decides _ _ spread collapse) next) last
    (λ r last. record { new_spread = r.0.0; collapse = r.0.1; next_pos = r.1; last_unburied = last })
    (λ r. ((r.new_spread, r.collapse), r.next_pos)) (λ r. r.last_unburied)
