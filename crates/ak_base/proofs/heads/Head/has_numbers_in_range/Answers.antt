use Rattle.std.proofs.Common.{pos, rules}
use Rattle.std.specs.Bool.{Decides}
use Rattle.ak_base.specs.Heads.{AreHeadNumbersInRange, IsMoment, IsWithin}
use Rattle.ak_base.specs.Limits.{last_head_usn, last_stamp}
use Rattle.ak_base.proofs.InRange.{both_decide, pair_decides}
use Rattle.ak_base.proofs.heads.Head.has_numbers_in_range.Goals as goal

pub returns : goal.returns
returns c =
    let crt : Decides c.is_within.result (IsWithin (pos 0) last_stamp c.args.self.now.crt) = search rules in
    let moment : Decides c.is_within-2.result (IsMoment c.args.self.now.moment) = search rules in
    let schema : Decides c.is_within-3.result (IsMoment c.args.self.now.schema) = search rules in
    let usn : Decides c.is_within-4.result (IsWithin (pos 0) last_head_usn c.args.self.now.usn) = search rules in
    let sync : Decides c.is_within-5.result (IsMoment c.args.self.now.last_sync) = search rules in
    both_decide (AreHeadNumbersInRange c.args.self.now) _ _ (pair_decides _ _ (pair_decides _ _ (pair_decides _ _ crt moment) schema) usn) sync
    (λ r last. record { crt = r.0.0.0; moments = record { moment = r.0.0.1; schema = r.0.1; usn = r.1; last_sync = last } })
    (λ r. (((r.crt, r.moments.moment), r.moments.schema), r.moments.usn)) (λ r. r.moments.last_sync)
