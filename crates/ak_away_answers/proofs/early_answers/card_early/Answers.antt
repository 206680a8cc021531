use Rattle.std.proofs.Common.{◌≡◌, ◌+ℤ◌, pos, rules, w64, to_z, of_z}
use Rattle.ak_away_answers.proofs.EarlyChecks.{card_is_made}
use Rattle.ak_away_answers.specs.EarlyAnswers.{early_factor, early_ivl}
use Rattle.ak_sched.specs.Counts.{clamped_to_zero, next_count}
use Rattle.ak_away_answers.proofs.early_answers.card_early.Goals as goal

pub returns : goal.returns
returns c =
    let days = early_ivl c.args.options.now c.args.asked.now.day c.args.button c.args.asked.now.card in
    let due : to_z w64 (of_z w64 c.day_after.result) ≡ c.args.asked.now.day.number +ℤ pos days = search rules in
    let ivl : to_z w64 c.early_ivl-ivl.result ≡ pos days = search rules in
    let factor : to_z w64 (of_z w64 c.early_factor.result) ≡ early_factor c.args.button c.args.asked.now.card = search rules in
    let reps : to_z w64 (of_z w64 c.one_more.result) ≡ pos (next_count (clamped_to_zero c.args.asked.now.card.reps)) = search rules in
    card_is_made c.args.options.now c.args.asked.now c.args.button c.args.home _ _ _ _ due ivl factor reps
