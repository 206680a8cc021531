use Rattle.std.proofs.Common.{◌||◌, suc, pos, false, ap}
use Rattle.std.proofs.lemmas.List.{get_or-replicate}
use Rattle.ak_cardgen.specs.Generation.{has_number}
use Rattle.ak_cardgen.proofs.cloze_ords.marks_of.Goals as goal

pub loop-number-init : goal.loop-number-init
loop-number-init c ord inside = ap (λ b. b || has_number (pos (suc ord)) c.args.numbers.now) (get_or-replicate 500 ord false false inside)
