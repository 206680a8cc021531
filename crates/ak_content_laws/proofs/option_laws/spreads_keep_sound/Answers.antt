use Rattle.ak_content_laws.proofs.CallEnds.{asks_alike}
use Rattle.ak_content_laws.proofs.CardCalls.{alike_itself}
use Rattle.ak_content_laws.proofs.Keepings.{rule_keeps}
use Rattle.ak_merge.specs.Holdings.{row_under}
use Rattle.ak_options.specs.Spreads.{RefusesSpread, spreading}
use Rattle.ak_content_laws.proofs.option_laws.spreads_keep_sound.Goals as goal

pub returns : goal.returns
returns c = λ at value before now steps left result ends held. rule_keeps at (spreading value) (RefusesSpread at value) before now steps left result (asks_alike (spreading value) (RefusesSpread at value) (λ d _. alike_itself (row_under d))) ends held
