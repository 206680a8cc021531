use Rattle.ak_content_laws.proofs.CallEnds.{asks_alike}
use Rattle.ak_content_laws.proofs.CardCalls.{group_alike}
use Rattle.ak_content_laws.proofs.Keepings.{rule_keeps}
use Rattle.ak_options.specs.OptionGroups.{RefusesChange, as_given, options_change}
use Rattle.ak_content_laws.proofs.option_laws.changed_options_keep_sound.Goals as goal

pub returns : goal.returns
returns c = λ at options before now steps left result ends held. rule_keeps at (options_change options) (RefusesChange at options) before now steps left result (asks_alike (options_change options) (RefusesChange at options) (λ d _. group_alike (as_given options) d)) ends held
