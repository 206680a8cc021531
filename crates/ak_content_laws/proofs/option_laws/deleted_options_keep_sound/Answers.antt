use Rattle.ak_content_laws.proofs.CallEnds.{asks_alike}
use Rattle.ak_content_laws.proofs.CardCalls.{options_deletion_alike}
use Rattle.ak_content_laws.proofs.Keepings.{rule_keeps}
use Rattle.ak_options.specs.OptionDeletions.{RefusesDeletion, options_deletion}
use Rattle.ak_content_laws.proofs.option_laws.deleted_options_keep_sound.Goals as goal

pub returns : goal.returns
returns c = λ at options allow before now steps left result ends held. rule_keeps at (options_deletion options) (RefusesDeletion at options allow) before now steps left result (asks_alike (options_deletion options) (RefusesDeletion at options allow) (λ d _. options_deletion_alike options d)) ends held
