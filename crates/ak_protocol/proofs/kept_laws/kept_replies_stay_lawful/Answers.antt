use Rattle.ak_protocol.proofs.Kept.{kept_replies_stay_lawful}
use Rattle.ak_protocol.proofs.kept_laws.kept_replies_stay_lawful.Goals as goal

pub returns : goal.returns
returns c = kept_replies_stay_lawful
