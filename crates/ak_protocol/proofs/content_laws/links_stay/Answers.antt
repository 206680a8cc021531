use Rattle.ak_protocol.proofs.ContentLaws.{links_stay_served, links_stay, old_schemas_stay_old}
use Rattle.ak_protocol.proofs.content_laws.links_stay.Goals as goal

pub returns : goal.returns
returns c = record { served = links_stay_served; logs = links_stay; old = old_schemas_stay_old }
