use Rattle.ak_server.proofs.Linking.{links_stay_there}
use Rattle.ak_server.proofs.link_laws.served_links_stay.Goals as goal

pub returns : goal.returns
returns g c = λ accounts server request now reply did. links_stay_there server request now did.setback
