use Rattle.ak_client.proofs.Stating.{still_in_sync}
use Rattle.ak_exchange.proofs.Passing.{advances_held}
use Rattle.ak_client.proofs.states.Pulled.push.Goals as goal

pub returns-in-Ok-clause-in_sync : goal.returns-in-Ok-clause-in_sync
returns-in-Ok-clause-in_sync g c =
    still_in_sync _ _ _ c.requires.in_sync (advances_held _ _ _ _ _ _ _ _ _ _ _ c.in-Ok.ensures.leads c.requires.in_sync.held) c.in-Ok.ensures.stays
