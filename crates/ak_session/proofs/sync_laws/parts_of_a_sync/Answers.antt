use Rattle.ak_session.proofs.Sums.{given_in_parts, sent_in_parts}
use Rattle.ak_session.proofs.sync_laws.parts_of_a_sync.Goals as goal

pub returns : goal.returns
returns c = record { given = given_in_parts; sent = sent_in_parts }
