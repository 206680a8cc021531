use Rattle.ak_protocol.proofs.InARow.{world_again, reply_again}
use Rattle.ak_protocol.proofs.repeat_laws.repeats_in_a_row.Goals as goal

pub returns : goal.returns
returns c = record { world = world_again; reply = reply_again }
