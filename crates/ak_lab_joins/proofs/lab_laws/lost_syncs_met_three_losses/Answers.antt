use Rattle.ak_lab_joins.proofs.Losses.{crossed_met_three, lost_met_three}
use Rattle.ak_lab_joins.proofs.lab_laws.lost_syncs_met_three_losses.Goals as goal

pub returns : goal.returns
returns c = record { syncs = lost_met_three; crossings = crossed_met_three }
