use Rattle.ak_sync_runs.proofs.Telling.{other_status, printed_no_changes, untold_end}
use Rattle.ak_sync_runs.proofs.run_laws.other_ends_keep_the_device.Goals as goal

pub returns : goal.returns
returns g c = record { unchanged = printed_no_changes; unfinished = other_status; untold = untold_end }
