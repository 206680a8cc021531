use Rattle.ak_sync_completes.proofs.Stopping.{never_stopped}
use Rattle.ak_sync_completes.proofs.stops.syncs_are_never_stopped.Goals as goal

pub returns : goal.returns
returns g c = λ ids old held before left h0 h1 w0 w1 moments outcome told tells ended.
    never_stopped ids old h0 h1 w0 w1 told held before left moments outcome tells ended
