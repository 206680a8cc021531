use Rattle.ak_lab_completes.proofs.Beginning.{next_begins}
use Rattle.ak_lab_completes.proofs.lab_completeness.next_syncs_begin_unhindered.Goals as goal

pub returns : goal.returns
returns c = λ account name s t number held first unfinished formed near key_left. next_begins account name s t number held first unfinished formed near
    key_left c.other_syncs_keep_sides.ensures c.syncs_use_up_breaks.ensures.devices
