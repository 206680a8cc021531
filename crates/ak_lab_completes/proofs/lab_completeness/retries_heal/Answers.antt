use Rattle.ak_lab_completes.proofs.Healing.{joinable_then}
use Rattle.ak_lab_completes.proofs.lab_completeness.retries_heal.Goals as goal

pub returns : goal.returns
returns c = λ account name s t u number held again first second unfinished near key_left joinable more ended. c.next_syncs_heal.ensures.joined account name s t u
    number held held again first second unfinished
    (c.next_syncs_begin_unhindered.ensures account name s t number held first unfinished joinable.formed near key_left)
    (joinable_then account name s t held first unfinished c.other_syncs_keep_sides.ensures c.joins_stay_joinable.ensures joinable more) ended
