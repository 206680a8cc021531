use Rattle.ak_lab_joins.proofs.Breaks.{all_meet, line_meets, opened_meets, runs_meet_by_breaks}
use Rattle.ak_lab_joins.proofs.BreaksPlanned.{crossers_fail_not}
use Rattle.ak_lab_joins.proofs.Unfailed.{crossed_by_break, failed_by_break, resends_meet_no_fault, sessions_meet_no_fault}
use Rattle.ak_lab_joins.proofs.lab_laws.keepers_fail_by_breaks_alone.Goals as goal

pub returns : goal.returns
returns c = record {
  devices = failed_by_break;
  crossings = crossed_by_break;
  crossers = λ kind name other s t crossed outcome named none ended. crossers_fail_not other kind name s t crossed outcome named none ended;
  sessions = sessions_meet_no_fault;
  resends = resends_meet_no_fault;
  lines = line_meets;
  scripts = all_meet;
  opened = opened_meets;
  runs = runs_meet_by_breaks;
}
