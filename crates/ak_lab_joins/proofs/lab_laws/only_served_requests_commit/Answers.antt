use Rattle.ak_lab_joins.proofs.Unserved.{unserved_lines, unserved_runs, unserved_sessions}
use Rattle.ak_lab_joins.proofs.lab_laws.only_served_requests_commit.Goals as goal

pub returns : goal.returns
returns c = record { sessions = unserved_sessions; lines = unserved_lines; runs = unserved_runs }
