use Rattle.ak_lab_joins.proofs.Prints.{printed_joins}
use Rattle.ak_lab_joins.proofs.lab_laws.printed_syncs_join.Goals as goal

pub returns : goal.returns
returns c = printed_joins c.any_lines_are_steps.ensures
