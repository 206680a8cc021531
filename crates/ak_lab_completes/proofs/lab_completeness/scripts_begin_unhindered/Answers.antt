use Rattle.ak_lab_completes.proofs.Beginning.{script_begins}
use Rattle.ak_lab_completes.proofs.lab_completeness.scripts_begin_unhindered.Goals as goal

pub returns : goal.returns
returns c = record {
  alone = script_begins c.runs_keep_labs_linked.ensures;
  unhindered = λ opening all printed number name s held opens fresh goes losses holds formed. record {
    alone = script_begins c.runs_keep_labs_linked.ensures opening all printed number name s held opens fresh goes holds formed;
    losses = losses;
  };
}
