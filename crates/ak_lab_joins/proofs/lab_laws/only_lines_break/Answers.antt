use Rattle.ak_lab_joins.proofs.BreaksPlanned.{all_none, line_none, none_stands}
use Rattle.ak_lab_joins.proofs.lab_laws.only_lines_break.Goals as goal

pub returns : goal.returns
returns c = record {
  none = none_stands;
  lines = line_none;
  runs = λ name number all s t printed named none others goes. all_none name number all s t printed named none others goes;
  opened = λ name opening. tt;
}
