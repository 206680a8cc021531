use Rattle.std.proofs.Common.{refl}
use Rattle.ak_edit.proofs.Viewing.{cards_left, get-rows_over}
use Rattle.ak_edit.proofs.view_laws.views_show_what_edits_leave.Goals as goal

pub returns : goal.returns
returns c = record {
  rows = λ o held name. get-rows_over o held.rows name;
  conf = λ o held. refl;
  tags = λ o held. refl;
  cards = cards_left;
}
