use Rattle.std.proofs.Common.{refl}
use Rattle.ak_edit.proofs.Building.{nothing_asked, put_asked, removal_asked}
use Rattle.ak_edit.proofs.edit_laws.changes_build_edits.Goals as goal

pub returns : goal.returns
returns c = record {
  none = nothing_asked;
  put = put_asked;
  removed = removal_asked;
  conf = λ c o conf. refl;
  tag = λ c o name. refl;
  schema = λ c o. refl;
}
