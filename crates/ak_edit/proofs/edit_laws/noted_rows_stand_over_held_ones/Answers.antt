use Rattle.std.proofs.Common.{refl}
use Rattle.ak_edit.proofs.edit_laws.noted_rows_stand_over_held_ones.Goals as goal

pub returns : goal.returns
returns c = λ held o name. refl
