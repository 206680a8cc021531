use Rattle.ak_merge.proofs.EditBuildingLaws.{edits_keep_all}
use Rattle.ak_edit.proofs.edit_laws.finished_edits_keep_all.Goals as goal

pub returns : goal.returns
returns c = λ at held edit k l steps left is admits. edits_keep_all at held is.after edit (record { admits = admits; leaves = is.edited }) is.named
