use Rattle.ak_merge.proofs.EditBuildingLaws.{edits_keep_all}
use Rattle.ak_merge.proofs.edit_building.edits_keep_all.Goals as goal

pub returns : goal.returns
returns c = edits_keep_all
