use Rattle.ak_merge.proofs.EditBuildingLaws.{tags_are_admitted}
use Rattle.ak_merge.proofs.edit_building.tags_are_admitted.Goals as goal

pub returns : goal.returns
returns c = tags_are_admitted
