use Rattle.ak_merge.proofs.EditBuildingLaws.{schema_changes_are_admitted}
use Rattle.ak_merge.proofs.edit_building.schema_changes_are_admitted.Goals as goal

pub returns : goal.returns
returns c = schema_changes_are_admitted
