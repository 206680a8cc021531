use Rattle.ak_merge.proofs.EditBuildingLaws.{maps_are_admitted}
use Rattle.ak_merge.proofs.edit_building.maps_are_admitted.Goals as goal

pub returns : goal.returns
returns c = maps_are_admitted
