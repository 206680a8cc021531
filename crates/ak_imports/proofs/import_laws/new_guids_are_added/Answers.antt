use Rattle.ak_imports.proofs.NewNotes.{new_guids_are_added}
use Rattle.ak_imports.proofs.import_laws.new_guids_are_added.Goals as goal

pub returns : goal.returns
returns c = new_guids_are_added
