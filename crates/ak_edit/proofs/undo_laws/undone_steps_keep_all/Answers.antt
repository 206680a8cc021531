use Rattle.ak_edit.proofs.UndoneLists.{undo_keeps_all}
use Rattle.ak_edit.proofs.undo_laws.undone_steps_keep_all.Goals as goal

pub returns : goal.returns
returns c = undo_keeps_all
