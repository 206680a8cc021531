use Rattle.ak_merge.proofs.UndoingLaws.{undos_keep_links}
use Rattle.ak_merge.proofs.edit_laws.undos_keep_links.Goals as goal

pub returns : goal.returns
returns c = undos_keep_links
