use Rattle.ak_merge.proofs.EditLaws.{edits_keep_links}
use Rattle.ak_merge.proofs.edit_laws.edits_keep_links.Goals as goal

pub returns : goal.returns
returns c = edits_keep_links
