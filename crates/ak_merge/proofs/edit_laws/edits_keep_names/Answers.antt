use Rattle.ak_merge.proofs.EditLaws.{edits_keep_names, edits_keep_single}
use Rattle.ak_merge.proofs.edit_laws.edits_keep_names.Goals as goal

pub returns : goal.returns
returns c = record { named = edits_keep_names; single = edits_keep_single }
