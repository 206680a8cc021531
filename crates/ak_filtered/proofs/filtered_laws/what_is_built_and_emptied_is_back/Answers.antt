use Rattle.ak_filtered.proofs.BuiltAndEmptied.{calls_give_back, is_back}
use Rattle.ak_filtered.proofs.filtered_laws.what_is_built_and_emptied_is_back.Goals as goal

pub returns-clause-calls : goal.returns-clause-calls
returns-clause-calls c = calls_give_back

pub returns-clause-edits : goal.returns-clause-edits
returns-clause-edits c = is_back
