use Rattle.ak_journal_tables.proofs.Files.{opened_one}
use Rattle.ak_journal_tables.proofs.laws.what_is_opened_was_committed_or_under_way.Goals as goal

pub returns : goal.returns
returns c = opened_one
