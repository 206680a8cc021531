use Rattle.ak_journal_tables.proofs.Files.{one_holding}
use Rattle.ak_journal_tables.proofs.laws.a_file_holds_one_collection.Goals as goal

pub returns : goal.returns
returns c = one_holding
