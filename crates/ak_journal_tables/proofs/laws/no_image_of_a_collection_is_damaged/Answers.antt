use Rattle.ak_journal_tables.proofs.Files.{not_cut_off, not_other}
use Rattle.ak_journal_tables.proofs.laws.no_image_of_a_collection_is_damaged.Goals as goal

pub returns-clause-cut_off : goal.returns-clause-cut_off
returns-clause-cut_off c = not_cut_off

pub returns-clause-other : goal.returns-clause-other
returns-clause-other c = not_other
