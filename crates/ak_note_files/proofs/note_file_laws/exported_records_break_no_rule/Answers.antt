use Rattle.ak_note_files.proofs.Returning.{breaks_no_rule}
use Rattle.ak_note_files.proofs.note_file_laws.exported_records_break_no_rule.Goals as goal

pub returns : goal.returns
returns c = breaks_no_rule
