use Rattle.std.proofs.Common.{ap, ◌∙◌}
use Rattle.ak_json.proofs.OneRow.{one_row_read, read_or_refused}
use Rattle.ak_journal_rows.specs.Reads.{of_json}
use Rattle.ak_journal_rows.proofs.Found.{row_reads}
use Rattle.ak_journal_rows.proofs.entries.row_of.Goals as goal

pub returns-in-Ok : goal.returns-in-Ok
returns-in-Ok c = λ row good own is. one_row_read c.args.table _ c.in-Ok.row row c.in-Ok.ensures.ok (row_reads c.args.table _ row good own is)

pub returns-in-Err : goal.returns-in-Err
returns-in-Err c = λ row good own is.
    c.from.ensures ∙ ap of_json (read_or_refused c.args.table _ row c.in-Err.fault (row_reads c.args.table _ row good own is) c.in-Err.ensures.refused)
