use Rattle.std.proofs.Common.{ap, ◌∙◌}
use Rattle.ak_json.proofs.OneRow.{conf_read_or_refused, one_conf}
use Rattle.ak_journal_rows.specs.Reads.{of_json}
use Rattle.ak_journal_rows.proofs.Found.{conf_reads}
use Rattle.ak_journal_rows.proofs.heads.conf_under.Goals as goal

pub returns-in-Ok : goal.returns-in-Ok
returns-in-Ok c = λ conf range is. one_conf _ c.in-Ok.conf conf c.in-Ok.ensures.ok (conf_reads _ _ conf c.in_ok-under.ensures.found range is)

pub returns-in-Err : goal.returns-in-Err
returns-in-Err c = λ conf range is.
    c.from.ensures ∙ ap of_json (conf_read_or_refused _ conf c.in-Err.fault (conf_reads _ _ conf c.in_ok-under.ensures.found range is) c.in-Err.ensures.err)
