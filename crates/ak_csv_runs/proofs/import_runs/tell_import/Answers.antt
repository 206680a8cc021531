use Rattle.std.proofs.Common.{inl, inr, sym, ◌∙◌, rules}
use Rattle.ak_csv_runs.proofs.ImportEnds.{no_line}
use Rattle.ak_csv_runs.proofs.import_runs.tell_import.Goals as goal

pub returns-then-has_no_line-clause-told : goal.returns-then-has_no_line-clause-told
returns-then-has_no_line-clause-told g c =
    inr (inl (no_line c.args.end.now (sym c.has_no_line.ensures ∙ c.if-has_no_line.true), c.import_status-status.ensures.status, search rules))
