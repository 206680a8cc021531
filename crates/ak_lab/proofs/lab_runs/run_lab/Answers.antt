use Rattle.std.proofs.Common.{inl}
use Rattle.ak_lab.proofs.Going.{runs_lab}
use Rattle.ak_lab.proofs.lab_runs.run_lab.Goals as goal

pub returns-clause-runs : goal.returns-clause-runs
returns-clause-runs g c =
    let opened = c.in-Ok-open.ensures.opened in
    inl (runs_lab _ _ _ opened.0 _ _ _ _ _ c.in-Ok.ensures opened.2 opened.1 c.run_lines-lab.ensures.runs c.into_log.ensures)
