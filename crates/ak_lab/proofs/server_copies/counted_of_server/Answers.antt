use Rattle.std.proofs.Common.{◌≡◌}
use Rattle.ak_lab.proofs.Copied.{copied, counted}
use Rattle.ak_lab_lines.specs.LabTexts.{counts_text}
use Rattle.ak_session.specs.Answers.{counts_of}
use Rattle.ak_lab.proofs.server_copies.counted_of_server.Goals as goal

pub returns-clause-counted : goal.returns-clause-counted
returns-clause-counted c =
    copied (λ text d. text ≡ counts_text (counts_of d.rows)) c.in_ok-copy.copy _ c.write_counts.result c.in_ok-copy.ensures.copy
    (counted c.in_ok-copy.copy c.in_ok-counts.counts c.write_counts.result c.in_ok-counts.ensures.counts c.write_counts.ensures)
