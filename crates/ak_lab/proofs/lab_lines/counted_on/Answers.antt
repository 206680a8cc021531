use Rattle.ak_lab.proofs.Copied.{counted}
use Rattle.ak_lab.proofs.lab_lines.counted_on.Goals as goal

pub returns-clause-counted : goal.returns-clause-counted
returns-clause-counted c = counted c.args.device.now.collection c.in_ok-counts.counts c.write_counts.result c.in_ok-counts.ensures.counts c.write_counts.ensures
