use Rattle.std.proofs.Common.{rules}
use Rattle.ak_search.proofs.OnePass.{end_step}
use Rattle.ak_search.proofs.matching.may_end.Goals as goal

pub loop-place-preserved : goal.loop-place-preserved
loop-place-preserved c = search (rules, end_step c.loop-place.place c.loop-place.skipped c.args.row.now c.args.pattern.now)
