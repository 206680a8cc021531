use Rattle.std.proofs.Common.{arith}
use Rattle.ak_sched.proofs.Multiples.{leech_by_rest, rest_by_leech}
use Rattle.ak_sched.proofs.leeches.is_met.Goals as goal

pub returns-then-lapses-fails : goal.returns-then-lapses-fails
returns-then-lapses-fails c =
    rw c.max.ensures (
      leech_by_rest c.args.lapses c.args.fails (omega arith) (omega arith),
      rest_by_leech c.args.lapses c.args.fails,
    )
