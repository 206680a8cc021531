use Rattle.std.proofs.Common.{◌≡◌}
use Rattle.ak_sqlite.proofs.layouts.run_each.Given as goal

-- it is still the transaction of the same connection
abbrev pub invariant-loop-text : goal.invariant-loop-text
invariant-loop-text g l = l.transaction.conn.ghost_name ≡ l.initial.transaction.conn.ghost_name
