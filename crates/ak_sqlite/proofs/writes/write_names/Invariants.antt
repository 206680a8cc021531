use Rattle.std.proofs.Common.{◌≡◌}
use Rattle.ak_sqlite.proofs.writes.write_names.Given as goal

-- it is still the transaction of the same connection
abbrev pub invariant-loop-name : goal.invariant-loop-name
invariant-loop-name g l = l.transaction.conn.ghost_name ≡ l.initial.transaction.conn.ghost_name
