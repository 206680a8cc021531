use Rattle.std.proofs.Common.{◌≡◌, false}
use Rattle.ak_sqlite.proofs.reads.add_table.Given as goal

-- it reads over the same connection, and no transaction is open
abbrev pub invariant-shown : goal.invariant-shown
invariant-shown g l = (l.shown.conn.ghost_name ≡ l.initial.shown.conn.ghost_name) × (l.shown.conn.now.in_transaction ≡ false)
