use Rattle.std.proofs.Common.{length}
use Rattle.ak_wire.proofs.wholes.+read_tables.Given as goal

abbrev pub decreases-read_tables : goal.decreases-read_tables
decreases-read_tables l = length l.tables.now
