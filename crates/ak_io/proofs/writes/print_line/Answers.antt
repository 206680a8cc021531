use Rattle.std.proofs.lemmas.Result.{on_err_weaker}
use Rattle.ak_io.proofs.Scripts.{part_after}
use Rattle.ak_io.proofs.writes.print_line.Goals as goal

pub returns-clause-part : goal.returns-clause-part
returns-clause-part g c = on_err_weaker c.write_all-2.result (part_after _ _ _ _ _ c.in_ok-write_all.ensures.ok) c.write_all-2.ensures.part
