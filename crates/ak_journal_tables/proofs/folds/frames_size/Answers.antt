use Rattle.std.proofs.Common.{arith}
use Rattle.ak_journal_tables.proofs.Gates.{gate_within, next_gate}
use Rattle.ak_journal_tables.proofs.folds.frames_size.Goals as goal

pub loop-payload-preserved : goal.loop-payload-preserved
loop-payload-preserved c = omega (arith, next_gate c.args.payloads.now c.loop-payload.payload-index c.payload-item.result (omega arith) c.payload-item.is, c.loop-payload.invariant)

pub overflow_add-size-in-loop-payload : goal.overflow_add-size-in-loop-payload
overflow_add-size-in-loop-payload c = omega (arith, gate_within c.args.payloads.now c.loop-payload.payload-index c.payload-item.result (omega arith) c.payload-item.is, c.loop-payload.invariant, c.requires)
