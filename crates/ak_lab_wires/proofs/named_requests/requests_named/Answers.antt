use Rattle.std.proofs.Common.{arith}
use Rattle.ak_lab_wires.proofs.Named.{entries_ended, entry_added}
use Rattle.ak_lab_wires.proofs.named_requests.requests_named.Goals as goal

pub loop-entry-preserved : goal.loop-entry-preserved
loop-entry-preserved c =
    entry_added c.args.entries.now c.loop-entry.entry-index c.entry-item.result c.loop-entry.made c.add_named.new.made _
    c.loop-entry.wanted.passed c.loop-entry.wanted.named c.in_ok-wanted.wanted.passed c.in_ok-wanted.wanted.named (omega arith) c.entry-item.is
    c.in_ok-wanted.ensures c.loop-entry.invariant

pub returns : goal.returns
returns c = entries_ended c.args.entries.now c.loop-entry.entry-index c.loop-entry.made _ c.loop-entry.wanted.passed c.loop-entry.wanted.named (omega arith) c.loop-entry.invariant
