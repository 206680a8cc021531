use Rattle.ak_sync_in_memory.proofs.Calling.{called_from}
use Rattle.ak_sync_in_memory.proofs.loop_wires.LoopWireWire.call.Goals as goal

pub returns : goal.returns
returns g c = record {
  called = called_from g.B.Between.acts g.B.Between.idle c.args.self.now.counts c.args.self.now.mishaps c.args.self.now.between
      c.deliver-answer.new.self.between c.args.self.now.server c.deliver-answer.new.self.server c.args.request.now c.args.self.now.moment
      c.deliver-answer.result c.args.self.now.clock c.deliver-answer.ensures.delivers c.deliver-answer.new.self.counts c.count.new.self
      c.deliver-answer.new.self.mishaps c.deliver-answer.new.self.moment c.deliver-answer.ensures.counts c.count.ensures.counts
      c.count.ensures.later c.deliver-answer.ensures.mishaps c.deliver-answer.ensures.moment;
}
