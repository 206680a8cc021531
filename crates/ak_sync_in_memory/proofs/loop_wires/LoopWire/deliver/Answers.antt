use Rattle.std.specs.Prelude.{◌||◌}
use Rattle.std.proofs.Common.{ap, ◌∙◌, rules, w64, SFits}
use Rattle.std.proofs.lemmas.Int.{to_z-of_z}
use Rattle.ak_sync_in_memory.proofs.InARow.{delivered, not_delivered}
use Rattle.ak_sync_in_memory.specs.LoopWires.{times_of}
use Rattle.ak_sync_in_memory.specs.Mishaps.{is_lost, servings}
use Rattle.ak_sync_in_memory.proofs.loop_wires.LoopWire.deliver.Goals as goal

pub returns-in-Ok-clause-delivers : goal.returns-in-Ok-clause-delivers
returns-in-Ok-clause-delivers g c =
    let fits : SFits w64 c.args.self.now.moment = search rules in
    let fate = c.fate_at-fate.result in
    delivered g.B.Between.acts g.B.Between.idle c.args.self.now.counts.calls c.args.self.now.mishaps c.args.self.now.between c.before-2.new.self c.args.self.now.server
    c.before-2.new.server c.args.request.now c.args.self.now.moment _ c.in-Ok.ensures.acts c.before-2.ensures.comes c.before-2.ensures.idle
    c.serve_by.new.server c.serve_by.result
    (fate.loses_request || fate.loses_reply) (times_of fate.loses_request fate.repeats)
    (c.fate_at-fate.ensures.lost ∙ ap (is_lost c.args.self.now.counts.calls) c.as_slice.ensures)
    (c.fate_at-fate.ensures.times ∙ ap (servings c.args.self.now.counts.calls) c.as_slice.ensures)
    (rw (to_z-of_z w64 c.args.self.now.moment fits) at c.serve_by.ensures)

pub returns-in-Err-clause-delivers : goal.returns-in-Err-clause-delivers
returns-in-Err-clause-delivers g c =
    not_delivered g.B.Between.acts g.B.Between.idle c.args.self.now.counts.calls c.args.self.now.mishaps c.args.self.now.between c.before-2.new.self c.args.self.now.server
    c.before-2.new.server c.args.request.now c.args.self.now.moment _ c.in-Err.ensures.acts c.before-2.ensures.comes c.before-2.ensures.idle
