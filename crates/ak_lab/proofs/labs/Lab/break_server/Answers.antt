use Rattle.std.proofs.Common.{List, ℕ, ap}
use Rattle.ak_lab.specs.LabStates.{LabState, state_of}
use Rattle.ak_lab.proofs.labs.Lab.break_server.Goals as goal

pub returns-in-Ok-clause-ends : goal.returns-in-Ok-clause-ends
returns-in-Ok-clause-ends c =
    (ap (λ (calls : List ℕ). let t : LabState = record (state_of c.args.self.now) { fails = calls } in t) c.in-Ok.ensures, c.new.ensures)

pub returns-in-Ok-clause-ready : goal.returns-in-Ok-clause-ready
returns-in-Ok-clause-ready c = record { clocks = c.requires.ready.clocks; calm = c.requires.ready.calm }
