use Rattle.std.proofs.Common.{drop}
use Rattle.ak_lab_wires.specs.Servings.{ServesFront}
use Rattle.ak_sync_in_memory.specs.Betweens.{ActEnd}
use Rattle.ak_sync_in_memory.specs.Entries.{LoggedState}
use Rattle.ak_lab_wires.proofs.named_requests.serve_each.Given as goal

-- what is served of the requests that are left, after those so far, is served of all
abbrev pub invariant-loop-request : goal.invariant-loop-request
invariant-loop-request l = (new : LoggedState) (came : ActEnd)
    → ServesFront (drop l.request-index l.requests) l.fn.at l.server new came → ServesFront l.requests l.fn.at l.fn.server new came
