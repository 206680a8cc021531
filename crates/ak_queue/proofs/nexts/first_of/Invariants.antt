use Rattle.std.proofs.Common.{◌≡◌, drop}
use Rattle.ak_queue.specs.Nexts.{first_of}
use Rattle.ak_queue.proofs.nexts.first_of.Given as goal

-- those that are left decide
abbrev pub invariant-loop-id : goal.invariant-loop-id
invariant-loop-id l = first_of (drop l.id-index l.ids) ≡ first_of l.ids
