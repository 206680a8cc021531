use Rattle.std.proofs.Common.{◌≡◌, ◌++◌, drop}
use Rattle.ak_lab_wires.specs.Servings.{named_from, requests_in}
use Rattle.ak_lab_wires.proofs.named_requests.requests_named.Given as goal

-- the copies so far, and what is wanted of the entries that are left, are all
abbrev pub invariant-loop-entry : goal.invariant-loop-entry
invariant-loop-entry l =
    l.made ++ named_from l.wanted.passed l.wanted.named (requests_in (drop l.entry-index l.entries))
    ≡ named_from l.from l.count (requests_in l.entries)
