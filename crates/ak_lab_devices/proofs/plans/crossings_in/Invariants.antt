use Rattle.std.proofs.Common.{◌≡◌, ◌++◌, drop}
use Rattle.ak_lab_devices.specs.Plans.{crossings_of}
use Rattle.ak_lab_devices.proofs.plans.crossings_in.Given as goal

-- those so far that make another device sync, and those that are left, are all
abbrev pub invariant-loop-it : goal.invariant-loop-it
invariant-loop-it l = l.made ++ crossings_of (drop l.it-index l.planned) ≡ crossings_of l.planned
