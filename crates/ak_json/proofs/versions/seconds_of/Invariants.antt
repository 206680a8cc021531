use Rattle.std.proofs.Common.{◌≡◌, map, take}
use Rattle.ak_json.specs.Versions.{seconds_of}
use Rattle.ak_json.proofs.versions.seconds_of.Given as goal

-- the steps so far are in seconds
abbrev pub invariant-loop-step : goal.invariant-loop-step
invariant-loop-step l = l.seconds ≡ map seconds_of (take l.step-index l.minutes)
