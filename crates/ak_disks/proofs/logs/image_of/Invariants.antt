use Rattle.std.proofs.Common.{◌≡◌, take}
use Rattle.ak_disks.specs.Images.{draw_after}
use Rattle.ak_disks.specs.Logs.{happened, replay_of}
use Rattle.ak_disks.proofs.logs.image_of.Given as goal

abbrev pub invariant-loop-entry : goal.invariant-loop-entry
invariant-loop-entry l = replay_of l.replay ≡ draw_after l.first l.pick (happened l.written (take l.entry-index l.entries))
