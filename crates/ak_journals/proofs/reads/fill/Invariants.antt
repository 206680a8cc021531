use Rattle.std.proofs.Common.{◌≡◌, ◌-◌, ◌≤◌, List, ℕ, length, take}
use Rattle.std.specs.Option.{ForSome}
use Rattle.ak_faults.specs.Causes.{GoesOn}
use Rattle.ak_disks.specs.Disks.{Elapses, NoMore}
use Rattle.ak_journals.proofs.reads.fill.Given as goal

abbrev pub invariant-loop-done : goal.invariant-loop-done
invariant-loop-done g l = record {
  within : l.done ≤ length l.into;
  told : ForSome (g.D.Disk.content l.fn.disk) (λ (file : List ℕ). length file ≡ length l.into → take l.done l.into ≡ take l.done file);
  same : g.D.Disk.content l.disk ≡ g.D.Disk.content l.fn.disk;
  crash : NoMore (g.D.Disk.may_leave l.fn.disk) (g.D.Disk.may_leave l.disk);
  time : Elapses (g.D.Disk.moment l.fn.disk) (g.D.Disk.moment l.disk) (g.D.Disk.may_have_left l.fn.disk) (g.D.Disk.may_have_left l.disk) (g.D.Disk.may_leave l.fn.disk);
  calm : g.D.End.health l.disk ≡ g.D.End.health l.fn.disk;
  goes : GoesOn (g.D.End.health l.fn.disk) (g.D.End.health l.disk);
}

abbrev pub decreases-loop-done : goal.decreases-loop-done
decreases-loop-done g l = length l.into - l.done
