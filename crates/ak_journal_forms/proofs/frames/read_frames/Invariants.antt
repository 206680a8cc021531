use Rattle.std.proofs.Common.{◌≤◌, ◌-◌, length, take}
use Rattle.ak_journal_forms.specs.Frames.{AreFrames}
use Rattle.ak_base.specs.Bytes.{bytes_of_each}
use Rattle.ak_journal_forms.proofs.frames.read_frames.Given as goal

abbrev pub invariant-loop-size : goal.invariant-loop-size
invariant-loop-size l = record {
  within : l.gate ≤ length l.file;
  frames : AreFrames (bytes_of_each l.payloads.items) (take l.gate l.file);
}

abbrev pub decreases-loop-size : goal.decreases-loop-size
decreases-loop-size l = length l.file - l.gate
