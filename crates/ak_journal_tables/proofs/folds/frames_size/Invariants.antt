use Rattle.std.proofs.Common.{◌≡◌, take}
use Rattle.ak_journal_forms.specs.Frames.{frames_length}
use Rattle.ak_base.specs.Bytes.{bytes_of_each}
use Rattle.ak_journal_tables.proofs.folds.frames_size.Given as goal

-- the frames of the payloads so far
abbrev pub invariant-loop-payload : goal.invariant-loop-payload
invariant-loop-payload l = l.size ≡ frames_length (bytes_of_each (take l.payload-index l.payloads))
