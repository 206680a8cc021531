use Rattle.std.proofs.Common.{List, Vec, ℕ, ap, arith}
use Rattle.std.specs.declared.alloc.Global.{Global}
use Rattle.ak_journal_forms.specs.Frames.{frames_length}
use Rattle.ak_base.specs.Bytes.{bytes_of_each}
use Rattle.ak_journal_tables.proofs.Gates.{front_within}
use Rattle.ak_journal_tables.proofs.folds.gate_of.Goals as goal

pub frames_size-requires : goal.frames_size-requires
frames_size-requires c = omega (arith, c.requires.fits, front_within c.args.place c.args.payloads.now, ap (λ (these : List (Vec ℕ Global)). frames_length (bytes_of_each these)) c.front.ensures)
