use Rattle.std.proofs.Common.{rules}
use Rattle.ak_journal_forms.specs.Frames.{length_bytes}
use Rattle.ak_journal_forms.proofs.gates.closed_frame.Goals as goal

pub returns : goal.returns
unfolding length_bytes
returns c = search rules
