use Rattle.ak_journal_forms.proofs.FrameLists.{stands_before}
use Rattle.ak_journal_forms.proofs.laws.frames_stand_before_what_follows.Goals as goal

pub returns : goal.returns
returns c payloads more front rest gate frames behind = stands_before payloads more front rest gate frames behind
