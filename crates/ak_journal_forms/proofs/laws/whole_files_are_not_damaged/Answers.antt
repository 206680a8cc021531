use Rattle.ak_journal_forms.proofs.Readings.{not_damaged}
use Rattle.ak_journal_forms.proofs.laws.whole_files_are_not_damaged.Goals as goal

pub returns : goal.returns
returns c payloads place file stands damaged = not_damaged payloads place file stands damaged
