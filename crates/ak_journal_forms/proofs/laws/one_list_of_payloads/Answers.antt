use Rattle.ak_journal_forms.proofs.Readings.{payloads_in_file}
use Rattle.ak_journal_forms.proofs.laws.one_list_of_payloads.Goals as goal

pub returns : goal.returns
returns c payloads file stands = payloads_in_file payloads file stands
