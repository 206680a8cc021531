use Rattle.ak_journal_forms.proofs.Images.{gate_open}
use Rattle.ak_journal_forms.proofs.laws.a_gate_opens_the_payload_behind_it.Goals as goal

pub returns-clause-opens : goal.returns-clause-opens
returns-clause-opens c payloads payload gate file image was behind small torn is = gate_open payloads payload gate file image was behind torn small is
