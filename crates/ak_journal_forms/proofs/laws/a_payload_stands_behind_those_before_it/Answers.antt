use Rattle.ak_journal_forms.proofs.Places.{payload_at}
use Rattle.ak_journal_forms.proofs.laws.a_payload_stands_behind_those_before_it.Goals as goal

pub returns : goal.returns
returns c before behind payload gate file so = payload_at before behind payload gate file so
