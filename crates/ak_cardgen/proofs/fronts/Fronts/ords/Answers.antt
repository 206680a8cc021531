use Rattle.ak_cardgen.proofs.Ascending.{ords_ascend}
use Rattle.ak_cardgen.proofs.fronts.Fronts.ords.Goals as goal

pub returns-clause-ascending : goal.returns-clause-ascending
returns-clause-ascending c = λ note_type are. ords_ascend note_type c.args.face.now c.told_ords.result (c.told_ords.ensures note_type are)
