use Rattle.ak_cardgen.proofs.Ascending.{ascend_by, below}
use Rattle.ak_cardgen.proofs.ords.ords_of.Goals as goal

pub returns-clause-ascending : goal.returns-clause-ascending
returns-clause-ascending c = ascend_by c.args.note_type.now.cloze c.in_ok-face.face c.args.note_type.now.templates c.in_ok-ords.ords (c.in_ok-ords.ensures.ords c.args.note_type.now c.in_ok-fronts.ensures.ok)

pub returns-clause-below : goal.returns-clause-below
returns-clause-below c = below c.args.note_type.now c.in_ok-face.face c.in_ok-ords.ords (c.in_ok-ords.ensures.ords c.args.note_type.now c.in_ok-fronts.ensures.ok)
