use Rattle.std.proofs.Common.{rules, w64, SFits}
use Rattle.std.proofs.lemmas.Int.{to_z-of_z}
use Rattle.ak_line_runs.proofs.answer_pieces.put_id.Goals as goal

pub returns-clause-ok : goal.returns-clause-ok
returns-clause-ok g c =
    let fits : SFits w64 c.args.id.now = search rules in
    rw (to_z-of_z w64 c.args.id.now fits) at c.put_number.ensures.ok

pub returns-clause-part : goal.returns-clause-part
returns-clause-part g c =
    let fits : SFits w64 c.args.id.now = search rules in
    rw (to_z-of_z w64 c.args.id.now fits) at c.put_number.ensures.part
