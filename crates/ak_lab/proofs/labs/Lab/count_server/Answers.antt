use Rattle.std.proofs.Common.{[], ◌∷◌, List, ℕ, refl, ap}
use Rattle.ak_lab.proofs.Coming.{one_printed}
use Rattle.ak_lab_lines.specs.declared.lab_lines.LabLine.TheVariants as lines
use Rattle.ak_lab_lines.specs.declared.lab_lines.Side.TheVariants as sides
use Rattle.ak_lab.proofs.labs.Lab.count_server.Goals as goal

pub returns-in-Ok-clause-ends : goal.returns-in-Ok-clause-ends
returns-in-Ok-clause-ends c =
    let counted = c.in-Ok.ensures.counted in
    one_printed (lines.Count sides.Server) _ _ c.in-Ok.text c.one_line.result c.one_line.ensures.ok c.one_line.ensures.err
    (counted.0, (counted.1, record { viewed = c.counted_of_server.ensures.viewed; calm = c.counted_of_server.ensures.calm; left = refl }), ap (λ (text : List ℕ). text ∷ []) counted.2)
    (c.counted_of_server.ensures.viewed, refl)
