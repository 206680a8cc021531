use Rattle.std.proofs.Common.{Some, ap, ◌∙◌}
use Rattle.std.specs.Option.{option_map}
use Rattle.ak_lab_lines.specs.LabLines.{negated}
use Rattle.ak_lab_lines.proofs.Negatives.{negative_made}
use Rattle.ak_lab_lines.proofs.words.negative_number.Goals as goal

pub returns : goal.returns
returns c =
    ap Some (negative_made c.in_ok-number.number c.in_ok-number.ensures.within) ∙ ap (option_map negated) c.in_ok-number.ensures.number
