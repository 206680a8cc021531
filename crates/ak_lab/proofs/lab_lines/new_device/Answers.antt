use Rattle.ak_lab.proofs.Copied.{made_new}
use Rattle.ak_lab.proofs.lab_lines.new_device.Goals as goal

pub returns-clause-made : goal.returns-clause-made
returns-clause-made c =
    let copy = c.in_ok-collection.ensures.copy in
    (copy.0, copy.1, rw (c.new-2.ensures, c.new-3.ensures, c.new-4.ensures) (made_new _ _ _ copy.0 copy.2 c.in_ok-undo.ensures))
