use Rattle.std.proofs.lemmas.Slice.Eq.{bytes_eq-Decides, slice_eq-Decides}
use Rattle.ak_imports.proofs.same_notes.are_equal.Goals as goal

pub returns : goal.returns
returns c = slice_eq-Decides bytes_eq-Decides c.args.one.now c.args.other.now c.eq.result c.eq.ensures
