use Rattle.std.proofs.Common.{sym}
use Rattle.ak_template.proofs.Grammars.{no_fault}
use Rattle.ak_types.proofs.given_types.side_fault.Goals as goal

-- a text with a tree has no fault
pub returns-in-Ok : goal.returns-in-Ok
returns-in-Ok c = sym (no_fault c.args.text.now c.in-Ok.ensures.tree.0 c.in-Ok.ensures.tree.1)
