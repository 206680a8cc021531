use Rattle.std.proofs.Common.{subst}
use Rattle.ak_edit.specs.Overlays.{IsFitting}
use Rattle.ak_edit.proofs.changes.Change.fits.Goals as goal

pub returns : goal.returns
returns c = subst IsFitting c.self.view_is c.self.invariant
