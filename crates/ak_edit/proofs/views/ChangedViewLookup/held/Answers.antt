use Rattle.ak_edit.proofs.Viewing.{known_over}
use Rattle.ak_edit.proofs.views.ChangedViewLookup.held.Goals as goal

pub returns-clause-known : goal.returns-clause-known
returns-clause-known g c = known_over (g.R.Lookup.keeping c.args.self.now.from.now) c.args.self.now.change.now c.fits.ensures.rows c.held.ensures.known
