use Rattle.std.proofs.Common.{sym, ◌∙◌}
use Rattle.ak_memory.specs.declared.versions.Version.TheVariants.{Now}
use Rattle.ak_memory.proofs.RowsUnder.{get-rows_at}
use Rattle.ak_memory.proofs.indexed.IndexedPlaces.get.Goals as goal

pub returns : goal.returns
returns c = c.row_of.ensures ∙ sym (get-rows_at Now c.args.self.now.places.entries c.args.name.now)
