use Rattle.std.proofs.Common.{sym, ap, ◌∙◌}
use Rattle.std.specs.FinMap as finite
use Rattle.ak_memory.specs.Indexes.{rows_of}
use Rattle.ak_memory.specs.declared.versions.Version.TheVariants.{Now}
use Rattle.ak_memory.proofs.RowsUnder.{get-rows_at, no_place, none_found}
use Rattle.ak_memory.proofs.indexed.IndexedPlaces.load.Goals as goal

pub returns-then-not-contains_key-clause-free : goal.returns-then-not-contains_key-clause-free
returns-then-not-contains_key-clause-free c =
    let es = c.args.self.now.places.entries in
    let name = c.name-name.result in
    ap (finite.get (rows_of Now c.args.self.now)) (sym c.name-name.ensures) ∙ get-rows_at Now es name
    ∙ no_place Now es name (none_found _ (sym c.contains_key.ensures ∙ c.if-not-contains_key.true))
